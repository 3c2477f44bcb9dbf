-- The walk that decides which objects are sent.
use Rattle.std.proofs.Common.{◌≡◌, ◌≢◌, ◌⊎◌, inl, inr, ◌==◌, Bool, true, false, true≢false, cond, ℕ, ◌<◌, length, slice_index_or, List, [], ◌∷◌, ◌++◌, All, Contains, Option, None, Some, map, append-nil, refl, sym, ap, subst, ◌∙◌}
use Rattle.std.specs.List.{filter_map, cons_option}
use Rattle.std.specs.Option.{option_map, option_to_list}
use Rattle.std.specs.Str.{bytes_eq}
use Rattle.std.proofs.lemmas.Bool.{cases_Bool, false≢true}
use Rattle.std.proofs.lemmas.List.Elements.{All-append, All-cons, All-contains, All-contains_itself, All-map, All-nil, All-push, All-weaker, Contains-append_left, Contains-append_right, Contains-push_cases}
use Rattle.std.proofs.lemmas.Option.{none-some, same_Some}
use Rattle.std.proofs.lemmas.Slice.Eq.{bytes_eq-Decides}
use Rattle.gname.specs.Ids.{Id}
use Rattle.gdag.proofs.IdLists.{contains_cases, contains_head, contains_tail, nothing_in_nil}
use Rattle.gobject.specs.declared.node.Entry.{Entry}
use Rattle.gitobject.specs.Trees as trees
use Rattle.gitobject.specs.Trees.{entry_link, link_of, link_to}
use Rattle.gitobject.specs.declared.links.Link.{Link}
use Rattle.gitobject.specs.declared.types.ObjectType.{ObjectType}
use Rattle.gitobject.specs.declared.types.ObjectType.TheVariants.{Commit, Tree, Blob, Tag}
use Rattle.gitobject.proofs.EntryLemmas.{links_more}
use Rattle.gitobjects.specs.declared.store.Found.{Found}
use Rattle.gcomplete.specs.Stores.{GitObject, object_of}
use Rattle.gitwalk.specs.Entries.{id_of_entry, ids_of}
use Rattle.gitwalk.specs.Gathering.{AreDistinct, Fates, FollowedOf, IsBelowLeftOut, IsBelowListed, IsDecided, IsFollowed, IsGathered, IsLeftOut, IsListed, IsNamedBlob, IsParent, IsSentAt, IsWalked, LeadsToDecided, decided_at, fate_at, fate_of, here, is_sent, is_sent_at, onward}
use Rattle.gitwalk.specs.Received.{IsInPack}
use Rattle.gitwalk.specs.StoredTrees.{linked_kind}
use Rattle.gitwalk.specs.steps.Walking.{Decides, HasDecidedParents, HasFateAs, HasIdIn, HasItsFate, HasNoReceived, IsCovered, IsDecidedAs, IsNew, IsOnTheWay, IsOnlyListed, IsOpen, IsPending, IsReceived, IsSentEntry, IsUnderWay, IsWalkedEntry, LeadsToCovered, Notes, NotesObject, Puts, SetsFate, Settles, StaysDecided, id_of_tree}
use Rattle.gitwalk.specs.declared.fates.Decided.{Decided}
use Rattle.gitwalk.specs.declared.fates.Fate.{Fate}
use Rattle.gitwalk.specs.declared.fates.Fate.TheVariants.{Sent, NotSent}
use Rattle.gitwalk.specs.declared.walk.PendingTree.{PendingTree}
use Rattle.gitwalk.specs.declared.walk.Walk.{Walk}

-- ---- fates

not_sent : (fate : Fate) → is_sent fate ≡ false → fate ≡ NotSent
not_sent (Sent path) is = absurd (true≢false is)
not_sent NotSent is = refl

pub sent_fate : (fates : Fates) (a : Id) → IsSentAt fates a → (fate : Fate) × (fate_at fates a ≡ Some fate) × (is_sent fate ≡ true)
sent_fate fates a is = by (fate_at fates a) refl
  where
    by : (f : Option Fate) → fate_at fates a ≡ f → (fate : Fate) × (fate_at fates a ≡ Some fate) × (is_sent fate ≡ true)
    by None none = absurd (false≢true (sym (ap is_sent_at none) ∙ is))
    by (Some fate) some = (fate, some, sym (ap is_sent_at some) ∙ is)

pub is_sent_there : (fates : Fates) (a : Id) (fate : Fate) → fate_at fates a ≡ Some fate → is_sent fate ≡ true → IsSentAt fates a
is_sent_there fates a fate at is = ap is_sent_at at ∙ is

pub keeps_same : (old new : Fates) → new ≡ old → StaysDecided old new
keeps_same old new same a decided is = ap (λ (f : Fates). decided_at f a) same ∙ is

pub keeps_on : (old mid new : Fates) → StaysDecided old mid → StaysDecided mid new → StaysDecided old new
keeps_on old mid new one two a decided is = two a decided (one a decided is)

-- what is decided for an id with this fate
pub with_fate : (fates : Fates) (a : Id) (fate : Fate) → fate_at fates a ≡ Some fate
    → (decided : Decided) × (decided_at fates a ≡ Some decided) × (decided.fate ≡ fate)
with_fate fates a fate is = by (decided_at fates a) refl
  where
    by : (found : Option Decided) → decided_at fates a ≡ found → (decided : Decided) × (decided_at fates a ≡ Some decided) × (decided.fate ≡ fate)
    by None none = absurd (none-some fate (sym (ap (option_map fate_of) none) ∙ is))
    by (Some decided) some = (decided, some, same_Some decided.fate fate (sym (ap (option_map fate_of) some) ∙ is))

pub fate_there : (fates : Fates) (a : Id) (decided : Decided) → decided_at fates a ≡ Some decided → fate_at fates a ≡ Some decided.fate
fate_there fates a decided is = ap (option_map fate_of) is

-- no fate changes
pub keeps_fate : (old new : Fates) → StaysDecided old new → (a : Id) (fate : Fate) → fate_at old a ≡ Some fate → fate_at new a ≡ Some fate
keeps_fate old new keeps a fate is =
    let found = with_fate old a fate is in fate_there new a found.0 (keeps a found.0 found.1) ∙ ap (λ f. Some f) found.2

-- an id is undecided if it has no fate
pub undecided : (fates : Fates) (a : Id) → fate_at fates a ≡ None → decided_at fates a ≡ None
undecided fates a none = by (decided_at fates a) refl
  where
    by : (found : Option Decided) → decided_at fates a ≡ found → decided_at fates a ≡ None
    by None is = is
    by (Some decided) is = absurd (none-some decided.fate (sym none ∙ ap (option_map fate_of) is))

pub sent_more : (old new : Fates) → StaysDecided old new → (a : Id) → IsSentAt old a → IsSentAt new a
sent_more old new keeps a is = let fate = sent_fate old a is in is_sent_there new a fate.0 (keeps_fate old new keeps a fate.0 fate.1) fate.2

pub decided_more : (old new : Fates) → StaysDecided old new → (a : Id) → IsDecided old a → IsDecided new a
decided_more old new keeps a is = (is.0, keeps_fate old new keeps a is.0 is.1)

pub all_decided_more : (old new : Fates) → StaysDecided old new → (ids : List Id) → All (IsDecided old) ids → All (IsDecided new) ids
all_decided_more old new keeps ids all = All-weaker (IsDecided old) (IsDecided new) (decided_more old new keeps) ids all

trees_more : (old new : Fates) → StaysDecided old new → (trees : List PendingTree) → All (HasItsFate old) trees → All (HasItsFate new) trees
trees_more old new keeps trees all = All-weaker (HasItsFate old) (HasItsFate new) (λ t is. keeps_fate old new keeps t.id t.fate is) trees all

-- two steps keep what each of them keeps
pub received_on : {A : Type 0} (old mid new : Walk A) → mid.received ≡ old.received → new.received ≡ mid.received → new.received ≡ old.received
received_on old mid new one two = two ∙ one

pub trees_on : {A : Type 0} (old mid new : Walk A) → mid.trees.items ≡ old.trees.items → new.trees.items ≡ mid.trees.items → new.trees.items ≡ old.trees.items
trees_on old mid new one two = two ∙ one

pub still_alone : {A : Type 0} (old new : Walk A) → HasNoReceived old → new.received ≡ old.received → HasNoReceived new
still_alone old new alone same = ap (λ r. r.now) same ∙ alone

-- nothing is received by a walk that is alone
pub not_received : {A : Type 0} (walk : Walk A) (link : Link) → HasNoReceived walk → IsReceived walk link → ⊥
not_received walk link alone is = nothing_in_nil is.object (subst (λ objects. Contains objects is.object) alone is.among)

pub trees_none : {A : Type 0} (old new : Walk A) → old.trees.items ≡ [] → new.trees.items ≡ old.trees.items → new.trees.items ≡ []
trees_none old new none same = same ∙ none

-- ---- a fate is set

pub puts_here : (old new : Fates) (a : Id) (decided : Decided) → Puts old a decided new → decided_at new a ≡ Some decided
puts_here old new a decided puts = puts a ∙ ap (λ b. cond b (Some decided) (decided_at old a)) ((bytes_eq-Decides a a).1 refl)

pub puts_only : (old new : Fates) (a : Id) (decided : Decided) → Puts old a decided new
    → (b : Id) (d : Decided) → decided_at new b ≡ Some d → (decided_at old b ≡ Some d) ⊎ ((a ≡ b) × (d ≡ decided))
puts_only old new a decided puts b d is =
    elim (cases_Bool (bytes_eq a b)) [
      | inl same ↦
          inr (
            (bytes_eq-Decides a b).0 same,
            sym (same_Some decided d (sym (ap (λ t. cond t (Some decided) (decided_at old b)) same) ∙ sym (puts b) ∙ is)),
          )
      | inr other ↦ inl (sym (ap (λ t. cond t (Some decided) (decided_at old b)) other) ∙ sym (puts b) ∙ is)
    ]

pub puts_keeps : (old new : Fates) (a : Id) (decided : Decided) → decided_at old a ≡ None → Puts old a decided new → StaysDecided old new
puts_keeps old new a decided none puts b d is =
    elim (cases_Bool (bytes_eq a b)) [
      | inl same ↦
          (let P : Id → Type 0 = λ k. decided_at old k ≡ Some d in
          absurd (none-some d (sym none ∙ subst P (sym ((bytes_eq-Decides a b).0 same)) is)))
      | inr other ↦ puts b ∙ ap (λ t. cond t (Some decided) (decided_at old b)) other ∙ is
    ]

-- the new fate is that of the id, and each other fate is as before
pub fate_here : (old new : Fates) (a : Id) (decided : Decided) → Puts old a decided new → fate_at new a ≡ Some decided.fate
fate_here old new a decided puts = fate_there new a decided (puts_here old new a decided puts)

pub fate_only : (old new : Fates) (a : Id) (decided : Decided) → Puts old a decided new
    → (b : Id) (f : Fate) → fate_at new b ≡ Some f → (fate_at old b ≡ Some f) ⊎ ((a ≡ b) × (f ≡ decided.fate))
fate_only old new a decided puts b f is =
    let found = with_fate new b f is in
    elim (puts_only old new a decided puts b found.0 found.1) [
      | inl before ↦ inl (fate_there old b found.0 before ∙ ap (λ x. Some x) found.2)
      | inr this ↦ inr (this.0, sym found.2 ∙ ap fate_of this.1)
    ]

-- a fate is set, unless it was decided
pub decides_settles : {A : Type 0} (located : Id → Found → Type 0) (old new : Walk A) (a : Id) (fate : Fate) (found : Option Found)
    → Decides located old a None fate found new → Settles located old a fate found new
decides_settles located old new a fate None is = (inl is.0, is.1)
decides_settles located old new a fate (Some found) is = is

-- ---- links are noted, one after the other

pub decided_as_more : (old new : Fates) → StaysDecided old new → (link : Link) → IsDecidedAs old link → IsDecidedAs new link
decided_as_more old new keeps link is = (is.0, keeps link.id is.0 is.1, is.2)

pub covered_more : {A : Type 0} (old new : Walk A) → new.received ≡ old.received → StaysDecided old.fates new.fates → (link : Link)
    → LeadsToCovered old link → LeadsToCovered new link
covered_more old new same keeps link (inl received) = inl (subst (λ objects. IsInPack objects link) (sym (ap (λ r. r.now) same)) received)
covered_more old new same keeps link (inr decided) = inr (decided_as_more old.fates new.fates keeps link decided)

-- a decided object has the type of the link, or no link was followed to it
pub agrees : (fates : Fates) (link : Link) → IsDecided fates link.id
    → (linked_kind (decided_at fates link.id) ≡ None) ⊎ (linked_kind (decided_at fates link.id) ≡ Some link.kind) → IsDecidedAs fates link
agrees fates link is kinds =
    let found = with_fate fates link.id is.0 is.1 in
    let at = ap linked_kind found.1 in (
      found.0,
      found.1,
      elim kinds [
        | inl none ↦ inl (sym at ∙ none)
        | inr same ↦ inr (sym at ∙ same)
      ],
    )

pub notes_none : {A : Type 0} (located : Id → Found → Type 0) (walk : Walk A) (sent : Bool) → Notes located walk [] sent walk
notes_none located walk sent = record {
  received = refl;
  keeps = λ a decided is. is;
  each = All-nil (LeadsToCovered walk);
  only = λ a decided is. inl is;
  pending = λ a is. is;
  trees = λ all. all;
}

-- a link to an object that was covered
pub notes_covered : {A : Type 0} (located : Id → Found → Type 0) (old new : Walk A) (link : Link) (sent : Bool) → new.received ≡ old.received
    → new.trees.items ≡ old.trees.items → LeadsToCovered new link → new.fates ≡ old.fates → Notes located old (link ∷ []) sent new
notes_covered located old new link sent received trees covered same = record {
  received = received;
  keeps = keeps;
  each = All-cons (LeadsToCovered new) link [] covered (All-nil (LeadsToCovered new));
  only = λ a decided is. inl (keeps_same new.fates old.fates (sym same) a decided is);
  pending = λ a is. subst (λ ts. Contains (map id_of_tree ts) a) (sym trees) is;
  trees = λ all. subst (All (HasItsFate new.fates)) (sym trees) (trees_more old.fates new.fates keeps old.trees.items all);
}
  where
    keeps : StaysDecided old.fates new.fates
    keeps = keeps_same old.fates new.fates same

-- a link to an object of the received pack
pub notes_received : {A : Type 0} (located : Id → Found → Type 0) (walk : Walk A) (link : Link) (sent : Bool) → IsReceived walk link
    → Notes located walk (link ∷ []) sent walk
notes_received located walk link sent is = notes_covered located walk walk link sent refl refl (inl is) refl

-- a link to an id that was not decided
notes_one : {A : Type 0} (located : Id → Found → Type 0) (old new : Walk A) (link : Link) (decided : Decided) → new.received ≡ old.received
    → SetsFate located old.fates link.id decided new.fates → decided.kind ≡ Some link.kind → (link.kind ≢ Tree) ⊎ IsPending new link.id
    → ((a : Id) → IsPending old a → IsPending new a)
    → (All (HasItsFate old.fates) old.trees.items → All (HasItsFate new.fates) new.trees.items) → Notes located old (link ∷ []) (is_sent decided.fate) new
notes_one located old new link decided received sets linked waits pending trees = record {
  received = received;
  keeps = puts_keeps old.fates new.fates link.id decided sets.undecided sets.puts;
  each = All-cons (LeadsToCovered new) link [] (inr (decided, puts_here old.fates new.fates link.id decided sets.puts, inr linked)) (All-nil (LeadsToCovered new));
  only = only;
  pending = pending;
  trees = trees;
}
  where
    at_link : IsNew located new (link ∷ []) link.id decided
    at_link = record { found = sets.found; kind = link.kind; linked = linked; among = contains_head link []; waits = waits }

    only : (a : Id) (d : Decided) → decided_at new.fates a ≡ Some d
        → (decided_at old.fates a ≡ Some d) ⊎ ((is_sent d.fate ≡ is_sent decided.fate) × IsNew located new (link ∷ []) a d)
    only a d is =
        elim (puts_only old.fates new.fates link.id decided sets.puts a d is) [
          | inl before ↦ inl before
          | inr this ↦ inr (
            ap (λ x. is_sent x.fate) this.1,
            subst (λ x. IsNew located new (link ∷ []) a x) (sym this.1) (subst (λ b. IsNew located new (link ∷ []) b decided) this.0 at_link),
          )
        ]

pub notes_other : {A : Type 0} (located : Id → Found → Type 0) (old new : Walk A) (link : Link) (decided : Decided) → new.received ≡ old.received
    → new.trees.items ≡ old.trees.items → SetsFate located old.fates link.id decided new.fates → decided.kind ≡ Some link.kind → link.kind ≢ Tree
    → Notes located old (link ∷ []) (is_sent decided.fate) new
notes_other located old new link decided received trees sets linked other =
    notes_one located old new link decided received sets linked (inl other) (λ a is. subst (λ ts. Contains (map id_of_tree ts) a) (sym trees) is)
    (λ all. subst (All (HasItsFate new.fates)) (sym trees)
    (trees_more old.fates new.fates (puts_keeps old.fates new.fates link.id decided sets.undecided sets.puts) old.trees.items all))

pub ids_pushed : (ts : List PendingTree) (t : PendingTree) → map id_of_tree (ts ++ t ∷ []) ≡ map id_of_tree ts ++ t.id ∷ []
ids_pushed [] t = refl
ids_pushed (x ∷ ts) t = ap (λ ids. x.id ∷ ids) (ids_pushed ts t)

pub notes_tree : {A : Type 0} (located : Id → Found → Type 0) (old new : Walk A) (link : Link) (decided : Decided) (t : PendingTree)
    (before : List PendingTree) → new.received ≡ old.received → before ≡ old.trees.items → new.trees.items ≡ before ++ t ∷ []
    → SetsFate located old.fates link.id decided new.fates → decided.kind ≡ Some link.kind → t.id ≡ link.id → t.fate ≡ decided.fate
    → Notes located old (link ∷ []) (is_sent decided.fate) new
notes_tree located old new link decided t before received kept pushed sets linked same fate =
    notes_one located old new link decided received sets linked (inr waits) pending its_fate
  where
    trees : new.trees.items ≡ old.trees.items ++ t ∷ []
    trees = pushed ∙ ap (λ ts. ts ++ t ∷ []) kept

    ids : map id_of_tree new.trees.items ≡ map id_of_tree old.trees.items ++ t.id ∷ []
    ids = ap (map id_of_tree) trees ∙ ids_pushed old.trees.items t

    pending : (a : Id) → IsPending old a → IsPending new a
    pending a is = subst (λ is. Contains is a) (sym ids) (Contains-append_left (map id_of_tree old.trees.items) (t.id ∷ []) a is)

    waits : IsPending new link.id
    waits =
        subst (λ is. Contains is link.id) (sym ids)
        (Contains-append_right (map id_of_tree old.trees.items) (t.id ∷ []) link.id (subst (Contains (t.id ∷ [])) same (contains_head t.id [])))

    its : fate_at new.fates t.id ≡ Some t.fate
    its =
        ap (fate_at new.fates) same ∙ fate_here old.fates new.fates link.id decided sets.puts ∙ ap (λ f. Some f) (sym fate)

    its_fate : All (HasItsFate old.fates) old.trees.items → All (HasItsFate new.fates) new.trees.items
    its_fate all =
        subst (All (HasItsFate new.fates)) (sym trees)
        (All-push (HasItsFate new.fates) old.trees.items t
        (trees_more old.fates new.fates (puts_keeps old.fates new.fates link.id decided sets.undecided sets.puts) old.trees.items all) its)

new_more : {A : Type 0} (located : Id → Found → Type 0) (mid new : Walk A) (links more : List Link) → ((a : Id) → IsPending mid a → IsPending new a)
    → ((link : Link) → Contains links link → Contains more link) → (a : Id) (d : Decided) → IsNew located mid links a d → IsNew located new more a d
new_more located mid new links more pending within a d is =
    record { found = is.found; kind = is.kind; linked = is.linked; among = within (link_of is.kind a) is.among; waits = waits is.waits }
  where
    waits : (is.kind ≢ Tree) ⊎ IsPending mid a → (is.kind ≢ Tree) ⊎ IsPending new a
    waits (inl other) = inl other
    waits (inr there) = inr (pending a there)

pub notes_more : {A : Type 0} (located : Id → Found → Type 0) (old mid new : Walk A) (front back : List Link) (sent : Bool) → Notes located old front sent mid
    → Notes located mid back sent new → Notes located old (front ++ back) sent new
notes_more located old mid new front back sent one two = record {
  received = two.received ∙ one.received;
  keeps = keeps_on old.fates mid.fates new.fates one.keeps two.keeps;
  each = All-append (LeadsToCovered new) front back
      (All-weaker (LeadsToCovered mid) (LeadsToCovered new) (covered_more mid new two.received two.keeps) front one.each) two.each;
  only = only;
  pending = λ a is. two.pending a (one.pending a is);
  trees = λ all. two.trees (one.trees all);
}
  where
    earlier : (a : Id) (d : Decided) → (decided_at old.fates a ≡ Some d) ⊎ ((is_sent d.fate ≡ sent) × IsNew located mid front a d)
        → (decided_at old.fates a ≡ Some d) ⊎ ((is_sent d.fate ≡ sent) × IsNew located new (front ++ back) a d)
    earlier a d (inl before) = inl before
    earlier a d (inr this) =
        inr (this.0, new_more located mid new front (front ++ back) two.pending (λ link is. Contains-append_left front back link is) a d this.1)

    only : (a : Id) (d : Decided) → decided_at new.fates a ≡ Some d
        → (decided_at old.fates a ≡ Some d) ⊎ ((is_sent d.fate ≡ sent) × IsNew located new (front ++ back) a d)
    only a d is =
        elim (two.only a d is) [
          | inl before ↦ earlier a d (one.only a d before)
          | inr this ↦
              inr (this.0, new_more located new new back (front ++ back) (λ b there. there) (λ link there. Contains-append_right front back link there) a d this.1)
        ]

-- each new fate is the fate of an object that a link leads to
pub notes_only : {A : Type 0} (located : Id → Found → Type 0) (old new : Walk A) (links : List Link) (sent : Bool) → Notes located old links sent new
    → (a : Id) (fate : Fate) → fate_at new.fates a ≡ Some fate
    → (fate_at old.fates a ≡ Some fate) ⊎ ((is_sent fate ≡ sent) × ((d : Decided) × IsNew located new links a d))
notes_only located old new links sent notes a fate is =
    let found = with_fate new.fates a fate is in
    elim (notes.only a found.0 found.1) [
      | inl before ↦ inl (fate_there old.fates a found.0 before ∙ ap (λ f. Some f) found.2)
      | inr this ↦ inr (ap is_sent (sym found.2) ∙ this.0, (found.0, this.1))
    ]

-- one more entry of a tree
pub notes_entry : {A : Type 0} (located : Id → Found → Type 0) (old mid new : Walk A) (done : List trees.Entry) (e : trees.Entry) (link : Option Link)
    (sent now : Bool) → link ≡ entry_link e → now ≡ sent → Notes located old (filter_map entry_link done) sent mid
    → Notes located mid (option_to_list link) now new → Notes located old (filter_map entry_link (done ++ e ∷ [])) sent new
notes_entry located old mid new done e link sent now is same before this =
    let links = filter_map entry_link done in
    subst (λ (ls : List Link). Notes located old ls sent new) (links_more done e link links (links ++ option_to_list link) refl is refl)
    (notes_more located old mid new links (option_to_list link) sent before (subst (λ s. Notes located mid (option_to_list link) s new) same this))

-- all entries of a tree
pub notes_tree_body : {A : Type 0} (located : Id → Found → Type 0) (old new : Walk A) (body rest : List ℕ) (done : List trees.Entry) (sent : Bool)
    → All trees.IsEntry done → body ≡ trees.tree_text done ++ rest → rest ≡ [] → Notes located old (filter_map entry_link done) sent new
    → NotesObject located old Tree body sent new
notes_tree_body located old new body rest done sent each is over notes = record {
  links = filter_map entry_link done;
  follows = (done, record { is = is ∙ ap (λ r. trees.tree_text done ++ r) over ∙ append-nil (trees.tree_text done); each = each }, refl);
  notes = notes;
}

-- ---- followed links lead to trees and blobs

abbrev IsTreeOrBlob : Link → Type 0
IsTreeOrBlob link = (link.kind ≡ Tree) ⊎ (link.kind ≡ Blob)

entry_cases : (p q r : Bool) (a : Id) (links : List Link) → All IsTreeOrBlob links
    → All IsTreeOrBlob (cons_option (link_to (cond p (Some Tree) (cond q (Some Blob) (cond r (Some Blob) None))) a) links)
entry_cases true q r a links all = All-cons IsTreeOrBlob (link_of Tree a) links (inl refl) all
entry_cases false true r a links all = All-cons IsTreeOrBlob (link_of Blob a) links (inr refl) all
entry_cases false false true a links all = All-cons IsTreeOrBlob (link_of Blob a) links (inr refl) all
entry_cases false false false a links all = all

entries_lead : (entries : List trees.Entry) → All IsTreeOrBlob (filter_map entry_link entries)
entries_lead [] = All-nil IsTreeOrBlob
entries_lead (e ∷ entries) =
    let n = trees.file_type e.mode in entry_cases (n == 4) (n == 8) (n == 10) e.id (filter_map entry_link entries) (entries_lead entries)

pub follows_down : (kind : ObjectType) (body : List ℕ) (links : List Link) → FollowedOf kind body links → All IsTreeOrBlob links
follows_down Commit body links is = subst (All IsTreeOrBlob) (sym is.3) (All-cons IsTreeOrBlob (link_of Tree is.0) [] (inl refl) (All-nil IsTreeOrBlob))
follows_down Tree body links is = subst (All IsTreeOrBlob) (sym is.2) (entries_lead is.0)
follows_down Blob body links is = subst (All IsTreeOrBlob) (sym is) (All-nil IsTreeOrBlob)
follows_down Tag body links is = subst (All IsTreeOrBlob) (sym is) (All-nil IsTreeOrBlob)

-- ---- the walk goes on

pub walked_more : (has : Id → GitObject → Type 0) (listed : List Id) (old new : Fates) → StaysDecided old new → (a : Id) → IsWalked has listed old a → IsWalked has listed new a
walked_more has listed old new keeps a is = record {
  object = is.object;
  read = is.read;
  part = is.part;
  links = is.links;
  follows = is.follows;
  each = All-weaker (LeadsToDecided old) (LeadsToDecided new) (λ link decided. decided_more old new keeps link.id decided) is.links is.each;
}

at_client_more : {A : Type 0} (has : Id → GitObject → Type 0) (entries : List (Entry A)) (old new : Fates) → StaysDecided old new → (a : Id)
    → IsBelowLeftOut has entries old a → IsBelowLeftOut has entries new a
at_client_more has entries old new keeps a is = record {
  parent = is.parent;
  of_entry = is.of_entry;
  left_out = keeps_fate old new keeps is.parent NotSent is.left_out;
  leads = is.leads;
}

blob_more : (has : Id → GitObject → Type 0) (old new : Fates) → StaysDecided old new → (a : Id) → IsNamedBlob has old a → IsNamedBlob has new a
blob_more has old new keeps a is = record { by = is.by; sent = sent_more old new keeps is.by is.sent; names = is.names }

on_way_more : {A : Type 0} (has : Id → GitObject → Type 0) (listed waiting : List Id) (old new : Walk A) → StaysDecided old.fates new.fates
    → ((a : Id) → IsPending old a → IsPending new a) → (a : Id) → IsOnTheWay has listed waiting old a → IsOnTheWay has listed waiting new a
on_way_more has listed waiting old new keeps pending a (inl waits) = inl waits
on_way_more has listed waiting old new keeps pending a (inr (inl blob)) = inr (inl (blob_more has old.fates new.fates keeps a blob))
on_way_more has listed waiting old new keeps pending a (inr (inr (inl walked))) = inr (inr (inl (walked_more has listed old.fates new.fates keeps a walked)))
on_way_more has listed waiting old new keeps pending a (inr (inr (inr there))) = inr (inr (inr (pending a there)))

-- a walk that is alone decides what it covers
pub link_decided : {A : Type 0} (walk : Walk A) (link : Link) → HasNoReceived walk → LeadsToCovered walk link → IsDecided walk.fates link.id
link_decided walk link alone (inl received) = absurd (not_received walk link alone received)
link_decided walk link alone (inr decided) = (decided.0.fate, fate_there walk.fates link.id decided.0 decided.1)

pub all_decided : {A : Type 0} (walk : Walk A) (links : List Link) → HasNoReceived walk → All (LeadsToCovered walk) links → All (LeadsToDecided walk.fates) links
all_decided walk links alone all = All-weaker (LeadsToCovered walk) (LeadsToDecided walk.fates) (λ link is. link_decided walk link alone is) links all

-- an object was read, and its links were noted
pub walked_now : {A : Type 0} (has : Id → GitObject → Type 0) (located : Id → Found → Type 0) (listed : List Id) (old new : Walk A) (a : Id) (object : GitObject)
    (links : List Link) (sent : Bool) → has a object → FollowedOf object.kind object.body links → (object.kind ≡ Tree) ⊎ Contains listed a
    → Notes located old links sent new → HasNoReceived old → IsWalked has listed new.fates a
walked_now has located listed old new a object links sent read follows part notes alone = record {
  object = object;
  read = read;
  part = part;
  links = links;
  follows = follows;
  each = all_decided new links (still_alone old new alone notes.received) notes.each;
}

module _ {A : Type 0} (has : Id → GitObject → Type 0) (located : Id → Found → Type 0) (entries : List (Entry A)) (waiting : List Id) (old new : Walk A)
    (a : Id) (object : GitObject) (links : List Link) (fate : Fate) (read : has a object) (follows : FollowedOf object.kind object.body links)
    (root : HasFateAs old.fates a fate) (notes : Notes located old links (is_sent fate) new) (way : IsUnderWay has entries waiting old) where
  followed : (link : Link) → Contains links link → IsFollowed has a link
  followed link among = record { object = object; read = read; links = links; follows = follows; among = among }

  left_here : (b : Id) (kind : ObjectType) → Contains links (link_of kind b) → false ≡ is_sent fate → IsBelowLeftOut has entries new.fates b
  left_here b kind among is =
      let own = not_sent root.own (root.same ∙ sym is) in
      let known = at_client_more has entries old.fates new.fates notes.keeps a (way.left_out a (root.decided ∙ ap (λ f. Some f) own)) in
      record {
        parent = known.parent;
        of_entry = known.of_entry;
        left_out = known.left_out;
        leads = onward (link_of kind b) known.leads (followed (link_of kind b) among);
      }

  new_left : (b : Id) → IsLeftOut new.fates b → IsBelowLeftOut has entries new.fates b
  new_left b is =
      elim (notes_only located old new links (is_sent fate) notes b NotSent is) [
        | inl before ↦ at_client_more has entries old.fates new.fates notes.keeps b (way.left_out b before)
        | inr this ↦ left_here b this.1.1.kind this.1.1.among this.0
      ]

  root_sent : is_sent fate ≡ true → IsSentAt old.fates a
  root_sent is = is_sent_there old.fates a root.own root.decided (root.same ∙ is)

  reached_here : (b : Id) (kind : ObjectType) → Contains links (link_of kind b) → is_sent fate ≡ true → IsBelowListed has entries b
  reached_here b kind among is =
      let before = way.from a (root_sent is) in
      record { root = before.root; listed = before.listed; leads = onward (link_of kind b) before.leads (followed (link_of kind b) among) }

  new_from : (b : Id) → IsSentAt new.fates b → IsBelowListed has entries b
  new_from b is =
      let f = sent_fate new.fates b is in
      elim (notes_only located old new links (is_sent fate) notes b f.0 f.1) [
        | inl before ↦ way.from b (is_sent_there old.fates b f.0 before f.2)
        | inr this ↦ reached_here b this.1.1.kind this.1.1.among (sym this.0 ∙ f.2)
      ]

  blob_here : (b : Id) (kind : ObjectType) → Contains links (link_of kind b) → kind ≢ Tree → is_sent fate ≡ true → IsNamedBlob has new.fates b
  blob_here b kind among other is =
      elim (All-contains IsTreeOrBlob links (link_of kind b) (follows_down object.kind object.body links follows) among) [
        | inl tree ↦ absurd (other tree)
        | inr blob ↦ record {
          by = a;
          sent = sent_more old.fates new.fates notes.keeps a (root_sent is);
          names = subst (λ k. IsFollowed has a (link_of k b)) blob (followed (link_of kind b) among);
        }
      ]

  new_here : (b : Id) (d : Decided) → is_sent fate ≡ true → IsNew located new links b d → IsOnTheWay has (ids_of entries) waiting new b
  new_here b d goes is =
      elim is.waits [
        | inl other ↦ inr (inl (blob_here b is.kind is.among other goes))
        | inr there ↦ inr (inr (inr there))
      ]

  new_sent : (b : Id) → IsSentAt new.fates b → IsOnTheWay has (ids_of entries) waiting new b
  new_sent b is =
      let f = sent_fate new.fates b is in
      elim (notes_only located old new links (is_sent fate) notes b f.0 f.1) [
        | inl before ↦ on_way_more has (ids_of entries) waiting old new notes.keeps notes.pending b (way.sent b (is_sent_there old.fates b f.0 before f.2))
        | inr this ↦ new_here b this.1.0 (sym this.0 ∙ f.2) this.1.1
      ]

  pub goes_on : IsUnderWay has entries waiting new
  goes_on = record { alone = still_alone old new way.alone notes.received; sent = new_sent; from = new_from; left_out = new_left; trees = notes.trees way.trees }

-- no tree is pending, so none is taken
pub none_taken : {A : Type 0} (old new : Walk A) (t : Option PendingTree) → t ≡ None → old.trees.items ≡ new.trees.items ++ option_to_list t
    → new.trees.items ≡ old.trees.items
none_taken old new t none is = sym (is ∙ ap (λ o. new.trees.items ++ option_to_list o) none ∙ append-nil new.trees.items)

-- a pending tree is taken
pub tree_taken : {A : Type 0} (has : Id → GitObject → Type 0) (entries : List (Entry A)) (waiting : List Id) (old new : Walk A) (t : PendingTree)
    → new.received ≡ old.received → new.fates ≡ old.fates → old.trees.items ≡ new.trees.items ++ t ∷ [] → IsUnderWay has entries waiting old
    → IsUnderWay has entries (t.id ∷ waiting) new × HasFateAs new.fates t.id t.fate
tree_taken has entries waiting old new t received fates trees way =
    (record { alone = still_alone old new way.alone received; sent = sent; from = from_listed; left_out = left_out; trees = front_all }, record { own = t.fate; decided = its_fate; same = refl })
  where
    keeps : StaysDecided old.fates new.fates
    keeps = keeps_same old.fates new.fates fates

    all : All (HasItsFate new.fates) (new.trees.items ++ t ∷ [])
    all = trees_more old.fates new.fates keeps (new.trees.items ++ t ∷ []) (subst (All (HasItsFate old.fates)) trees way.trees)

    front_all : All (HasItsFate new.fates) new.trees.items
    front_all =
        All-weaker (Contains new.trees.items) (HasItsFate new.fates)
        (λ x among. All-contains (HasItsFate new.fates) (new.trees.items ++ t ∷ []) x all (Contains-append_left new.trees.items (t ∷ []) x among))
        new.trees.items (All-contains_itself new.trees.items)

    its_fate : fate_at new.fates t.id ≡ Some t.fate
    its_fate = All-contains (HasItsFate new.fates) (new.trees.items ++ t ∷ []) t all (Contains-append_right new.trees.items (t ∷ []) t (contains_head t []))

    by : (a : Id) → IsOnTheWay has (ids_of entries) waiting old a → IsOnTheWay has (ids_of entries) (t.id ∷ waiting) new a
    by a (inl waits) = inl (contains_tail t.id waiting a waits)
    by a (inr (inl blob)) = inr (inl (blob_more has old.fates new.fates keeps a blob))
    by a (inr (inr (inl walked))) = inr (inr (inl (walked_more has (ids_of entries) old.fates new.fates keeps a walked)))
    by a (inr (inr (inr there))) =
        elim (Contains-push_cases (map id_of_tree new.trees.items) t.id a (subst (λ is. Contains is a) (ap (map id_of_tree) trees ∙ ids_pushed new.trees.items t) there)) [
          | inl rest ↦ inr (inr (inr rest))
          | inr this ↦ inl (subst (Contains (t.id ∷ waiting)) this (contains_head t.id waiting))
        ]

    sent : (a : Id) → IsSentAt new.fates a → IsOnTheWay has (ids_of entries) (t.id ∷ waiting) new a
    sent a is = by a (way.sent a (sent_more new.fates old.fates (keeps_same new.fates old.fates (sym fates)) a is))

    from_listed : (a : Id) → IsSentAt new.fates a → IsBelowListed has entries a
    from_listed a is = way.from a (sent_more new.fates old.fates (keeps_same new.fates old.fates (sym fates)) a is)

    left_out : (a : Id) → IsLeftOut new.fates a → IsBelowLeftOut has entries new.fates a
    left_out a is = at_client_more has entries old.fates new.fates keeps a
        (way.left_out a (keeps_fate new.fates old.fates (keeps_same new.fates old.fates (sym fates)) a NotSent is))

-- a tree that was taken was walked
pub tree_walked : {A : Type 0} (has : Id → GitObject → Type 0) (entries : List (Entry A)) (waiting : List Id) (walk : Walk A) (a : Id)
    → IsWalked has (ids_of entries) walk.fates a → IsUnderWay has entries (a ∷ waiting) walk → IsUnderWay has entries waiting walk
tree_walked has entries waiting walk a walked way = record { alone = way.alone; sent = λ b is. by b (way.sent b is); from = way.from; left_out = way.left_out; trees = way.trees }
  where
    by : (b : Id) → IsOnTheWay has (ids_of entries) (a ∷ waiting) walk b → IsOnTheWay has (ids_of entries) waiting walk b
    by b (inr other) = inr other
    by b (inl waits) =
        elim (contains_cases a waiting b waits) [
          | inl same ↦ inr (inr (inl (subst (IsWalked has (ids_of entries) walk.fates) same walked)))
          | inr later ↦ inl later
        ]

-- a pending tree is taken and walked
pub tree_step : {A : Type 0} (has : Id → GitObject → Type 0) (located : Id → Found → Type 0) (entries : List (Entry A)) (old mid new : Walk A) (t : PendingTree)
    (body : List ℕ) → mid.received ≡ old.received → mid.fates ≡ old.fates → old.trees.items ≡ mid.trees.items ++ t ∷ [] → has t.id (object_of Tree body)
    → NotesObject located mid Tree body (is_sent t.fate) new → IsOpen has entries old → IsOpen has entries new
tree_step has located entries old mid new t body received fates trees read notes way =
    let ids = ids_of entries in
    let taken = tree_taken has entries ids old mid t received fates trees way in
    let on = goes_on has located entries (t.id ∷ ids) mid new t.id (object_of Tree body) notes.links t.fate read notes.follows taken.1 notes.notes taken.0 in
    let walked = walked_now has located ids mid new t.id (object_of Tree body) notes.links (is_sent t.fate) read notes.follows (inl refl) notes.notes taken.0.alone in
    tree_walked has entries ids new t.id walked on

-- ---- a parent is left out

pub parent_left : {A : Type 0} (has : Id → GitObject → Type 0) (located : Id → Found → Type 0) (entries : List (Entry A)) (waiting : List Id) (old new : Walk A)
    (a : Id) (d : Decided) → new.received ≡ old.received → new.trees.items ≡ old.trees.items → IsParent entries a → d.fate ≡ NotSent
    → SetsFate located old.fates a d new.fates → IsUnderWay has entries waiting old → IsUnderWay has entries waiting new
parent_left has located entries waiting old new a d received trees of_entry unsent sets way =
    record { alone = still_alone old new way.alone received; sent = sent; from = from_listed; left_out = left_out; trees = its_fate }
  where
    keeps : StaysDecided old.fates new.fates
    keeps = puts_keeps old.fates new.fates a d sets.undecided sets.puts

    its_fate : All (HasItsFate new.fates) new.trees.items
    its_fate = subst (All (HasItsFate new.fates)) (sym trees) (trees_more old.fates new.fates keeps old.trees.items way.trees)

    pending : (b : Id) → IsPending old b → IsPending new b
    pending b is = subst (λ ts. Contains (map id_of_tree ts) b) (sym trees) is

    sent : (b : Id) → IsSentAt new.fates b → IsOnTheWay has (ids_of entries) waiting new b
    sent b is =
        let f = sent_fate new.fates b is in
        elim (fate_only old.fates new.fates a d sets.puts b f.0 f.1) [
          | inl before ↦ on_way_more has (ids_of entries) waiting old new keeps pending b (way.sent b (is_sent_there old.fates b f.0 before f.2))
          | inr this ↦ absurd (false≢true (sym (ap is_sent (this.1 ∙ unsent)) ∙ f.2))
        ]

    from_listed : (b : Id) → IsSentAt new.fates b → IsBelowListed has entries b
    from_listed b is =
        let f = sent_fate new.fates b is in
        elim (fate_only old.fates new.fates a d sets.puts b f.0 f.1) [
          | inl before ↦ way.from b (is_sent_there old.fates b f.0 before f.2)
          | inr this ↦ absurd (false≢true (sym (ap is_sent (this.1 ∙ unsent)) ∙ f.2))
        ]

    at_parent : IsBelowLeftOut has entries new.fates a
    at_parent = record { parent = a; of_entry = of_entry; left_out = fate_here old.fates new.fates a d sets.puts ∙ ap (λ f. Some f) unsent; leads = here }

    left_out : (b : Id) → IsLeftOut new.fates b → IsBelowLeftOut has entries new.fates b
    left_out b is =
        elim (fate_only old.fates new.fates a d sets.puts b NotSent is) [
          | inl before ↦ at_client_more has entries old.fates new.fates keeps b (way.left_out b before)
          | inr this ↦ subst (IsBelowLeftOut has entries new.fates) this.0 at_parent
        ]

-- an id is decided if it was covered
pub covered_decided : {A : Type 0} (walk : Walk A) (a : Id) → HasNoReceived walk → IsCovered walk a → IsDecided walk.fates a
covered_decided walk a alone (inl decided) = decided
covered_decided walk a alone (inr received) = absurd (not_received walk (link_of received.0 a) alone received.1)

-- nothing changes
pub stays_open : {A : Type 0} (has : Id → GitObject → Type 0) (entries : List (Entry A)) (waiting : List Id) (old new : Walk A)
    → new.received ≡ old.received → new.trees.items ≡ old.trees.items → new.fates ≡ old.fates
    → IsUnderWay has entries waiting old → IsUnderWay has entries waiting new
stays_open has entries waiting old new received trees fates way = record {
  alone = still_alone old new way.alone received;
  sent = λ b is. on_way_more has (ids_of entries) waiting old new keeps (λ c is. subst (λ ts. Contains (map id_of_tree ts) c) (sym trees) is) b
      (way.sent b (sent_more new.fates old.fates back b is));
  from = λ b is. way.from b (sent_more new.fates old.fates back b is);
  left_out = λ b is. at_client_more has entries old.fates new.fates keeps b (way.left_out b (keeps_fate new.fates old.fates back b NotSent is));
  trees = subst (All (HasItsFate new.fates)) (sym trees) (trees_more old.fates new.fates keeps old.trees.items way.trees);
}
  where
    keeps : StaysDecided old.fates new.fates
    keeps = keeps_same old.fates new.fates fates

    back : StaysDecided new.fates old.fates
    back = keeps_same new.fates old.fates (sym fates)

-- ---- the list of commits and tags

-- a parent of a listed commit or tag is left out, and nothing below it is walked
pub parent_alone : {A : Type 0} (has : Id → GitObject → Type 0) (located : Id → Found → Type 0) (old new : Walk A) (a : Id) (found : Option Found)
    → new.received ≡ old.received → new.trees.items ≡ old.trees.items → Settles located old a NotSent found new
    → StaysDecided old.fates new.fates
    × ((entries : List (Entry A)) → IsParent entries a → IsOpen has entries old → IsOpen has entries new)
    × (HasNoReceived old → IsDecided new.fates a)
parent_alone has located old new a None received trees settles = (
  keeps_same old.fates new.fates settles.1,
  λ entries parent way. stays_open has entries (ids_of entries) old new received trees settles.1 way,
  λ alone. decided_more old.fates new.fates (keeps_same old.fates new.fates settles.1) a (covered_decided old a alone settles.0),
)
parent_alone has located old new a (Some found) received trees sets = (
  puts_keeps old.fates new.fates a d sets.undecided sets.puts,
  λ entries parent way. parent_left has located entries (ids_of entries) old new a d received trees parent refl sets way,
  λ alone. (NotSent, fate_here old.fates new.fates a d sets.puts),
)
  where
    d : Decided
    d = record { fate = NotSent; found = found; kind = None }

pub all_listed : {A : Type 0} (entries : List (Entry A)) → All (HasIdIn (ids_of entries)) entries
all_listed [] = All-nil (HasIdIn [])
all_listed (e ∷ entries) =
    let ids = ids_of (e ∷ entries) in
    All-cons (HasIdIn ids) e entries (contains_head e.id (ids_of entries))
    (All-weaker (HasIdIn (ids_of entries)) (HasIdIn ids) (λ x among. contains_tail e.id (ids_of entries) x.id among) entries (all_listed entries))

pub entries_sent_more : {A : Type 0} (old new : Fates) → StaysDecided old new → (entries : List (Entry A)) → All (IsSentEntry old) entries → All (IsSentEntry new) entries
entries_sent_more old new keeps entries all = All-weaker (IsSentEntry old) (IsSentEntry new) (λ e is. sent_more old new keeps e.id is) entries all

pub parents_decided_more : {A : Type 0} (old new : Fates) → StaysDecided old new → (entries : List (Entry A)) → All (HasDecidedParents old) entries → All (HasDecidedParents new) entries
parents_decided_more old new keeps entries all =
    All-weaker (HasDecidedParents old) (HasDecidedParents new) (λ e is. all_decided_more old new keeps e.node.parents is) entries all

pub entries_walked_more : {A : Type 0} (has : Id → GitObject → Type 0) (listed : List Id) (old new : Fates) → StaysDecided old new → (entries : List (Entry A))
    → All (IsWalkedEntry has listed old) entries → All (IsWalkedEntry has listed new) entries
entries_walked_more has listed old new keeps entries all =
    All-weaker (IsWalkedEntry has listed old) (IsWalkedEntry has listed new) (λ e is. walked_more has listed old new keeps e.id is) entries all

-- the parents of an entry are parents of an entry
pub parents_of : {A : Type 0} (entries : List (Entry A)) (k : ℕ) (entry : Entry A) (parents : List Id) → k < length entries
    → entry ≡ slice_index_or entries k entry → parents ≡ entry.node.parents → All (IsParent entries) parents
parents_of entries k entry parents inside is same =
    subst (All (IsParent entries)) (sym same)
    (All-weaker (Contains entry.node.parents) (IsParent entries) (λ a among. record { entry = entry; listed = (k, inside, sym is); among = among }) entry.node.parents
    (All-contains_itself entry.node.parents))

-- the fate of an object that is sent
pub fate_as_sent : (fates : Fates) (a : Id) (fate : Fate) → IsSentAt fates a → is_sent fate ≡ true → HasFateAs fates a fate
fate_as_sent fates a fate is comes =
    let own = sent_fate fates a is in record { own = own.0; decided = own.1; same = own.2 ∙ sym comes }

-- at first nothing is decided
pub nothing_listed : {A : Type 0} (entries : List (Entry A)) → IsOnlyListed entries []
nothing_listed entries = record { sent = λ a fate is. absurd (none-some fate is); listed = λ a fate is. absurd (none-some fate is) }

-- after the listed objects are sent, the walk is under way
pub opens : {A : Type 0} (has : Id → GitObject → Type 0) (entries : List (Entry A)) (walk : Walk A) → HasNoReceived walk → walk.trees.items ≡ []
    → IsOnlyListed entries walk.fates → IsOpen has entries walk
opens has entries walk alone empty only = record {
  alone = alone;
  sent = λ a is. let fate = sent_fate walk.fates a is in inl (only.listed a fate.0 fate.1);
  from = λ a is. let fate = sent_fate walk.fates a is in record { root = a; listed = only.listed a fate.0 fate.1; leads = here };
  left_out = λ a is. absurd (false≢true (only.sent a NotSent is));
  trees = subst (All (HasItsFate walk.fates)) (sym empty) (All-nil (HasItsFate walk.fates));
}

-- the walk is over
pub gathered : {A : Type 0} (has : Id → GitObject → Type 0) (entries : List (Entry A)) (walk : Walk A) → AreDistinct walk.fates → walk.trees.items ≡ []
    → IsOpen has entries walk → All (IsSentEntry walk.fates) entries → All (HasDecidedParents walk.fates) entries
    → All (IsWalkedEntry has (ids_of entries) walk.fates) entries → IsGathered has entries walk.fates
gathered has entries walk distinct empty way sent parents walked = record {
  distinct = distinct;
  listed = λ a is. All-contains (IsSentAt walk.fates) (ids_of entries) a (All-map (IsSentAt walk.fates) id_of_entry entries sent) is;
  parents = λ a is. All-contains (IsDecided walk.fates) is.entry.node.parents a (All-contains (HasDecidedParents walk.fates) entries is.entry parents is.listed) is.among;
  roots = root;
  walked = λ a is. by a (way.sent a is);
  from = way.from;
  left_out = way.left_out;
}
  where
    root : (a : Id) → IsListed entries a → IsWalked has (ids_of entries) walk.fates a
    root a listed =
        let P = IsWalked has (ids_of entries) walk.fates in
        All-contains P (ids_of entries) a (All-map P id_of_entry entries walked) listed

    by : (a : Id) → IsOnTheWay has (ids_of entries) (ids_of entries) walk a → IsNamedBlob has walk.fates a ⊎ IsWalked has (ids_of entries) walk.fates a
    by a (inl listed) = inr (root a listed)
    by a (inr (inl blob)) = inl blob
    by a (inr (inr (inl is))) = inr is
    by a (inr (inr (inr there))) = nothing_in_nil a (subst (λ ts. Contains (map id_of_tree ts) a) empty there)

-- one more listed object is sent
pub one_listed : {A : Type 0} (located : Id → Found → Type 0) (entries : List (Entry A)) (old new : Walk A) (e : Entry A) (fate : Fate) (found : Option Found)
    → HasNoReceived old → is_sent fate ≡ true → Contains entries e → Settles located old e.id fate found new → IsOnlyListed entries old.fates
    → IsOnlyListed entries new.fates × StaysDecided old.fates new.fates × IsSentAt new.fates e.id
one_listed located entries old new e fate None alone comes among settles only =
    let keeps = keeps_same old.fates new.fates settles.1 in let back = keeps_fate new.fates old.fates (keeps_same new.fates old.fates (sym settles.1)) in
    let decided = covered_decided old e.id alone settles.0 in (
      record { sent = λ a f is. only.sent a f (back a f is); listed = λ a f is. only.listed a f (back a f is) },
      keeps,
      is_sent_there new.fates e.id decided.0 (keeps_fate old.fates new.fates keeps e.id decided.0 decided.1) (only.sent e.id decided.0 decided.1),
    )
one_listed located entries old new e fate (Some found) alone comes among sets only = (
  record { sent = sent; listed = listed },
  puts_keeps old.fates new.fates e.id d sets.undecided sets.puts,
  is_sent_there new.fates e.id fate (fate_here old.fates new.fates e.id d sets.puts) comes,
)
  where
    d : Decided
    d = record { fate = fate; found = found; kind = None }

    sent : (a : Id) (f : Fate) → fate_at new.fates a ≡ Some f → is_sent f ≡ true
    sent a f is =
        elim (fate_only old.fates new.fates e.id d sets.puts a f is) [
          | inl before ↦ only.sent a f before
          | inr this ↦ ap is_sent this.1 ∙ comes
        ]

    listed : (a : Id) (f : Fate) → fate_at new.fates a ≡ Some f → IsListed entries a
    listed a f is =
        elim (fate_only old.fates new.fates e.id d sets.puts a f is) [
          | inl before ↦ only.listed a f before
          | inr this ↦ subst (IsListed entries) this.0 (All-contains (HasIdIn (ids_of entries)) entries e (all_listed entries) among)
        ]
