-- A graph, refs and HEAD whose ids have one format form a valid repository, with its nodes in any order.
use Rattle.std.proofs.Common.{ℕ, List, [], ◌∷◌, ◌++◌, All, subst}
use Rattle.std.proofs.lemmas.List.Elements.{All-cons, All-head, All-nil, All-tail}
use Rattle.gname.specs.Ids.{IsIdOf}
use Rattle.gname.specs.declared.formats.Format.{Format}
use Rattle.gobject.specs.declared.node.Entry.{Entry}
use Rattle.gdag.specs.Graphs.{History, IsGraph}
use Rattle.gdag.specs.Laws.{EntriesComeInOrder}
use Rattle.grefs.specs.Laws.{RefsComeInOrder}
use Rattle.grefs.specs.RefLists.{IsRefs, RefList}
use Rattle.grefs.specs.declared.head.Head.{Head}
use Rattle.grefs.specs.declared.head.Head.TheVariants.{Id, Symref, None}
use Rattle.ggraph.specs.RepositoryText.{EachFollows, IsHead, IsLoadable, MayFollow, RefMayFollow}
use Rattle.ggraph.specs.Saving.{head_ids, named_ids, ref_ids}
use Rattle.ggraph.specs.declared.text.Order.TheVariants.{Any}
use Rattle.grefs.specs.Heads.{PointsBelowRefs}

nodes_follow : {A : Type 0} → EntriesComeInOrder A → (g : History A) → IsGraph g → EachFollows (MayFollow Any g.format) g.entries
nodes_follow {A} law g graph front x rest e =
    let next = law g.format front x rest (subst (λ (es : List (Entry A)). IsGraph (record { format = g.format; entries = es })) e graph) in
    record { comes = next; after = tt }

all_front : {X : Type 0} (P : X → Type 0) (front back : List X) → All P (front ++ back) → All P front × All P back
all_front P [] back all = (All-nil P, all)
all_front P (x ∷ front) back all =
    let later = all_front P front back (All-tail P x (front ++ back) all) in
    (All-cons P x front (All-head P x (front ++ back) all) later.0, later.1)

id_at : (format : Format) (front : RefList) (ref : List ℕ × List ℕ) (rest : RefList) → All (IsIdOf format) (ref_ids (front ++ ref ∷ rest)) → IsIdOf format ref.1
id_at format [] ref rest all = All-head (IsIdOf format) ref.1 (ref_ids rest) all
id_at format (first ∷ front) ref rest all = id_at format front ref rest (All-tail (IsIdOf format) first.1 (ref_ids (front ++ ref ∷ rest)) all)

refs_follow : RefsComeInOrder → (format : Format) (refs : RefList) → IsRefs refs → All (IsIdOf format) (ref_ids refs) → EachFollows (RefMayFollow format) refs
refs_follow law format refs valid ids front x rest e =
    let next = law front x rest (subst IsRefs e valid) in
    record { comes = next; id = id_at format front x rest (subst (λ (rs : RefList). All (IsIdOf format) (ref_ids rs)) e ids) }

head_stands : {A : Type 0} (format : Format) (head : Head A) → PointsBelowRefs head → All (IsIdOf format) (head_ids head) → IsHead format head
head_stands format (Id id) below ids = All-head (IsIdOf format) id [] ids
head_stands format (Symref target) below ids = below
head_stands format None below ids = tt

pub loads_again : {A : Type 0} → EntriesComeInOrder A → RefsComeInOrder → (g : History A) (refs : RefList) (head : Head A) → IsGraph g → IsRefs refs → PointsBelowRefs head → All (IsIdOf g.format) (named_ids refs head) → IsLoadable Any g refs head
loads_again entries_law refs_law g refs head graph valid below ids =
    let both = all_front (IsIdOf g.format) (ref_ids refs) (head_ids head) ids in
    record {
      nodes = nodes_follow entries_law g graph;
      refs_follow = refs_follow refs_law g.format refs valid both.0;
      stands = head_stands g.format head below both.1;
    }
