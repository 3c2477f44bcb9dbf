-- The ids of a session: distinct ids, offered ids and connected ids.
use Rattle.std.proofs.Common.{◌≡◌, ◌≢◌, ◌↔◌, ℕ, ◌+◌, ◌<◌, ◌≤◌, Bool, true, false, true≢false, if◌then◌else◌, not, arith}
use Rattle.std.proofs.Common.{List, [], ◌∷◌, ◌++◌, length, get_or, All, Contains, Option, Some, None, bytes_eq}
use Rattle.std.proofs.Common.{inl, inr, refl, sym, ap, subst, append_assoc, ◌∙◌}
use Rattle.std.specs.Bool.{IsTrue}
use Rattle.std.specs.List.{IsDistinct, list_any, slice_get}
use Rattle.std.specs.Option.{is_none, is_some}
use Rattle.std.specs.Prelude.{slice_index_or}
use Rattle.std.proofs.lemmas.Bool.{false≢true, le-leb, lt-leb}
use Rattle.std.proofs.lemmas.Cmp.{nat_list_eq_equiv}
use Rattle.std.proofs.lemmas.List.{append-nil}
use Rattle.std.proofs.lemmas.List.Elements.{All-contains, All-from_recursion, All-head, All-map, Contains-get_or}
use Rattle.std.proofs.lemmas.List.Elements.{Contains-push_cases}
use Rattle.std.proofs.lemmas.Map.Keys.{IsDistinct-head, IsDistinct-push, IsDistinct-tail}
use Rattle.std.proofs.lemmas.Option.{none-some, same_Some, slice_get_cases}
use Rattle.std.proofs.lemmas.Slice.Eq.{bytes_eq-Decides}
use Rattle.gname.specs.Ids.{IsIdOf}
use Rattle.gname.specs.Laws.{IdsHaveOneFormat}
use Rattle.gname.specs.declared.formats.Format.{Format}
use Rattle.gobject.specs.declared.node.Entry.{Entry}
use Rattle.gobject.specs.Objects.{IdsDiffer, entry_of, position_of}
use Rattle.gdag.specs.Graphs.{History, Holds, IsGraph}
use Rattle.gdag.specs.Laws.{DistinctAreOnce, OffersAreExact, PositionsAreNodes}
use Rattle.gdag.specs.Levels.{distinct_of}
use Rattle.gdag.specs.Offer.{IsOffer}
use Rattle.gdag.specs.Reach.{IsConnected, Reaches, here, onward}
use Rattle.gdag.specs.Walks.{Misses}
use Rattle.gdag.proofs.Choosing.{chosen_all}
use Rattle.gdag.proofs.IdLists.{contains_from_any, contains_head, contains_tail, either_way, only_one}
use Rattle.gdag.proofs.Positions.{held_id}
use Rattle.gwalk.specs.Marks.{AreConnected}
use Rattle.gclientrepo.specs.declared.ask.Ask.{Ask}
use Rattle.gclientrepo.specs.Asks.{asked_ids}
use Rattle.ggrammar.specs.declared.limits.Limits.{Limits}
use Rattle.grequest.specs.Asked.{max_haves}
use Rattle.gsession.specs.Asking.{AreWants}
use Rattle.gsession.specs.Requesting.{batch_of}
use Rattle.gsession.specs.Sessions.{SessionState, IsSession}
use Rattle.gsession.specs.steps.Calls.{FitsBatch}

-- ---- lists

-- a property of all ids of a list holds for each id that the list contains
pub all_of_members : (P : List ℕ → Type 0) (list ids : List (List ℕ)) → All P list → All (Contains list) ids → All P ids
all_of_members P list ids all in_it = λ k d low. All-contains P list (get_or ids k d) all (in_it k d low)

pub all_distinct : DistinctAreOnce → (P : List ℕ → Type 0) (ids : List (List ℕ)) → All P ids → All P (distinct_of ids)
all_distinct law P ids all = λ k d low.
    let a = get_or (distinct_of ids) k d in
    All-contains P ids a all (((law ids).same a).0 (Contains-get_or (distinct_of ids) k d low))

-- a list has an item at each index below its length
pub none_inside : {X : Type 0} (xs : List X) (i : ℕ) → i < length xs → slice_get xs i ≢ None
none_inside xs i low empty =
    elim (slice_get_cases xs i).1 [
      | inl inside ↦ none-some inside.0 (sym empty ∙ inside.2)
      | inr past ↦ omega (arith, past.0)
    ]

-- ---- lists of distinct ids

-- the first id of a list of distinct ids differs from each of the others
pub apart_head : (y : List ℕ) (ys : List (List ℕ)) (a : List ℕ) → IsDistinct bytes_eq (y ∷ ys) → Contains ys a → ¬ (y ≡ a)
apart_head y ys a once there same =
    let P : List ℕ → Type 0 = λ z. bytes_eq y z ≡ false in
    let no = All-contains P ys a (All-from_recursion P ys (IsDistinct-head bytes_eq y ys once)) there in
    false≢true (sym no ∙ (bytes_eq-Decides y a).1 same)

pub joined_once : (xs ys : List (List ℕ)) → IsDistinct bytes_eq xs → IsDistinct bytes_eq ys
    → ((a : List ℕ) → Contains ys a → ¬ (Contains xs a)) → IsDistinct bytes_eq (xs ++ ys)
joined_once xs [] once also apart = rw (append-nil xs) once
joined_once xs (y ∷ ys) once also apart =
    subst (IsDistinct bytes_eq) (append_assoc xs (y ∷ []) ys)
    (joined_once (xs ++ y ∷ []) ys
    (IsDistinct-push nat_list_eq_equiv xs y once
    (either_way (list_any (bytes_eq y) xs)
    (λ any. absurd (apart y (contains_head y ys) (contains_from_any xs y any))) (λ none. none)))
    (IsDistinct-tail bytes_eq y ys also)
    (λ a there among. elim (Contains-push_cases xs y a among) [
      | inl before ↦ apart a (contains_tail y ys a there) before
      | inr same ↦ apart_head y ys a also there same
    ]))

-- ---- the batch

-- the batch is the whole offer if the offer fits into a request
pub batch_room : (limits : Limits) (commons offer : List (List ℕ)) → length commons + length offer ≤ max_haves limits
    → offer ≡ batch_of limits commons offer
batch_room limits commons offer room =
    ap (λ (b : Bool). if b then offer else []) (sym (le-leb (length commons + length offer) (max_haves limits) room))

-- the batch is empty if the offer does not fit into a request
pub batch_none : (limits : Limits) (commons offer : List (List ℕ)) → max_haves limits < length commons + length offer
    → [] ≡ batch_of limits commons offer
batch_none limits commons offer over =
    ap (λ (b : Bool). if b then offer else []) (sym (lt-leb (length commons + length offer) (max_haves limits) over))

-- ---- connected ids

-- `is_none` is the negation of `is_some`
pub none_by : {X : Type 0} (found : Option X) (answer : Bool) → is_some found ≡ not answer → is_none found ≡ answer
none_by None true e = refl
none_by None false e = absurd (true≢false (sym e))
none_by (Some x) true e = absurd (true≢false e)
none_by (Some x) false e = refl

module _ {A : Type 0} where
  -- an id with a mark is connected
  pub known_connected : PositionsAreNodes A → (g : List (Entry A)) (marks : List Bool) (a : List ℕ) (place : ℕ) → IdsDiffer g
      → AreConnected g marks
      → position_of g a ≡ Some place → slice_index_or marks place false ≡ true → IsConnected g a
  known_connected places g marks a place differ connected at marked =
      let entry = connected place marked in
      let stands = ((places g differ).1 a place).0 at in
      subst (λ b. IsConnected g b) (ap (λ (e : Entry A). e.id)
      (same_Some entry.0 (entry_of a stands.0) (sym entry.1 ∙ stands.1))) entry.2

  -- an id is connected exactly if a walk from it finds no missing id
  pub connected_unless_missing : (g : List (Entry A)) (a : List ℕ) (found : Option (List ℕ)) → Misses g (a ∷ []) found
      → IsTrue (is_none found) ↔ IsConnected g a
  connected_unless_missing g a None connected = (λ _. All-head (IsConnected g) a [] connected, λ _. refl)
  connected_unless_missing g a (Some b) lost =
      let from = lost.0 in
      let path : Reaches g a b = subst (λ c. Reaches g c b) (only_one a from.0 from.1) from.2 in
      (λ none. absurd (true≢false (sym none)), λ connected. absurd (true≢false (sym (connected b path) ∙ ap is_some lost.1)))

  -- an id that the graph does not hold is not connected
  pub unheld_not_connected : (g : List (Entry A)) (a : List ℕ) (held : Bool) → IsTrue held ↔ Holds g a → held ≡ false
      → IsTrue false ↔ IsConnected g a
  unheld_not_connected g a held is out =
      (λ none. absurd (true≢false (sym none)), λ connected. absurd (true≢false (sym (is.1 (connected a here)) ∙ out)))

  -- the wants have the object format of the requested updates
  pub want_ids : DistinctAreOnce → (g : List (Entry A)) (asks : List (Ask A)) (wants : List (List ℕ))
      → AreWants g asks wants
      → (format : Format) → All (λ (ask : Ask A). IsIdOf format ask.id) asks → All (IsIdOf format) wants
  want_ids law g asks wants are format ids =
      chosen_all (λ a. ¬ (IsConnected g a)) (IsIdOf format) (distinct_of (asked_ids asks)) wants are
      (all_distinct law (IsIdOf format) (asked_ids asks) (All-map (IsIdOf format) (λ (ask : Ask A). ask.id) asks ids))

  -- the tips have the object format of the graph
  pub tip_ids : DistinctAreOnce → PositionsAreNodes A → (g : History A) (ids : List (List ℕ)) → IsGraph g
      → All (IsConnected g.entries) ids → All (IsIdOf g.format) (distinct_of ids)
  tip_ids law places g ids is connected =
      all_distinct law (IsIdOf g.format) ids
      (λ k d low. held_id places g is (get_or ids k d) (connected k d low (get_or ids k d) here))

  -- ---- offered ids

  -- if an id has an object format, each held id that it reaches has the same format, whatever the format of the graph
  reached_id : PositionsAreNodes A → IdsHaveOneFormat → (format : Format) (g : History A) (a b : List ℕ) → IsGraph g
      → IsIdOf format a → Holds g.entries b → Reaches g.entries a b → IsIdOf format b
  reached_id places one format g a b is id held here = id
  reached_id places one format g a b is id held (onward parent rest) =
      subst (λ f. IsIdOf f b)
      (sym (one g.format a (held_id places g is a (ap is_some parent.1))).1 ∙ (one format a id).1)
      (held_id places g is b held)

  pub offer_fits : OffersAreExact A → PositionsAreNodes A → IdsHaveOneFormat
      → (s : SessionState A) (g : History A) (n : ℕ) (offer : List (List ℕ)) → IsSession s → IsGraph g
      → IsOffer g.entries s.tips s.commons s.sent n offer → length s.commons + length offer ≤ max_haves s.options.limits
      → FitsBatch s offer
  offer_fits exact places one s g n offer is graph offered room =
      let offers = exact g.entries s.tips s.commons s.sent n in
      record {
        ids = λ k d low.
            let a = get_or offer k d in
            let of = offers.each offer a offered (Contains-get_or offer k d low) in
            reached_id places one s.format g of.1.0 a graph
            (All-contains (IsIdOf s.format) s.tips of.1.0 is.tips of.1.1) of.0.held of.1.2;
        room = room;
        fresh = joined_once s.sent offer is.sent (offers.once offer offered)
            (λ a there. (offers.each offer a offered there).0.unsent);
      }
