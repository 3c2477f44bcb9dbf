-- A repository stays connected when ref updates are settled or a ref is set.
use Rattle.std.proofs.Common.{◌≡◌, ◌⊎◌, inl, inr, ℕ, ◌+◌, Bool, true, false, List, [], ◌∷◌, ◌++◌, take, drop, get_or, All, Contains, Option, None, Some, refl, sym, ap, ◌∙◌, subst, arith}
use Rattle.std.proofs.lemmas.List.{drop_more, get_or-map, length-map, take-append-drop}
use Rattle.std.proofs.lemmas.List.Elements.{All-contains, All-weaker}
use Rattle.std.proofs.lemmas.Map.Text.{is_eq-slice_cmp}
use Rattle.std.proofs.lemmas.Option.{none-some, same_Some}
use Rattle.std.proofs.lemmas.Slice.Eq.{bytes_eq-Decides}
use Rattle.std.specs.List.{slice_get}
use Rattle.std.specs.Ordering.{is_eq}
use Rattle.std.specs.Str.{bytes_eq}
use Rattle.gobject.specs.declared.node.Entry.{Entry}
use Rattle.gdag.specs.Graphs.{History}
use Rattle.gdag.specs.Laws.{ReachingGoesOn}
use Rattle.gdag.specs.Reach.{IsConnected}
use Rattle.gdag.proofs.IdLists.{contains_tail}
use Rattle.gdag.proofs.Pairs.{past}
use Rattle.grefs.specs.Laws.{RefsComeInOrder}
use Rattle.grefs.specs.RefLists.{AreBelow, IsRefs, RefList, ref_at}
use Rattle.grefs.proofs.RefLemmas.{ref_at-hit, ref_at-skip}
use Rattle.gwalk.specs.Marks.{AreConnected, MarksReached}
use Rattle.gclientrepo.specs.Asks.{asked_ids}
use Rattle.gclientrepo.specs.Changes.{Marks}
use Rattle.gclientrepo.specs.Laws.{SettingStaysConnected, SettlingStaysConnected}
use Rattle.gclientrepo.specs.Repos.{IsConnectedRepo, RepoState}
use Rattle.gclientrepo.specs.Settling.{Settles}
use Rattle.gclientrepo.specs.declared.ask.Ask.{Ask}
use Rattle.gclientrepo.specs.declared.ask.RefUpdate.{RefUpdate}
use Rattle.gclientrepo.specs.steps.Repos.{ComeFrom}
use Rattle.gclientrepo.proofs.OneSettling.{some_mover, stands}
use Rattle.gclientrepo.proofs.RepoLemmas.{set_from, connected_installed}

-- ---- the results of look-ups

-- a look-up finds the id of a ref that comes after refs with lower names
at_after : (front : RefList) (ref : List ℕ × List ℕ) (back : RefList) → AreBelow front ref.0 → ref_at (front ++ ref ∷ back) ref.0 ≡ Some ref.1
at_after [] ref back below = ref_at-hit ref back ref.0 ((bytes_eq-Decides ref.0 ref.0).1 refl)
at_after (other ∷ front) ref back below =
    ref_at-skip other (front ++ ref ∷ back) ref.0 (sym (is_eq-slice_cmp other.0 ref.0) ∙ ap is_eq below.0)
    ∙ at_after front ref back below.1

-- a look-up finds the id of each ref of a valid list
own_look_up : RefsComeInOrder → (refs : RefList) → IsRefs refs → All (λ ref. ref_at refs ref.0 ≡ Some ref.1) refs
own_look_up law refs are place d low =
    let ref = get_or refs place d in
    let parts : refs ≡ take place refs ++ ref ∷ drop (place + 1) refs =
    sym (take-append-drop place refs) ∙ ap (λ (l : RefList). take place refs ++ l) (drop_more refs place d low) in
    let below = (law (take place refs) ref (drop (place + 1) refs) (subst IsRefs parts are)).above in
    subst (λ (l : RefList). ref_at l ref.0 ≡ Some ref.1) (sym parts) (at_after (take place refs) ref (drop (place + 1) refs) below)

found_step : (other : List ℕ × List ℕ) (refs : RefList) (ref : List ℕ × List ℕ) (same : Bool) → bytes_eq other.0 ref.0 ≡ same → ref_at (other ∷ refs) ref.0 ≡ Some ref.1
    → (ref_at refs ref.0 ≡ Some ref.1 → Contains refs ref) → Contains (other ∷ refs) ref
found_step other refs ref true e is rest =
    let name : other.0 ≡ ref.0 = (bytes_eq-Decides other.0 ref.0).0 e in
    let id : other.1 ≡ ref.1 = same_Some other.1 ref.1 (sym (ref_at-hit other refs ref.0 e) ∙ is) in
    (0, omega arith, ap (λ (n : List ℕ). (n, other.1)) name ∙ ap (λ (i : List ℕ). (ref.0, i)) id)
found_step other refs ref false e is rest = contains_tail other refs ref (rest (sym (ref_at-skip other refs ref.0 e) ∙ is))

-- if a look-up finds the id of a ref, the ref is in the list
found_there : (refs : RefList) (ref : List ℕ × List ℕ) → ref_at refs ref.0 ≡ Some ref.1 → Contains refs ref
found_there [] ref is = absurd (none-some ref.1 is)
found_there (other ∷ refs) ref is = found_step other refs ref (bytes_eq other.0 ref.0) refl is (λ rest. found_there refs ref rest)

module _ {A : Type 0} where
  asked_there : (asks : List (Ask A)) (ask : Ask A) → Contains asks ask → Contains (asked_ids asks) ask.id
  asked_there asks ask there =
      let id : Ask A → List ℕ = λ a. a.id in (
        there.0,
        (let low = there.1 in omega (arith, low, length-map asks id)),
        get_or-map id asks there.0 ask ask.id there.1 ∙ ap id there.2,
      )

  -- each ref after settling is an old ref, or points at the new id of a requested update
  pub come_from : RefsComeInOrder → (g : List (Entry A)) (old : RefList) (asks : List (Ask A)) (updates : List RefUpdate) (new : RefList)
      → IsRefs new → Settles g old asks updates new → ComeFrom old (asked_ids asks) new
  come_from law g old asks updates new are settles =
      All-weaker (λ ref. ref_at new ref.0 ≡ Some ref.1) (λ ref. Contains old ref ⊎ Contains (asked_ids asks) ref.1)
      (λ ref own. elim (some_mover g old asks updates ref.0 settles.each) [
        | inl mover ↦ inr (
            subst (Contains (asked_ids asks)) (same_Some (mover.0).id ref.1 (sym (stands g old asks updates new ref.0 settles mover) ∙ own))
            (asked_there asks mover.0 mover.1)
            )
        | inr stays ↦ inl (found_there old ref (sym (settles.others ref.0 stays) ∙ own))
      ]) new (own_look_up law new are)

  -- after the objects that connected ids reach are marked, all marked objects are still connected
  marks_connected : ReachingGoesOn A → (g : List (Entry A)) (ids : List (List ℕ)) (old new : List Bool) → All (IsConnected g) ids → AreConnected g old → MarksReached g ids old new → AreConnected g new
  marks_connected goes_on g ids old new connected were reached place marked = by (slice_get g place) refl
    where
      Result : Type 0
      Result = (entry : Entry A) × (slice_get g place ≡ Some entry) × IsConnected g entry.id

      by : (found : Option (Entry A)) → slice_get g place ≡ found → Result
      by None is = were place (sym (reached.others place (past g place (sym is))) ∙ marked)
      by (Some entry) is = (
        entry,
        is,
        elim ((reached.each place entry is).0 marked) [
          | inl was ↦ (let mark = were place was in subst (λ (e : Entry A). IsConnected g e.id) (same_Some mark.0 entry (sym mark.1 ∙ is)) mark.2)
          | inr some ↦ λ b goes. All-contains (IsConnected g) ids some.0 connected some.1 b (goes_on g some.0 entry.id b some.2 goes)
        ],
      )

  connected_marked : ReachingGoesOn A → (old new : RepoState A) (ids : List (List ℕ)) → IsConnectedRepo old → Marks old ids new → ComeFrom old.refs ids new.refs → IsConnectedRepo new
  connected_marked goes_on old new ids whole marks from =
      let connected = marks_connected goes_on old.graph.entries ids old.known new.known marks.connected whole.connected marks.known in
      subst (λ (h : History A). IsConnectedRepo {A = A} (record { graph = h; refs = new.refs; known = new.known })) (sym marks.graph)
      (connected_installed old.graph old.refs old.known ids new.refs new.known whole marks.connected from connected marks.known)

  pub settling_stays_connected : RefsComeInOrder → ReachingGoesOn A → SettlingStaysConnected A
  settling_stays_connected law goes_on old new asks updates are whole settles =
      connected_marked goes_on old new (asked_ids asks) whole settles.0 (come_from law old.graph.entries old.refs asks updates new.refs are settles.1)

  pub setting_stays_connected : ReachingGoesOn A → SettingStaysConnected A
  setting_stays_connected goes_on old new name id whole sets =
      connected_marked goes_on old new (id ∷ []) whole sets.0 (set_from old.refs old.refs new.refs name id refl sets.1)
