-- Facts about connected repositories.
use Rattle.std.proofs.Common.{◌≡◌, ◌↔◌, ◌⊎◌, IsTrue, inl, inr, ℕ, ◌+◌, ◌<◌, Bool, true, false, List, [], ◌∷◌, ◌++◌, length, take, drop, get_or, All, Contains, Option, None, Some, Result, Ok, Err, IfErr, IfSome, refl, sym, ap, ◌∙◌, subst, arith}
use Rattle.std.proofs.lemmas.Bool.{false≢true}
use Rattle.std.proofs.lemmas.List.{drop_more, get_or-map, length-map, take-append-drop, take-map, take_more}
use Rattle.std.proofs.lemmas.List.Elements.{All-contains, All-map, All-more, All-weaker, Contains-append_right}
use Rattle.std.proofs.lemmas.Option.{get_or_from_slice_get, none-some, slice_get_cases}
use Rattle.std.specs.List.{slice_get}
use Rattle.std.specs.Map.{values_of}
use Rattle.std.specs.Option.{is_some}
use Rattle.gobject.specs.Objects.{IdsDiffer, node_at}
use Rattle.gobject.specs.declared.node.Entry.{Entry}
use Rattle.ggraph.specs.ConnectedRefs.{ConnectedRefsStay}
use Rattle.gdag.specs.Graphs.{History, Holds, IsFirstAbsent, IsOrdered}
use Rattle.gdag.specs.Laws.{ClosedIsConnected, GrowingKeeps, OrderedIsClosed}
use Rattle.gdag.specs.Reach.{IsConnected, here}
use Rattle.gdag.specs.Walks.{Misses}
use Rattle.gdag.specs.declared.fault.GraphFault.{GraphFault}
use Rattle.gdag.specs.declared.fault.GraphFault.TheVariants.{Memory}
use Rattle.grefs.specs.RefLists.{RefList, SetsRef}
use Rattle.gdag.proofs.IdLists.{contains_head}
use Rattle.gwalk.specs.Marks.{AreConnected, CoveringStays, MarksReached, MarksStayConnected}
use Rattle.gclientrepo.specs.Changes.{NeedsWalk}
use Rattle.gclientrepo.specs.Laws.{ConnectedRepoStays}
use Rattle.gclientrepo.specs.Repos.{IsFirstUnconnected, IsConnectedRepo}
use Rattle.gclientrepo.specs.steps.Repos.{ComeFrom, IsFirstLost}

value_there : (refs : RefList) (ref : List ℕ × List ℕ) → Contains refs ref → Contains (values_of refs) ref.1
value_there refs ref there =
    let place = there.0 in (
      place,
      omega (arith, there.1, length-map refs (λ (r : List ℕ × List ℕ). r.1)),
      get_or-map (λ (r : List ℕ × List ℕ). r.1) refs place ref ref.1 there.1 ∙ ap (λ (r : List ℕ × List ℕ). r.1) there.2,
    )

-- if each ref is one of `others` or points at one of `ids`, its id is an id of `others` or one of `ids`
values_from : (others : RefList) (ids : List (List ℕ)) (refs : RefList) → ComeFrom others ids refs
    → All (λ (a : List ℕ). Contains (values_of others) a ⊎ Contains ids a) (values_of refs)
values_from others ids refs from =
    let P : List ℕ → Type 0 = λ a. Contains (values_of others) a ⊎ Contains ids a in
    All-map P (λ (ref : List ℕ × List ℕ). ref.1) refs
    (All-weaker (λ ref. Contains others ref ⊎ Contains ids ref.1) (λ ref. P ref.1)
    (λ ref there. elim there [ inl old ↦ inl (value_there others ref old) | inr asked ↦ inr asked ]) refs from)

-- the only fault of a call is `Memory`, and a fact P holds for a call that fails
pub with_reason : {X P : Type 0} (r : Result X GraphFault) → IfErr r (λ fault. fault ≡ Memory) → P → IfErr r (λ fault. (fault ≡ Memory) × P)
with_reason (Ok x) is p = tt
with_reason (Err fault) is p = (is, p)

module _ {A : Type 0} where
  pub connected_repo_stays : GrowingKeeps A → ConnectedRefsStay A → MarksStayConnected A → CoveringStays A → ConnectedRepoStays A
  connected_repo_stays keeps connected_refs connected covers g h refs known grows differ whole = record {
    connected_refs = connected_refs g.entries h.entries refs (keeps g.entries h.entries grows) whole.connected_refs;
    connected = connected g.entries h.entries known grows whole.connected;
    covers = covers g.entries h.entries (values_of refs) known grows differ whole.connected_refs whole.covers;
  }

  -- if no id is missing in the ancestries of some ids, these ids are connected; otherwise they are not all connected
  pub all_held : (g : List (Entry A)) (ids : List (List ℕ)) (missing : Option (List ℕ)) → Misses g ids missing → is_some missing ≡ false → All (IsConnected g) ids
  all_held g ids None misses is = misses
  all_held g ids (Some b) misses is = absurd (false≢true (sym is))

  pub not_all_held : (g : List (Entry A)) (ids : List (List ℕ)) (missing : Option (List ℕ)) → Misses g ids missing → is_some missing ≡ true → ¬ (All (IsConnected g) ids)
  not_all_held g ids None misses is = absurd (false≢true is)
  not_all_held g ids (Some b) misses is = λ connected.
      let held : is_some (node_at g b) ≡ true = All-contains (IsConnected g) ids misses.0.0 connected misses.0.1 b misses.0.2 in
      false≢true (sym (ap is_some misses.1) ∙ held)

  -- if each entry comes after its parents, each id that the graph holds is connected
  pub held_connected : OrderedIsClosed A → ClosedIsConnected A → (g : List (Entry A)) → IdsDiffer g → IsOrdered g → (a : List ℕ) → Holds g a → IsConnected g a
  held_connected closed connected g differ ordered = (connected g).0 (closed g differ ordered)

  -- the first id that the graph does not hold is missing
  pub first_misses : (g : List (Entry A)) (ids : List (List ℕ)) (a : List ℕ) → IsFirstAbsent g ids a → Misses g ids (Some a)
  first_misses g ids a first =
      let there : Contains (first.front ++ a ∷ first.rest) a = Contains-append_right first.front (a ∷ first.rest) a (contains_head a first.rest) in
      ((a, subst (λ (l : List (List ℕ)). Contains l a) (sym first.parts) there, here), first.absent)

  -- if each entry comes after its parents, ids that the graph holds are connected
  pub all_connected : OrderedIsClosed A → ClosedIsConnected A → (g : List (Entry A)) → IdsDiffer g → (ordered : Bool) → IsTrue ordered ↔ IsOrdered g → ordered ≡ true
      → (ids : List (List ℕ)) → All (Holds g) ids → All (IsConnected g) ids
  all_connected closed connected g differ ordered is true_is ids held =
      All-weaker (Holds g) (IsConnected g) (held_connected closed connected g differ (is.0 true_is)) ids held

  -- if a graph holds the ids but is not ordered, only a walk can decide whether the ids are connected
  pub needs_walk : (g : List (Entry A)) (ids : List (List ℕ)) (ordered : Bool) → All (Holds g) ids → IsTrue ordered ↔ IsOrdered g → ordered ≡ false → NeedsWalk g ids
  needs_walk g ids ordered held is out = record { held = held; unordered = λ first. false≢true (sym out ∙ is.1 first) }

  -- an id is missing if it is one of `ids` and the graph does not hold it
  pub absent_misses : (g : List (Entry A)) (ids : List (List ℕ)) (a : List ℕ) → Contains ids a → node_at g a ≡ None → Misses g ids (Some a)
  absent_misses g ids a there absent = ((a, there, here), absent)

  -- a repository is connected if its refs are connected, its marked objects are connected, and every object that the
  -- refs reach is marked
  pub connected_opened : (g : History A) (refs : RefList) (known : List Bool) → All (IsConnected g.entries) (values_of refs) → AreConnected g.entries known
      → MarksReached g.entries (values_of refs) [] known → IsConnectedRepo (record { graph = g; refs = refs; known = known })
  connected_opened g refs known connected_refs connected marks = record {
    connected_refs = connected_refs;
    connected = connected;
    covers = λ place entry at reached. (marks.each place entry at).1 (inr reached);
  }

  -- a repository stays connected if each new ref is an old ref or points at a connected id whose ancestry is marked
  pub connected_installed : (g : History A) (old : RefList) (known : List Bool) (ids : List (List ℕ)) (new : RefList) (marks : List Bool)
      → IsConnectedRepo (record { graph = g; refs = old; known = known }) → All (IsConnected g.entries) ids → ComeFrom old ids new
      → AreConnected g.entries marks → MarksReached g.entries ids known marks → IsConnectedRepo (record { graph = g; refs = new; known = marks })
  connected_installed g old known ids new marks whole connected from are reached =
      let each = values_from old ids new from in
      let Either : List ℕ → Type 0 = λ a. Contains (values_of old) a ⊎ Contains ids a in
      record {
        connected_refs = All-weaker Either (IsConnected g.entries) (λ a there. elim there [ inl held ↦ All-contains (IsConnected g.entries) (values_of old) a whole.connected_refs held | inr asked ↦ All-contains (IsConnected g.entries) ids a connected asked ]) (values_of new) each;
        connected = are;
        covers = λ place entry at some.
            (reached.each place entry at).1
            (elim (All-contains Either (values_of new) some.0 each some.1) [
              | inl held ↦ inl (whole.covers place entry at (some.0, held, some.2))
              | inr asked ↦ inr (some.0, asked, some.2)
            ]);
      }

  -- after connected ids, an id that the graph does not hold is the first id that is not connected
  pub lost_at : (g : List (Entry A)) (ids : List (List ℕ)) (place : ℕ) (a : List ℕ) → place < length ids → get_or ids place a ≡ a
      → All (IsConnected g) (take place ids) → ¬ (Holds g a) → IsFirstLost g ids place
  lost_at g ids place a inside is held absent = record {
    inside = inside;
    held = held;
    lost = λ connected.
        let next : take (place + 1) ids ≡ take place ids ++ a ∷ [] = take_more ids place a inside ∙ ap (λ (b : List ℕ). take place ids ++ b ∷ []) is in
        absent (All-contains (IsConnected g) (take place ids ++ a ∷ []) a (subst (All (IsConnected g)) next connected)
        (Contains-append_right (take place ids) (a ∷ []) a (contains_head a [])) a here);
  }

  -- the ref at the position of the first id that is not connected
  pub unconnected_at : (g : List (Entry A)) (refs : RefList) (place : ℕ) (ref : List ℕ × List ℕ) → IsFirstLost g (values_of refs) place → get_or refs place ref ≡ ref → IsFirstUnconnected g refs ref.0
  unconnected_at g refs place ref first is =
      let value : List ℕ × List ℕ → List ℕ = λ r. r.1 in
      let inside : place < length refs = let low = first.inside in let long = length-map refs value in omega (arith, low, long) in
      record {
        front = take place refs;
        id = ref.1;
        back = drop (place + 1) refs;
        parts = sym (take-append-drop place refs) ∙ ap (λ (l : RefList). take place refs ++ l) (drop_more refs place ref inside ∙ ap (λ (r : List ℕ × List ℕ). r ∷ drop (place + 1) refs) is);
        connected_refs = subst (λ (l : List (List ℕ)). All (IsConnected g) l) (take-map value place refs) first.held;
        unconnected = λ connected.
            let there : get_or (values_of refs) place ref.1 ≡ ref.1 = get_or-map value refs place ref ref.1 inside ∙ ap value is in
            first.lost (All-more (IsConnected g) (values_of refs) place ref.1 first.inside first.held (subst (IsConnected g) (sym there) connected));
      }

-- a list has an element at each position below its length
none_inside : {X : Type 0} (xs : List X) (i : ℕ) → i < length xs → slice_get xs i ≡ None → ⊥
none_inside xs i low empty =
    elim (slice_get_cases xs i).1 [
      | inl inside ↦ none-some inside.0 (sym empty ∙ inside.2)
      | inr past ↦ omega (arith, past.0, low)
    ]

module _ {A : Type 0} (g : List (Entry A)) (refs : RefList) (place : ℕ) where
  -- the name at this position is the name of the first ref that is not connected
  named_at : (name : List ℕ) (there : Option (List ℕ × List ℕ)) → IsFirstLost g (values_of refs) place → slice_get refs place ≡ there
      → place < length refs → IfSome there (λ ref. name ≡ ref.0) → IsFirstUnconnected g refs name
  named_at name None first is inside named = absurd (none_inside refs place inside is)
  named_at name (Some ref) first is inside named =
      subst (IsFirstUnconnected g refs) (sym named) (unconnected_at g refs place ref first (get_or_from_slice_get refs place ref ref is))

  pub unconnected_named : (name : List ℕ) → IsFirstLost g (values_of refs) place → IfSome (slice_get refs place) (λ ref. name ≡ ref.0)
      → IsFirstUnconnected g refs name
  unconnected_named name first named =
      let inside : place < length refs = let low = first.inside in let long = length-map refs (λ (r : List ℕ × List ℕ). r.1) in omega (arith, low, long) in
      named_at name (slice_get refs place) first refl inside named

  -- the ref at a position after connected refs
  module _ (ref : List ℕ × List ℕ) (inside : place < length refs) (is : get_or refs place ref ≡ ref) (held : All (IsConnected g) (take place (values_of refs))) where
    within : place < length (values_of refs)
    within = let long = length-map refs (λ (r : List ℕ × List ℕ). r.1) in omega (arith, inside, long)

    there : get_or (values_of refs) place ref.1 ≡ ref.1
    there = get_or-map (λ (r : List ℕ × List ℕ). r.1) refs place ref ref.1 inside ∙ ap (λ (r : List ℕ × List ℕ). r.1) is

    pub lost_ref : ¬ (Holds g ref.1) → IsFirstLost g (values_of refs) place
    lost_ref absent = lost_at g (values_of refs) place ref.1 within there held absent

    pub connected_ref : IsConnected g ref.1 → All (IsConnected g) (take (place + 1) (values_of refs))
    connected_ref connected = All-more (IsConnected g) (values_of refs) place ref.1 within held (subst (IsConnected g) (sym there) connected)

-- after a ref is set, each ref is an old ref or points at the new id
pub set_from : (others old new : RefList) (name id : List ℕ) → old ≡ others → SetsRef old new name id → ComeFrom others (id ∷ []) new
set_from others old new name id same sets =
    let Others : List ℕ × List ℕ → Type 0 = λ ref. Contains others ref ⊎ Contains (id ∷ []) ref.1 in
    All-weaker (λ ref. (ref ≡ (name, id)) ⊎ Contains old ref) Others
    (λ ref there. elim there [
      | inl is ↦ inr (subst (λ (r : List ℕ × List ℕ). Contains (id ∷ []) r.1) (sym is) (0, omega arith, refl))
      | inr held ↦ inl (subst (λ (l : RefList). Contains l ref) same held)
    ]) new sets.each
