use Rattle.std.proofs.Common.{◌≡◌, ◌≢◌, arith, subst, refl, inl, inr, List, ℕ, Some}
use Rattle.gname.specs.Names.{IsRefName, head_name}
use Rattle.grefs.specs.RefLists.{CannotSet, RefList, ref_at}
use Rattle.grefs.proofs.RefLemmas.{ref_at-found, ref_at-gap, ref_at-head, found_inside, gap_inside, refs_insert, refs_set, sets_insert, sets_set}
use Rattle.grefs.proofs.refs.Refs.set.Goals as goal

-- a name that already has a ref and is not HEAD can be set
cannot_set : (refs : RefList) (name id : List ℕ) → ref_at refs name ≡ Some id → name ≢ head_name → CannotSet refs name → ⊥
cannot_set refs name id there differs (inl head) = differs head
cannot_set refs name id there differs (inr new) = let missing = new.0 in cc

pub index_mut-requires : goal.index_mut-requires
index_mut-requires g c = omega (arith, found_inside _ _ _ c.in-Ok.ensures)

pub invariant_of-self : goal.invariant_of-self
invariant_of-self g c =
    let differs : c.args.name ≢ head_name = λ same. (let yes_head = c.is_head.ensures.1 same in cc) in
    let valid : IsRefName c.args.name = subst IsRefName c.name.view_is c.name.invariant in
    refs_set _ c.args.name c.args.id c.in-Ok.place c.self.invariant (record { well_formed = valid; below = (c.names_are_clean.ensures c.args.name valid).below differs }) (rw (← c.as_slice.ensures.value) c.in-Ok.ensures)

pub returns-then-is_head-clause-held : goal.returns-then-is_head-clause-held
returns-then-is_head-clause-held g c = λ held.
    let is : c.args.name ≡ head_name = c.is_head.ensures.0 c.if-is_head.true in
    absurd (held (rw (is, ← c.self.view_is) (ref_at-head _ c.self.invariant.names)))

pub returns-then-count-eq-MAX_REFS-clause-held : goal.returns-then-count-eq-MAX_REFS-clause-held
returns-then-count-eq-MAX_REFS-clause-held g c = λ held.
    let missing = ref_at-gap c.as_slice.result.now c.args.name c.in-Err.place (rw c.as_slice.ensures.value c.self.invariant.ascending) c.in-Err.ensures in
    absurd (held (rw (← c.self.view_is, ← c.as_slice.ensures.value) missing))

pub returns-in_err-insert-in-Err-clause-held : goal.returns-in_err-insert-in-Err-clause-held
returns-in_err-insert-in-Err-clause-held g c = λ held.
    let missing = ref_at-gap c.as_slice.result.now c.args.name c.in-Err.place (rw c.as_slice.ensures.value c.self.invariant.ascending) c.in-Err.ensures in
    absurd (held (rw (← c.self.view_is, ← c.as_slice.ensures.value) missing))

pub returns-then-count-eq-MAX_REFS-clause-refused : goal.returns-then-count-eq-MAX_REFS-clause-refused
returns-then-count-eq-MAX_REFS-clause-refused g c =
    let missing = ref_at-gap c.as_slice.result.now c.args.name c.in-Err.place (rw c.as_slice.ensures.value c.self.invariant.ascending) c.in-Err.ensures in (
      λ _. inr (rw (← c.self.view_is, ← c.as_slice.ensures.value) missing, rw (← c.self.view_is) (omega arith)),
      λ _. refl,
    )

pub insert-requires : goal.insert-requires
insert-requires g c = omega (arith, gap_inside _ _ _ c.in-Err.ensures)

pub invariant_of-self-in-Err : goal.invariant_of-self-in-Err
invariant_of-self-in-Err g c =
    let differs : c.args.name ≢ head_name = λ same. (let yes_head = c.is_head.ensures.1 same in cc) in
    let valid : IsRefName c.args.name = subst IsRefName c.name.view_is c.name.invariant in
    let few = c.self.invariant.few in
    rw c.in_ok-insert-in-Err.ensures.items
    (refs_insert _ c.args.name c.args.id c.in-Err.place c.self.invariant (record { well_formed = valid; below = (c.names_are_clean.ensures c.args.name valid).below differs }) (omega arith) (rw (← c.as_slice.ensures.value) c.in-Err.ensures))

pub returns-in-Ok-clause-ok : goal.returns-in-Ok-clause-ok
returns-in-Ok-clause-ok g c =
    rw (← c.self.view_is) (sets_set _ c.args.name c.args.id c.in-Ok.place (rw (← c.as_slice.ensures.value) c.in-Ok.ensures))

pub returns-in-Ok-clause-refused : goal.returns-in-Ok-clause-refused
returns-in-Ok-clause-refused g c =
    let there = ref_at-found c.as_slice.result.now c.args.name c.in-Ok.place (c.args.name, c.args.id) c.in-Ok.ensures in
    let held = rw (c.as_slice.ensures.value, c.self.view_is) at there in
    let differs : c.args.name ≢ head_name = λ same. (let yes_head = c.is_head.ensures.1 same in cc) in
    (λ no. (cc), λ refused. absurd (cannot_set c.args.self.now c.args.name _ held differs refused))

pub returns-in_ok-insert-in-Err-clause-ok : goal.returns-in_ok-insert-in-Err-clause-ok
returns-in_ok-insert-in-Err-clause-ok g c =
    rw (c.in_ok-insert-in-Err.ensures.items, ← c.self.view_is)
    (sets_insert _ c.args.name c.args.id c.in-Err.place c.self.invariant (rw (← c.as_slice.ensures.value) c.in-Err.ensures))

pub returns-in-Ok-clause-refs : goal.returns-in-Ok-clause-refs
returns-in-Ok-clause-refs g c = invariant_of-self g c

pub returns-in_ok-insert-in-Err-clause-refs : goal.returns-in_ok-insert-in-Err-clause-refs
returns-in_ok-insert-in-Err-clause-refs g c = invariant_of-self-in-Err g c
