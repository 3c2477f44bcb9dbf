use Rattle.std.proofs.Common.{arith, ◌∙◌, refl}
use Rattle.grefs.proofs.RefLemmas.{ref_at-found, ref_at-gap, found_inside}
use Rattle.grefs.proofs.refs.Refs.get.Goals as goal

pub index-requires : goal.index-requires
index-requires g c = omega (arith, found_inside _ _ _ c.in-Ok.ensures)

pub returns-in-Ok : goal.returns-in-Ok
returns-in-Ok g c =
    let found = ref_at-found c.as_slice.result.now c.args.name.now c.in-Ok.place c.index.result.now c.in-Ok.ensures in
    let items = c.as_slice.ensures.value ∙ c.self.view_is in
    rw (← c.self.view_is, ← c.as_slice.ensures.value, found) (rw (c.as_slice.ensures.value, ← c.index.ensures) refl)

pub returns-in-Err : goal.returns-in-Err
returns-in-Err g c =
    let missing = ref_at-gap c.as_slice.result.now c.args.name.now c.in-Err.field-0 (rw c.as_slice.ensures.value c.self.invariant.ascending) c.in-Err.ensures in
    rw (← c.self.view_is, ← c.as_slice.ensures.value, missing) refl
