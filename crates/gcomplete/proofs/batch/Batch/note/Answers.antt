use Rattle.std.proofs.Common.{◌≡◌, None, sym, subst, arith}
use Rattle.gcomplete.specs.Adding.{AddsObject}
use Rattle.gcomplete.specs.Batches.{KeepsTypes, Noted}
use Rattle.gcomplete.specs.Stores.{kind_at, object_of}
use Rattle.gcomplete.proofs.Batching.{adds_object, emptied, has_more, put_here, put_keeps}
use Rattle.gcomplete.proofs.batch.Batch.note.Goals as goal

pub invariant_of-self : goal.invariant_of-self
invariant_of-self g c = emptied c.clear.new.self c.clear-in-Err.new.self c.clear.ensures c.clear-in-Err.ensures

pub invariant_of-self-in-Err-put : goal.invariant_of-self-in-Err-put
invariant_of-self-in-Err-put g c =
    emptied c.clear-in-Err-put.new.self c.clear-in-Err-put-2.new.self c.clear-in-Err-put.ensures c.clear-in-Err-put-2.ensures

pub returns-clause-adds : goal.returns-clause-adds
returns-clause-adds g c =
    let old : Noted = record { types = c.self.inside.types; needs = c.self.inside.needs } in
    let new : Noted = record { types = c.put.new.self; needs = c.note_all.new.self } in
    let o = object_of c.args.kind c.args.body.now in
    let A : Noted → Type 0 = λ n. kind_at n.types c.args.id.now ≡ None in
    let P : Noted → Type 0 = λ n. AddsObject n c.args.id.now o new in
    subst P c.self.view_is
    (adds_object old new c.args.id.now o c.args.links.now (subst A (sym c.self.view_is) c.requires.new) (record { name = c.requires.name; bytes = λ i. omega (arith, c.type_inv.body i); sized = omega arith })
    c.requires.reads c.in_default-put.ensures c.in_default.ensures)

pub invariant_of-self-in_default-put : goal.invariant_of-self-in_default-put
invariant_of-self-in_default-put g c =
    let old : Noted = record { types = c.self.inside.types; needs = c.self.inside.needs } in
    let new : Noted = record { types = c.put.new.self; needs = c.note_all.new.self } in
    let o = object_of c.args.kind c.args.body.now in
    let P : Noted → Type 0 = λ n. AddsObject n c.args.id.now o new in
    has_more old new c.args.id.now o c.self.invariant (subst P (sym c.self.view_is) (returns-clause-adds g c))

pub returns-clause-holds : goal.returns-clause-holds
returns-clause-holds g c = put_here c.self.inside.types c.args.id.now c.args.kind c.put.new.self c.in_default-put.ensures

pub returns-clause-keeps : goal.returns-clause-keeps
returns-clause-keeps g c =
    let new = c.put.new.self in
    let A : Noted → Type 0 = λ n. kind_at n.types c.args.id.now ≡ None in
    let K : Noted → Type 0 = λ n. KeepsTypes n.types new in
    subst K c.self.view_is (put_keeps c.self.inside.types c.args.id.now c.args.kind new (subst A (sym c.self.view_is) c.requires.new) c.in_default-put.ensures)
