use Rattle.std.proofs.Common.{sym, arith}
use Rattle.gcomplete.specs.Naming.{IsNameOf}
use Rattle.gcomplete.specs.Stores.{object_of}
use Rattle.gitrepository.specs.declared.needs.ReadObject.{ReadObject}
use Rattle.gitrepository.specs.steps.Arriving.{IsReadObject}
use Rattle.gitrepository.proofs.ArrivalLemmas.{all_recorded, all_recorded_pushed}
use Rattle.gitrepository.proofs.LinkLemmas.{read_more, read_pushed}
use Rattle.gitrepository.proofs.arrival.Arrival.note_object.Goals as goal

pub invariant_of-self : goal.invariant_of-self
invariant_of-self g c =
    let inside = c.self.inside in
    let needs = c.note_object.new.self in let keeps = c.note_object.ensures.keeps in (
      c.self.invariant.0,
      read_more inside.needs needs keeps inside.objects.items c.self.invariant.1,
      all_recorded inside.needs needs inside.objects.items keeps inside.entries.items c.self.invariant.2,
    )

pub invariant_of-self-2 : goal.invariant_of-self-2
invariant_of-self-2 g c =
    let inside = c.self.inside in let needs = c.note_object.new.self in
    let object : ReadObject = record { id = c.args.id.now; kind = c.args.kind } in
    let noted = c.in_default.ensures.noted in
    let name : IsNameOf c.args.id.now (object_of c.args.kind c.args.body.now) = record { name = sym c.requires; bytes = λ i. omega (arith, c.type_inv.body i); sized = omega arith } in
    let this : IsReadObject needs object =
    record { body = c.args.body.now; name = name; links = noted.links; reads = noted.reads; each = noted.each } in (
      c.self.invariant.0,
      read_pushed needs inside.objects.items c.push.new.self.items object _ c.push.ensures.items
          (read_more inside.needs needs c.note_object.ensures.keeps inside.objects.items c.self.invariant.1) this,
      all_recorded_pushed inside.needs needs inside.objects.items c.push.new.self.items object _ c.push.ensures.items c.note_object.ensures.keeps
          inside.entries.items c.self.invariant.2,
    )
