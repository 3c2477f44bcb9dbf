use Rattle.std.proofs.Common.{◌≡◌, ◌∷◌, ◌++◌, [], ◌+◌, take, Contains, List, sym, ap, subst, ◌∙◌}
use Rattle.std.proofs.lemmas.List.{take_more}
use Rattle.std.proofs.lemmas.List.Elements.{Contains-get_or}
use Rattle.gitobject.specs.declared.links.Link.{Link}
use Rattle.gcomplete.specs.steps.Keeping.{Notes}
use Rattle.gcomplete.proofs.Keeping.{need_fault, notes_more}
use Rattle.gcomplete.proofs.needs.NeedMap.note_all.Goals as goal

pub returns-in-Err : goal.returns-in-Err
returns-in-Err g c =
    let links = c.args.links.now in let k = c.loop-link.link-index in
    let among = subst (Contains links) (sym c.link-item.is) (Contains-get_or links k c.link-item.result c.loop-link-test.true) in
    need_fault c.args.self.now c.loop-link.self c.args.id.now k links c.link-item.result c.in-Err.fault c.loop-link.invariant among c.in-Err.ensures

pub loop-link-preserved : goal.loop-link-preserved
loop-link-preserved g c =
    let links = c.args.links.now in let k = c.loop-link.link-index in let link = c.link-item.result in
    let parts : take (k + 1) links ≡ take k links ++ link ∷ [] =
    take_more links k link c.loop-link-test.true ∙ ap (λ x. take k links ++ x ∷ []) (sym c.link-item.is) in
    let P : List Link → Type 0 = λ ls. Notes c.args.self.now c.args.id.now ls c.note.new.self in
    subst P (sym parts) (notes_more c.args.self.now c.loop-link.self c.note.new.self c.args.id.now (take k links) (link ∷ []) c.loop-link.invariant c.in_default.ensures)
