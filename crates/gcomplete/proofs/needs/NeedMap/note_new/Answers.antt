use Rattle.std.proofs.Common.{◌≡◌, None, [], ◌∷◌, subst, sym}
use Rattle.gcomplete.specs.Batches.{Needs, need_at}
use Rattle.gcomplete.specs.steps.Keeping.{Notes}
use Rattle.gcomplete.proofs.Keeping.{notes_new}
use Rattle.gcomplete.proofs.needs.NeedMap.note_new.Goals as goal

pub returns : goal.returns
returns g c =
    let new = c.insert.new.self.entries in let id = c.args.id.now in let link = c.args.link.now in
    let P : Needs → Type 0 = λ n. Notes n id (link ∷ []) new in
    let A : Needs → Type 0 = λ n. need_at n link.id ≡ None in
    subst P c.self.view_is (notes_new c.self.inside.map.entries new id link (subst A (sym c.self.view_is) c.requires) c.in_default.ensures.updates.0)
