use Rattle.std.proofs.Common.{refl, length, ◌<◌}
use Rattle.std.proofs.lemmas.Option.{slice_get_read}
use Rattle.grefs.proofs.refs.Refs.into_name.Goals as goal

pub returns : goal.returns
returns g c =
    let inside : c.args.place < length c.self.inside.refs.items = rw c.self.view_is c.requires in
    rw (← c.self.view_is, slice_get_read c.self.inside.refs.items _ c.args.place c.swap_remove.result refl inside c.swap_remove.ensures.value) refl
