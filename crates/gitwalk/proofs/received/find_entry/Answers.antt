use Rattle.std.proofs.Common.{◌∙◌, ap, sym, rules}
use Rattle.std.proofs.lemmas.Fn.{always_returns_same}
use Rattle.gname.specs.Ids.{id_cmp}
use Rattle.gitpack.specs.Indexes.{object_id}
use Rattle.gitpack.proofs.SortLemmas.{found_id}
use Rattle.gitwalk.proofs.received.find_entry.Goals as goal

pub returns-in-Ok : goal.returns-in-Ok
returns-in-Ok c = (
  (c.in-Ok.place, c.in-Ok.ensures.bound, sym c.index-pack-place.is),
  ap object_id c.index-pack-place.is
      ∙ found_id object_id c.args.pack.now c.args.id.now c.in-Ok.place
      (c.in-Ok.ensures.position (λ e. id_cmp (object_id e) c.args.id.now) (always_returns_same _ _ _ (λ a r g called. (search rules, search rules)))) c.index-pack-place.result,
)
