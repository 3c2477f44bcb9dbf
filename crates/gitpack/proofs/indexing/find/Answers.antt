use Rattle.std.proofs.Common.{◌∙◌, ap, rules}
use Rattle.std.proofs.lemmas.Fn.{always_returns_same}
use Rattle.gname.specs.Ids.{id_cmp}
use Rattle.gitpack.specs.Indexes.{object_id}
use Rattle.gitpack.proofs.SortLemmas.{found_id, no_id}
use Rattle.gitpack.proofs.indexing.find.Goals as goal

pub returns-in-Ok : goal.returns-in-Ok
returns-in-Ok c =
    ap object_id c.index-entries-place.is
    ∙ found_id object_id c.args.entries.now c.args.id.now c.in-Ok.place
    (c.in-Ok.ensures.position (λ e. id_cmp (object_id e) c.args.id.now) (always_returns_same _ _ _ (λ a r g called. (search rules, search rules)))) c.index-entries-place.result

pub returns-in-Err : goal.returns-in-Err
returns-in-Err c =
    no_id object_id c.args.entries.now c.args.id.now c.in-Err.field-0 c.requires.sorted c.in-Err.ensures.bound
    (c.in-Err.ensures.position (λ e. id_cmp (object_id e) c.args.id.now) (always_returns_same _ _ _ (λ a r g called. (search rules, search rules))))
