use Rattle.std.proofs.Common.{rules, tests, ap, ◌∙◌}
use Rattle.std.specs.List.{list_any}
use Rattle.std.specs.List.{slice_split}
use Rattle.std.proofs.lemmas.Iterator.Search.{any_from_yields_List}
use Rattle.std.proofs.lemmas.Iterator.Splits.{YieldsList-from_slice_split}
use Rattle.gitprogram.specs.Versions.{is_colon, is_version_2}
use Rattle.gitprogram.proofs.uploading.names_version_2.Goals as goal

pub returns : goal.returns
returns c =
    any_from_yields_List is_version_2 _ _ _ c.any.ensures.ran
    (YieldsList-from_slice_split _ is_colon c.as_bytes.result.now c.split.ensures.rest c.split.ensures.done c.split.ensures.closure (λ x r q k. search (rules, tests)))
    (λ x b q k. search (rules, tests))
    ∙ ap (λ text. list_any is_version_2 (slice_split is_colon text)) c.as_bytes.ensures.value
