use Rattle.std.proofs.Common.{rules, tests, ap, ◌∙◌}
use Rattle.std.specs.List.{list_all}
use Rattle.std.proofs.lemmas.Iterator.Search.{all_from_yields_List}
use Rattle.std.proofs.lemmas.Iterator.Splits.{YieldsList-from_slice_split}
use Rattle.gitwords.specs.Served.{components, is_name, is_slash}
use Rattle.gitwords.proofs.served.has_names.Goals as goal

pub returns : goal.returns
returns c =
    all_from_yields_List is_name _ _ _ c.all.ensures.ran
    (YieldsList-from_slice_split _ is_slash c.as_bytes.result.now c.split.ensures.rest c.split.ensures.done c.split.ensures.closure (λ x r q k. search (rules, tests)))
    (λ x b q k. search (rules, tests))
    ∙ ap (λ text. list_all is_name (components text)) c.as_bytes.ensures.value
