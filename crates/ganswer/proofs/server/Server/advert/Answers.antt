use Rattle.std.proofs.Common.{◌≡◌, ℕ, List, true, Some, sym, ◌∙◌, subst}
use Rattle.std.specs.Prelude.{codes}
use Rattle.ghello.specs.Adverts.{is_capability}
use Rattle.ganswer.proofs.AdvertLemmas.{agent, fetch, ls_refs, object_format}
use Rattle.ganswer.proofs.server.Server.advert.Goals as goal

pub add-requires-clause-form : goal.add-requires-clause-form
add-requires-clause-form g c = agent

pub add-requires-2-clause-form : goal.add-requires-2-clause-form
add-requires-2-clause-form g c = ls_refs

pub add-requires-3-clause-form : goal.add-requires-3-clause-form
add-requires-3-clause-form g c = fetch

pub add-requires-4-clause-form : goal.add-requires-4-clause-form
add-requires-4-clause-form g c =
    subst (λ (v : List ℕ). is_capability (record { key = codes "object-format"; value = Some v }) ≡ true) (sym (c.as_bytes.ensures.value ∙ c.name.ensures)) (object_format c.format.result)
