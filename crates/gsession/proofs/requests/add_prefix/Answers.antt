use Rattle.std.proofs.Common.{◌∙◌, ℕ, List, ap, length}
use Rattle.std.specs.Option.{is_none}
use Rattle.std.proofs.lemmas.Bool.{lt-ltb}
use Rattle.gname.specs.Names.{prefix_fault}
use Rattle.grequest.specs.Asked.{max_prefixes}
use Rattle.ggrammar.proofs.BuildingLemmas.{only_memory}
use Rattle.gsession.proofs.requests.add_prefix.Goals as goal

pub no_memory-requires : goal.no_memory-requires
no_memory-requires g c =
    only_memory _ _ c.in-Err.fault.why
    (ap (λ (text : List ℕ). is_none (prefix_fault text)) c.as_bytes.ensures.bytes
    ∙ ap is_none c.as_bytes.ensures.prefix)
    (lt-ltb (length c.args.request.now.asked.prefixes) (max_prefixes c.args.request.now.limits) c.requires)
    c.in-Err.ensures.2
