use Rattle.std.proofs.Common.{sym, subst}
use Rattle.std.specs.Option.{option_copied}
use Rattle.grequest.specs.WellFormed.{IsAgent}
use Rattle.gfetch.proofs.SayingLemmas.{agent_is_short}
use Rattle.gfetch.proofs.asking.agent_of.Goals as goal

pub returns-in-Ls-clause-short : goal.returns-in-Ls-clause-short
returns-in-Ls-clause-short g c =
    agent_is_short (option_copied c.agent.result) (subst IsAgent (sym c.agent.ensures.agent) c.agent.ensures.well_formed.agent)

pub returns-in-Fetch-clause-short : goal.returns-in-Fetch-clause-short
returns-in-Fetch-clause-short g c =
    agent_is_short (option_copied c.agent-in-Fetch.result)
    (subst IsAgent (sym c.agent-in-Fetch.ensures.agent) c.agent-in-Fetch.ensures.well_formed.agent)
