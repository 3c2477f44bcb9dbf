use Rattle.std.proofs.Common.{ap}
use Rattle.std.specs.Option.{option_copied}
use Rattle.grequest.proofs.WriteLemmas.{agent_is_short}
use Rattle.grequest.proofs.write.write_agent.Goals as goal

pub write_text-requires-clause-rest : goal.write_text-requires-clause-rest
write_text-requires-clause-rest g c = agent_is_short (option_copied c.args.agent) c.in-Some.agent.now c.requires (ap option_copied c.in-Some.is)
