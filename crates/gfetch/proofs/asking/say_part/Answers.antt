use Rattle.std.proofs.Common.{◌∙◌, [], ◌∷◌, ap, refl, arith}
use Rattle.gpkt.specs.Packets.{Delim, Flush, canonical_all}
use Rattle.grequest.specs.RequestValues.{asked_by_request}
use Rattle.grequest.specs.RequestWriting.{agent_packets, format_packets}
use Rattle.grequest.specs.Requests.{agent_of}
use Rattle.gfetch.specs.Saying.{done_of, flags_of}
use Rattle.gfetch.proofs.SayingLemmas.{one_said}
use Rattle.gfetch.proofs.asking.say_part.Goals as goal

pub returns-in-Command : goal.returns-in-Command
returns-in-Command g c = rw c.in-Command.is (c.say_command.ensures c.args.format)

pub returns-in-Agent : goal.returns-in-Agent
returns-in-Agent g c = rw c.in-Agent.is (
  agent_packets (agent_of (asked_by_request c.args.request.now)),
  c.say_agent.ensures ∙ ap (λ a. canonical_all (agent_packets a)) c.agent_of.ensures.agent,
  refl,
  omega arith,
)

pub returns-in-Format : goal.returns-in-Format
returns-in-Format g c = rw c.in-Format.is (format_packets c.args.format, c.say_format.ensures, refl, omega arith)

pub returns-in-Delim : goal.returns-in-Delim
returns-in-Delim g c = rw c.in-Delim.is (Delim ∷ [], one_said Delim c.args.out.now c.put_delim.new.self c.requires c.put_delim.ensures, refl, omega arith)

pub returns-in-Flags : goal.returns-in-Flags
returns-in-Flags g c = rw c.in-Flags.is (flags_of (asked_by_request c.args.request.now), c.say_flags.ensures, refl, omega arith)

pub returns-in-First : goal.returns-in-First
returns-in-First g c = rw c.in-First.is (c.say_first.ensures c.args.format)

pub returns-in-Have : goal.returns-in-Have
returns-in-Have g c = rw c.in-Have.is (c.say_have.ensures c.args.format)

pub returns-in-Done : goal.returns-in-Done
returns-in-Done g c = rw c.in-Done.is (done_of (asked_by_request c.args.request.now), c.say_done.ensures, refl, omega arith)

pub returns-in-Flush : goal.returns-in-Flush
returns-in-Flush g c = rw c.in-Flush.is (Flush ∷ [], one_said Flush c.args.out.now c.put_flush.new.self c.requires c.put_flush.ensures, refl)
