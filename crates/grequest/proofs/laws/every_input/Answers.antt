use Rattle.grequest.proofs.Verdicts.{refuses_packets}
use Rattle.grequest.proofs.laws.every_input.Goals as goal

pub returns : goal.returns
returns c = record {
  packets = refuses_packets;
  bytes = λ limits format.
      (c.messages_are_read.ensures _).every (c.endings.ensures.each limits format) (refuses_packets limits format) _;
}
