use Rattle.std.proofs.Common.{drop, map}
use Rattle.ggrammar.specs.Writing.{IsWriting}
use Rattle.ghello.specs.Adverts.{capability_packet}
use Rattle.ghello.proofs.advert.write_capabilities.Given as goal

-- the packets of the capabilities that are not written yet remain to be written
abbrev pub invariant-loop-capability : goal.invariant-loop-capability
invariant-loop-capability g l =
    IsWriting g.W.Sink.contents g.W.Sink.passed_on g.W.Sink.is_down g.W.Sink.loans l.initial.writer l.writer
    (map capability_packet l.capabilities) (map capability_packet (drop l.capability-index l.capabilities))
