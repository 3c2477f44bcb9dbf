use Rattle.std.proofs.Common.{sym, subst}
use Rattle.gpkt.specs.Packets.{packet_of}
use Rattle.ggrammar.specs.Grammar.{IsOpen}
use Rattle.gserver.proofs.HeardLemmas.{hears_packet}
use Rattle.gserver.proofs.side.ServerSideSideHeardServerReplyParts.hear.Goals as goal

pub returns : goal.returns
returns g c = λ front goes hears.
    hears_packet g.R.ServedRepository.server c.args.self.now c.args.message.now c.accept_packet.new.self front (packet_of c.args.line)
    c.accept_packet.result hears c.accept_packet.ensures.judge c.accept_packet.ensures.brings
    (c.accept_packet.ensures.takes front (subst (λ j. IsOpen j front) (sym hears.judged) goes) hears.held)
