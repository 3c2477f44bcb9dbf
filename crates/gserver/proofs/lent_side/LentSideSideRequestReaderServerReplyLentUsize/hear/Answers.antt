use Rattle.std.proofs.Common.{sym, subst}
use Rattle.gpkt.specs.Packets.{packet_of}
use Rattle.ggrammar.specs.Grammar.{IsOpen, Judge}
use Rattle.gserver.proofs.LentLemmas.{hears_request}
use Rattle.gserver.proofs.lent_side.LentSideSideRequestReaderServerReplyLentUsize.hear.Goals as goal

pub returns : goal.returns
returns g c = λ front goes hears.
    hears_request c.args.self.now c.args.message.now c.accept_packet.new.self front (packet_of c.args.line) c.accept_packet.result hears
    c.accept_packet.ensures.judge
    (c.accept_packet.ensures.takes front (subst (λ (j : Judge). IsOpen j front) (sym hears.judged) goes) hears.held)
