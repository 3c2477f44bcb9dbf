-- The packets that end a reply (gitprotocol-v2(5), "Packet-Line Framing"): a flush, or a flush and a response-end.
use Rattle.std.specs.Prelude.{List, [], ◌∷◌}
use Rattle.gpkt.specs.Packets.{Packet, Data, Flush, Delim, ResponseEnd}
use Rattle.ggrammar.specs.Grammar.{Verdict, Open, Whole, Refused}
use Rattle.ggrammar.specs.PeerErrors.{judge_unless_error}
use Rattle.ggrammar.specs.declared.ends.Ends.{Ends}
use Rattle.ggrammar.specs.declared.ends.Ends.TheVariants.{Plain, Response}
use Rattle.ggrammar.specs.declared.fault.Why.TheVariants.{UnexpectedFrame}

-- the packets that follow the flush
abbrev pub ends_with : Ends → List Packet
ends_with Plain = []
ends_with Response = ResponseEnd ∷ []

-- the verdict on the flush, which ends the reply unless a response-end must follow
abbrev pub at_flush : Ends → Verdict
at_flush Plain = Whole
at_flush Response = Open

-- the verdict on a packet after the flush: only a response-end is accepted; an error that the peer reports is rejected
-- with `RemoteErr`
abbrev pub after_flush : Packet → Verdict
after_flush (Data payload) = judge_unless_error (λ bytes. Refused UnexpectedFrame) payload
after_flush Flush = Refused UnexpectedFrame
after_flush Delim = Refused UnexpectedFrame
after_flush ResponseEnd = Whole
