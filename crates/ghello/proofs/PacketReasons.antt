-- Packets are rejected only because of their content.
use Rattle.std.proofs.Common.{ℕ, ◌==◌, List, length, Option, Some, None}
use Rattle.std.specs.Prelude.{nat_lt}
use Rattle.std.specs.Str.{bytes_eq}
use Rattle.gpkt.specs.Packets.{Packet, Data, Flush, text}
use Rattle.ggrammar.specs.Grammar.{Open, Whole, Refused}
use Rattle.ggrammar.specs.Capabilities.{Capability, capability_of}
use Rattle.ggrammar.specs.MessageBytes.{IsForPacket, RefusesPackets}
use Rattle.ggrammar.specs.PeerErrors.{peer_error}
use Rattle.ggrammar.specs.Texts.{texts_of}
use Rattle.ggrammar.specs.declared.fault.Why.TheVariants.{BadText, Limit, UnexpectedFrame}
use Rattle.ggrammar.proofs.VerdictLemmas.{of_test, past_error}
use Rattle.ghello.specs.Hello as hello
use Rattle.ghello.specs.Adverts.{capabilities_of, judge, judge_at, judge_capability, judge_text, judge_version, max_advertised, version}

-- ---- a hello

of_payload : (said : Option hello.Hello) → IsForPacket (hello.judge_payload said)
of_payload (Some said) = tt
of_payload None = tt

pub hello_refuses_packets : RefusesPackets hello.judge
hello_refuses_packets front (Data payload) = of_payload (hello.hello_of payload)
hello_refuses_packets front _ = tt

-- ---- an advertisement

of_capability : (count : ℕ) (capability : Option Capability) → IsForPacket (judge_capability count capability)
of_capability count None = tt
of_capability count (Some capability) = of_test (nat_lt count max_advertised) Open (Refused Limit) tt tt

of_text : (texts count : ℕ) (line : List ℕ) → IsForPacket (judge_text texts count line)
of_text texts count line =
    of_test (texts == 0) (judge_version line) (judge_capability count (capability_of line))
    (of_test (bytes_eq line version) Open (Refused BadText) tt tt) (of_capability count (capability_of line))

of_packet : (texts count : ℕ) (packet : Packet) → IsForPacket (judge_at texts count packet)
unfolding judge_at
of_packet texts count (Data payload) = past_error (peer_error payload) (judge_text texts count (text payload)) (of_text texts count (text payload))
of_packet texts count Flush = of_test (texts == 0) (Refused UnexpectedFrame) Whole tt tt
of_packet texts count _ = tt

pub advert_refuses_packets : RefusesPackets judge
advert_refuses_packets front packet = of_packet (length (texts_of front)) (length (capabilities_of front)) packet
