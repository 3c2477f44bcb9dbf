-- The steps at the start of a connection, and of the text of a refusal.
use Rattle.std.specs.Prelude.{◌≡◌, ℕ, ◌⊎◌, List, Result, Ok, Err}
use Rattle.gname.specs.declared.formats.Format.{Format}
use Rattle.gpkt.specs.Sending.{Output, Passes, SendsSome}
use Rattle.gpkt.specs.Packets.{Packet, canonical_all}
use Rattle.gpkt.specs.Devices.{KeepsPassed}
use Rattle.ganswer.specs.declared.fault.ServeFault.{ServeFault}
use Rattle.ganswer.specs.declared.fault.ServeFault.TheVariants as serve
use Rattle.gserver.specs.Conversations.{advert_packets}
use Rattle.gserver.specs.Refusals.{err_packets}
use Rattle.gserver.specs.declared.serving.End.{End}
use Rattle.gserver.specs.declared.serving.End.TheVariants as end
use Rattle.gserver.specs.declared.serving.ExchangeEnd.{ExchangeEnd}
use Rattle.gserver.specs.declared.serving.ExchangeEnd.TheVariants as exchange

-- The effect of a call that writes these packets and flushes them. The flush is guaranteed only if the bytes written
-- before the call are known. With this condition, two consecutive calls with this effect have the effect of one call.
abbrev pub PassesPackets : {E : Type 0} → Output → Result (Unit {0}) E → List Packet → Type 0
PassesPackets output (Ok done) packets = Passes output (canonical_all packets)
PassesPackets output (Err fault) packets = SendsSome output (canonical_all packets) × KeepsPassed output.passed_on

-- the server writes and flushes the error packet of the refusal, or the sink fails
abbrev pub ReportsRefusal : ServeFault → Output → ExchangeEnd → Type 0
ReportsRefusal fault output (exchange.Refused reported) =
    (reported ≡ fault) × Passes output (canonical_all (err_packets fault))
ReportsRefusal fault output exchange.WriteFailed =
    SendsSome output (canonical_all (err_packets fault)) × KeepsPassed output.passed_on
ReportsRefusal fault output _ = ⊥

-- an error packet replaces the advertisement, or the sink fails
abbrev pub RefusesFirst : ServeFault → Output → End → Type 0
RefusesFirst fault output (end.Refused reported) =
    (reported ≡ fault) × Passes output (canonical_all (err_packets fault))
RefusesFirst fault output end.WriteFailed =
    SendsSome output (canonical_all (err_packets fault)) × KeepsPassed output.passed_on
RefusesFirst fault output _ = ⊥

-- the advertisement is sent; if memory runs out for the advertisement, an error packet replaces it
abbrev pub Advertises : Format → Output → Result (Unit {0}) End → Type 0
Advertises format output (Ok done) = Passes output (canonical_all (advert_packets format))
Advertises format output (Err (end.Refused reported)) = RefusesFirst serve.Memory output (end.Refused reported)
Advertises format output (Err end.WriteFailed) = RefusesFirst serve.Memory output end.WriteFailed
    ⊎ (SendsSome output (canonical_all (advert_packets format)) × KeepsPassed output.passed_on)
Advertises format output (Err _) = ⊥

-- ---- the text of a refusal

-- the maximum length of the reason in a refusal's text, in bytes
abbrev pub max_phrase : ℕ
max_phrase = 22

abbrev pub max_detail : ℕ
max_detail = 65
