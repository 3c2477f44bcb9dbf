-- The capability advertisement (gitprotocol-v2(5), "Capability Advertisement"):
--
--   capability-advertisement = protocol-version capability-list flush-pkt
--   protocol-version = PKT-LINE("version 2" LF)
--   capability-list = *capability
--   capability = PKT-LINE(key[=value] LF)
use Rattle.std.specs.Prelude.{◌≡◌, ℕ, ◌≤◌, Bool, true, false, List, [], ◌∷◌, ◌++◌, length, map, codes, All}
use Rattle.std.specs.Prelude.{if◌then◌else◌, ◌==◌, ◌&&◌, nat_lt, Option, Some, None}
use Rattle.std.specs.List.{filter_map}
use Rattle.std.specs.Str.{bytes_eq}
use Rattle.gpkt.specs.Packets.{Bytes, Packet, Data, Flush, Delim, ResponseEnd, text}
use Rattle.ggrammar.specs.Grammar.{Verdict, Open, Whole, Refused, IsWhole, if_room}
use Rattle.ggrammar.specs.Texts.{text_packet, texts_of}
use Rattle.ggrammar.specs.PeerErrors.{judge_unless_error}
use Rattle.ggrammar.specs.Capabilities.{Capability, IsWellFormed, capability_of, capability_text, is_key, is_value}
use Rattle.ggrammar.specs.declared.fault.Why.TheVariants as why

-- the maximum number of capabilities in an advertisement
abbrev pub max_advertised : ℕ
max_advertised = 64

abbrev pub version : Bytes
version = codes "version 2"

-- ---- the advertisement as the manual defines it

-- the packets are an advertisement with these capabilities
pub record IsAdvert (packets : List Packet) (capabilities : List Capability) : Type 0 where
  pub first : Bytes
  pub payloads : List Bytes
  pub parts : packets ≡ Data first ∷ (map Data payloads ++ Flush ∷ [])
  pub is_version : text first ≡ version
  pub each : map (λ payload. capability_of (text payload)) payloads ≡ map (λ capability. Some capability) capabilities
  pub few : length capabilities ≤ max_advertised

-- ---- the grammar

abbrev pub capabilities_in : List Bytes → List Capability
capabilities_in [] = []
capabilities_in (first ∷ texts) = filter_map capability_of texts

abbrev pub capabilities_of : List Packet → List Capability
capabilities_of packets = capabilities_in (texts_of packets)

abbrev pub judge_version : Bytes → Verdict
judge_version line = if bytes_eq line version then Open else Refused why.BadText

abbrev pub judge_capability : ℕ → Option Capability → Verdict
judge_capability count None = Refused why.BadText
judge_capability count (Some capability) = if_room (nat_lt count max_advertised)

-- the verdict on a text line, given the number of earlier lines and the number of earlier capabilities
abbrev pub judge_text : ℕ → ℕ → Bytes → Verdict
judge_text texts capabilities line =
    if texts == 0 then judge_version line else judge_capability capabilities (capability_of line)

unfoldable pub judge_at : ℕ → ℕ → Packet → Verdict
judge_at texts capabilities (Data payload) =
    judge_unless_error (λ bytes. judge_text texts capabilities (text bytes)) payload
judge_at texts capabilities Flush = if texts == 0 then Refused why.UnexpectedFrame else Whole
judge_at texts capabilities Delim = Refused why.UnexpectedFrame
judge_at texts capabilities ResponseEnd = Refused why.UnexpectedFrame

abbrev pub judge : List Packet → Packet → Verdict
judge packets packet = judge_at (length (texts_of packets)) (length (capabilities_of packets)) packet

-- whether the packet has contents to store: a capability has contents, but the version line does not
abbrev pub brings : List Packet → Packet → Bool
brings packets (Data payload) = nat_lt 0 (length (texts_of packets))
brings packets _ = false

-- the packets are a complete advertisement with these capabilities
pub record Says (packets : List Packet) (capabilities : List Capability) : Type 0 where
  pub whole : IsWhole judge packets
  pub says : capabilities ≡ capabilities_of packets

-- ---- writing

-- valid contents of an advertisement: at most 64 well-formed capabilities
pub record AreCapabilities (capabilities : List Capability) : Type 0 where
  pub each : All IsWellFormed capabilities
  pub few : length capabilities ≤ max_advertised

abbrev pub capability_packet : Capability → Packet
capability_packet capability = text_packet (capability_text capability)

abbrev pub canonical_advert : List Capability → List Packet
canonical_advert capabilities = text_packet version ∷ (map capability_packet capabilities ++ Flush ∷ [])

-- the packets are exactly those that are written for the capabilities
abbrev pub IsCanonical : List Packet → List Capability → Type 0
IsCanonical packets capabilities = packets ≡ canonical_advert capabilities

-- ---- capabilities that can be added

abbrev pub is_value_or_none : Option Bytes → Bool
is_value_or_none None = true
is_value_or_none (Some value) = is_value value

-- whether the key is well-formed, and the value is well-formed or absent
abbrev pub is_capability : Capability → Bool
is_capability capability = is_key capability.key && is_value_or_none capability.value

-- whether the list has room for another capability
abbrev pub has_room : List Capability → Bool
has_room capabilities = nat_lt (length capabilities) max_advertised
