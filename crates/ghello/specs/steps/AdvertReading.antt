-- Definitions for the proofs of reading an advertisement. A reader stores whether the version was read, and the
-- capabilities.
use Rattle.std.specs.Prelude.{◌≡◌, ℕ, Bool, true, false, not, List, [], length, ◌==◌}
use Rattle.std.specs.Option.{option_to_list}
use Rattle.gpkt.specs.Packets.{Packet, Data, text}
use Rattle.ggrammar.specs.Grammar.{Verdict}
use Rattle.ggrammar.specs.Texts.{texts_of}
use Rattle.ggrammar.specs.Capabilities.{Capability, capability_of}
use Rattle.ghello.specs.Adverts.{capabilities_of, judge_at}

-- the minimum number of text lines read, which is one if the version was read
abbrev pub texts_at_least : Bool → ℕ
texts_at_least false = 0
texts_at_least true = 1

-- the capability that a packet adds, if the packet follows the version line
abbrev pub added_by : Bool → Packet → List Capability
added_by true (Data payload) = option_to_list (capability_of (text payload))
added_by _ _ = []

-- the verdict on a packet, given the state of the reader
abbrev pub judge_after : Bool → List Capability → Packet → Verdict
judge_after has_version capabilities packet = judge_at (texts_at_least has_version) (length capabilities) packet

abbrev pub brings_after : Bool → Packet → Bool
brings_after has_version (Data payload) = has_version
brings_after has_version _ = false

-- the state of a reader after the packets: whether the version was read, and the capabilities
pub record IsKept (packets : List Packet) (has_version : Bool) (capabilities : List Capability) : Type 0 where
  pub begun : not has_version ≡ (length (texts_of packets) == 0)
  pub listed : capabilities ≡ capabilities_of packets
