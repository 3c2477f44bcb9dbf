-- Side bands (gitprotocol-pack(5), "Packfile Data"; gitprotocol-v2(5), "fetch", "packfile"). The first byte of a
-- payload is the number of the band that carries the other bytes.
use Rattle.std.specs.Prelude.{◌≡◌, ℕ, ◌-◌, ◌≤◌, ◌↔◌, [], ◌∷◌, length, if◌then◌else◌, ◌==◌, Result, Ok, Err}
use Rattle.gpkt.specs.Packets.{Bytes, max_payload}
use Rattle.gpkt.specs.declared.band.Band.{Band}
use Rattle.gpkt.specs.declared.fault.BandFault.{BandFault}
use Rattle.gpkt.specs.declared.fault.BandFault.TheVariants.{NoBand, BadBand}
use Rattle.gpkt.specs.declared.band.Band.TheVariants as lent

-- the payload of a side-band packet: bytes of the pack, progress to show, or the reason why the sender aborts
pub data BandPacket : Type 0 where
  Data : (bytes : Bytes) → BandPacket
  Progress : (bytes : Bytes) → BandPacket
  Fatal : (bytes : Bytes) → BandPacket

-- the band byte of each band: the first byte of its payloads
abbrev pub data_band : ℕ
data_band = 1

abbrev pub progress_band : ℕ
progress_band = 2

abbrev pub fatal_band : ℕ
fatal_band = 3

-- the maximum number of bytes after the band byte of a payload
abbrev pub max_band : ℕ
max_band = max_payload - 1

-- the bytes of a side-band packet, without the band byte
abbrev pub band_bytes : BandPacket → Bytes
band_bytes (Data bytes) = bytes
band_bytes (Progress bytes) = bytes
band_bytes (Fatal bytes) = bytes

-- the payload of a side-band packet, with the band byte
abbrev pub band_payload : BandPacket → Bytes
band_payload (Data bytes) = data_band ∷ bytes
band_payload (Progress bytes) = progress_band ∷ bytes
band_payload (Fatal bytes) = fatal_band ∷ bytes

-- the side-band packet with this first byte, or the fault `BadBand`
abbrev pub band_at : ℕ → Bytes → Result BandPacket BandFault
band_at first bytes =
    if first == data_band then Ok (Data bytes)
    else if first == progress_band then Ok (Progress bytes)
    else if first == fatal_band then Ok (Fatal bytes)
    else Err BadBand

unfoldable pub band_form : Bytes → Result BandPacket BandFault
band_form [] = Err NoBand
band_form (first ∷ bytes) = band_at first bytes

-- the contents of a borrowed side-band packet, without addresses
abbrev pub band_packet : Band → BandPacket
band_packet (lent.Data bytes) = Data bytes.now
band_packet (lent.Progress bytes) = Progress bytes.now
band_packet (lent.Fatal bytes) = Fatal bytes.now

abbrev pub band_read : Result Band BandFault → Result BandPacket BandFault
band_read (Ok band) = Ok (band_packet band)
band_read (Err fault) = Err fault

-- decoding the payload of a side-band packet returns that packet
abbrev pub BandIsRead : Type 0
BandIsRead = (band : BandPacket) → band_form (band_payload band) ≡ Ok band

abbrev pub BandIsPayload : Type 0
BandIsPayload = (payload : Bytes) (band : BandPacket) → band_form payload ≡ Ok band → payload ≡ band_payload band

-- the payload fits into a packet exactly when it has at most `max_band` bytes after the band byte
abbrev pub BandFits : Type 0
BandFits = (band : BandPacket) → (length (band_bytes band) ≤ max_band) ↔ (length (band_payload band) ≤ max_payload)
