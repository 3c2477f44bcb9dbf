-- Checking ids in sequence, and the packets of a reply that remain to be written.
use Rattle.std.proofs.Common.{◌≡◌, ◌≢◌, ℕ, ◌+◌, ◌≤◌, ◌<◌, ◌↔◌, Bool, false, List, [], ◌∷◌, ◌++◌, length, drop, get_or}
use Rattle.std.proofs.Common.{map, suc, Option, Result, Ok, Err, refl, sym, ap, ◌∙◌, add-one, drop-cons, arith, true}
use Rattle.std.proofs.Common.{subst}
use Rattle.std.specs.Prelude.{IfErr, IsErrAnd, IsErrOf, All, ◌&&◌}
use Rattle.gpkt.specs.Bands.{max_band}
use Rattle.gpkt.specs.Laws.{Fits}
use Rattle.gpkt.specs.PacketWriting.{Writer, HasWritten}
use Rattle.gpkt.specs.Packets.{Packet, canonical, max_payload, payload_of}
use Rattle.gpkt.specs.declared.fault.WriteFault.{WriteFault}
use Rattle.gpkt.specs.declared.fault.WriteFault.TheVariants.{Payload}
use Rattle.ggrammar.specs.Writing.{IsWriting, WritesPackets, WritesPacket, WritesFitting, PacketsArePart, StartsWriting}
use Rattle.ggrammar.specs.Writing.{GoesOnWriting, GoesOnAfterPart, FailsWriting, EndsWriting}
use Rattle.gfetchreply.specs.FetchReplies.{ack_packet}
use Rattle.std.specs.List.{list_all}
use Rattle.std.proofs.lemmas.List.Elements.{All-cons}
use Rattle.gname.specs.Ids.{IsIdOf}
use Rattle.gname.specs.declared.formats.Format.{Format}
use Rattle.gname.specs.Ids.{has_format}

-- the check of all ids has the result of the check of the ids `rest`
abbrev pub Tells : Format → List (List ℕ) → List (List ℕ) → Type 0
Tells format ids rest =
    (list_all (has_format format) ids ≡ list_all (has_format format) rest) × (All (IsIdOf format) rest → All (IsIdOf format) ids)

ids_left : (ids : List (List ℕ)) (i : ℕ) (id : List ℕ) → i < length ids → id ≡ get_or ids i id → drop i ids ≡ id ∷ drop (i + 1) ids
ids_left ids i id inside at =
    rw add-one (drop-cons ids i id inside ∙ ap (λ (x : List ℕ). x ∷ drop (suc i) ids) (sym at))

-- after an id that has the format, the check of all ids has the result of the check of the ids after it
pub tells_on : (format : Format) (ids : List (List ℕ)) (i : ℕ) (id : List ℕ) → i < length ids → id ≡ get_or ids i id → has_format format id ≡ true → IsIdOf format id
    → Tells format ids (drop i ids) → Tells format ids (drop (i + 1) ids)
tells_on format ids i id inside at has is h =
    let left = ids_left ids i id inside at in (
      h.0 ∙ (ap (list_all (has_format format)) left ∙ ap (λ (b : Bool). b && list_all (has_format format) (drop (i + 1) ids)) has),
      λ all. h.1 (subst (All (IsIdOf format)) (sym left) (All-cons (IsIdOf format) id (drop (i + 1) ids) is all)),
    )

-- ---- the packets that remain to be written

-- the packets of the ids from `i` on: the packet of the next id, then those of the ids after it
pub ids_next : (ids : List (List ℕ)) (i : ℕ) (id : List ℕ) → i < length ids → id ≡ get_or ids i id
    → map ack_packet (drop i ids) ≡ (ack_packet id ∷ []) ++ map ack_packet (drop (i + 1) ids)
ids_next ids i id inside at = ap (map ack_packet) (ids_left ids i id inside at)

-- writing at most `max_band` bytes on a band does not fail with `Payload`
pub fits_band : {P : Type 0} (result : Result (Unit {0}) WriteFault) (bytes : List ℕ) → (IsErrOf result Payload ↔ (P × (max_band < length bytes)))
    → length bytes ≤ max_band → IfErr result (λ fault. fault ≢ Payload)
fits_band (Ok done) bytes h short = tt
fits_band (Err fault) bytes h short = λ e. let long = (h.0 cc).1 in omega (arith, long, short)

module _ {W : Type 0} (contents passed_on : W → Option (List ℕ)) (is_down : W → Bool) (loans : W → List ℕ) where
  -- the laws of writing, as `writes_packets` has them
  abbrev Laws : Type 0
  Laws = record {
    line : WritesPacket contents passed_on is_down loans;
    fitting : WritesFitting contents passed_on is_down loans;
    part : PacketsArePart contents passed_on is_down loans;
    starts : StartsWriting contents passed_on is_down loans;
    goes_on : GoesOnWriting contents passed_on is_down loans;
    after_part : GoesOnAfterPart contents passed_on is_down loans;
    fails : FailsWriting contents passed_on is_down loans;
    ends : EndsWriting contents passed_on is_down loans;
  }

  -- the outcome of writing a text, which fails with `Payload` if the text is too long
  abbrev WritesText : Writer W → Writer W → Result (Unit {0}) WriteFault → Packet → Type 0
  WritesText old new result line = record {
    written : HasWritten contents passed_on is_down loans old new result (canonical line);
    too_long : IsErrOf result Payload ↔ ((old.failed ≡ false) × (max_payload < length (payload_of line)));
  }

module _ {W : Type 0} {contents passed_on : W → Option (List ℕ)} {is_down : W → Bool} {loans : W → List ℕ} where
  -- after a first text that is not too long is written, the packets `rest` remain to be written
  pub headed : Laws contents passed_on is_down loans → {start next : Writer W} (line : Packet) (rest : List Packet)
      → WritesText contents passed_on is_down loans start next (Ok tt) line → Fits line
      → IsWriting contents passed_on is_down loans start next (line ∷ rest) rest
  headed law line rest text short =
      law.goes_on _ _ _ _ _ (line ∷ []) rest (law.starts _ _) refl
      (law.fitting _ _ (Ok tt) line text.written text.too_long short)

  pub heading_fails : Laws contents passed_on is_down loans
      → {start new : Writer W} {fault : WriteFault} {result : Result (Unit {0}) WriteFault} (line : Packet)
      (rest : List Packet) → WritesText contents passed_on is_down loans start new (Err fault) line → Fits line
      → IsErrAnd result (λ other. other ≡ fault)
      → WritesPackets contents passed_on is_down loans start new result (line ∷ rest)
  heading_fails law line rest text short =
      law.fails _ _ _ _ _ (line ∷ []) rest _ _ (law.starts _ _) refl
      (law.fitting _ _ (Err _) line text.written text.too_long short)
