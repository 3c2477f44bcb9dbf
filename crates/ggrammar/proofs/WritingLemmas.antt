-- Consecutive writes of packets.
use Rattle.std.proofs.Common.{◌≡◌, ◌≢◌, ℕ, ◌<◌, ◌↔◌, Bool, false, List, [], ◌++◌, length, Option, Result, Ok, Err, sym, subst, ap, ◌∙◌, append_assoc, append-nil, arith}
use Rattle.std.specs.Prelude.{IfErr, IsErrOf}
use Rattle.gpkt.specs.Packets.{Packet, canonical, canonical_all, max_payload, payload_of}
use Rattle.gpkt.specs.Laws.{Fits, CanonicalJoins, WritesJoin, FailsOfMore}
use Rattle.gpkt.specs.PacketWriting.{Writer, HasWritten}
use Rattle.gpkt.specs.declared.fault.WriteFault.{WriteFault}
use Rattle.gpkt.specs.declared.fault.WriteFault.TheVariants.{Payload}
use Rattle.ggrammar.specs.Writing.{WritesPackets, WritesPacket, WritesFitting, PacketsArePart, StartsWriting, GoesOnWriting, GoesOnAfterPart, FailsWriting, EndsWriting}

-- a call whose fault is never `Payload` does not return `Err Payload`
not_payload : (result : Result (Unit {0}) WriteFault) → IfErr result (λ fault. fault ≢ Payload) → result ≢ Err Payload
not_payload (Ok done) other = λ e. cc
not_payload (Err fault) other = λ e. other cc

module _ {W : Type 0} (contents passed_on : W → Option (List ℕ)) (is_down : W → Bool) (loans : W → List ℕ) where
  pub writes_packet : WritesPacket contents passed_on is_down loans
  writes_packet old new result line h fits = record {
    written = subst (HasWritten contents passed_on is_down loans old new result) (sym (append-nil (canonical line))) h;
    fits = fits;
  }

  fitting : (old : Writer W) (result : Result (Unit {0}) WriteFault) (line : Packet)
      → (IsErrOf result Payload ↔ ((old.failed ≡ false) × (max_payload < length (payload_of line)))) → Fits line
      → IfErr result (λ fault. fault ≢ Payload)
  fitting old (Ok done) line h short = tt
  fitting old (Err fault) line h short = λ e. let long = (h.0 cc).1 in omega (arith, long, short)

  pub writes_fitting : WritesFitting contents passed_on is_down loans
  writes_fitting old new result line h long short = writes_packet old new result line h (fitting old result line long short)

  -- writing `front` and then `more` is writing `front ++ more`
  followed : CanonicalJoins → WritesJoin contents passed_on is_down loans → (old mid new : Writer W) (front more : List Packet)
      (result : Result (Unit {0}) WriteFault) → WritesPackets contents passed_on is_down loans old mid (Ok tt) front
      → WritesPackets contents passed_on is_down loans mid new result more → WritesPackets contents passed_on is_down loans old new result (front ++ more)
  followed canonical_joins join old mid new front more result wrote h = record {
    written = subst (HasWritten contents passed_on is_down loans old new result) (sym (canonical_joins front more))
        (join old mid new (canonical_all front) (canonical_all more) result wrote.written h.written (not_payload result h.fits));
    fits = h.fits;
  }

  -- a failed write of `front` is a failed write of `front ++ more`
  cut : CanonicalJoins → FailsOfMore contents passed_on is_down loans → (old new : Writer W) (front more : List Packet) (fault : WriteFault)
      → WritesPackets contents passed_on is_down loans old new (Err fault) front → WritesPackets contents passed_on is_down loans old new (Err fault) (front ++ more)
  cut canonical_joins fails old new front more fault wrote = record {
    written = subst (HasWritten contents passed_on is_down loans old new (Err fault)) (sym (canonical_joins front more))
        (fails old new (canonical_all front) (canonical_all more) fault wrote.written wrote.fits);
    fits = wrote.fits;
  }

  pub starts_writing : StartsWriting contents passed_on is_down loans
  starts_writing start lines = record { joins = λ more new result h. h }

  pub packets_are_part : CanonicalJoins → WritesJoin contents passed_on is_down loans → PacketsArePart contents passed_on is_down loans
  packets_are_part canonical_joins join old new (Ok done) lines wrote =
      record { joins = λ more next result h. followed canonical_joins join old new next lines more result wrote h }
  packets_are_part canonical_joins join old new (Err fault) lines wrote = wrote

  pub goes_on_after_part : GoesOnAfterPart contents passed_on is_down loans
  goes_on_after_part start now next lines coming part rest before parts wrote = record {
    joins = λ more new result h. before.joins more new result
        (subst (WritesPackets _ _ _ _ now new result) (sym (append_assoc part rest more) ∙ ap (λ xs. xs ++ more) (sym parts))
        (wrote.joins (rest ++ more) new result h));
  }

  pub goes_on_writing : CanonicalJoins → WritesJoin contents passed_on is_down loans → GoesOnWriting contents passed_on is_down loans
  goes_on_writing canonical_joins join start now next lines coming front rest before parts wrote =
      goes_on_after_part start now next lines coming front rest before parts
      (packets_are_part canonical_joins join now next (Ok tt) front wrote)

  pub ends_writing : EndsWriting contents passed_on is_down loans
  ends_writing start now new lines coming result before h =
      subst (WritesPackets _ _ _ _ start new result) (append-nil lines)
      (before.joins [] new result (subst (WritesPackets _ _ _ _ now new result) (sym (append-nil coming)) h))

  pub fails_writing : CanonicalJoins → FailsOfMore contents passed_on is_down loans → FailsWriting contents passed_on is_down loans
  fails_writing canonical_joins fails start now new lines coming front rest fault (Ok done) before parts wrote same = absurd same
  fails_writing canonical_joins fails start now new lines coming front rest fault (Err other) before parts wrote same =
      subst (λ (f : WriteFault). WritesPackets contents passed_on is_down loans start new (Err f) lines) (sym same)
      (ends_writing start now new lines coming (Err fault) before
      (subst (WritesPackets _ _ _ _ now new (Err fault)) (sym parts) (cut canonical_joins fails now new front rest fault wrote)))
