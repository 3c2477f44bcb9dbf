-- The count of the bytes sent on a connection.
use Rattle.std.proofs.Common.{◌≡◌, ◌+◌, ◌-◌, ◌^◌, ℕ, [], ◌++◌, Option, length, min, refl, sym, ap, ◌∙◌, arith, append-nil, length-append}
use Rattle.std.specs.Io.KnownBytes.{Keeps}
use Rattle.std.proofs.KnownBytes.{Appends-kept, Appends-nil}
use Rattle.gpkt.specs.Change.{Change}
use Rattle.gpkt.specs.Packets.{Bytes}
use Rattle.gtalk.specs.Connections.{Moves}
use Rattle.gtalk.specs.Talks.{Talk}
use Rattle.gtalk.specs.declared.connection.Connection.{Connection}
use Rattle.gevents.specs.Peers.{IsCounted, SendsCounted, count_of}

-- the count plus the number of newly sent bytes, saturated, is the count of all sent bytes
pub counts_on : (sent said : Bytes) (count was is : ℕ) → was ≡ count_of sent → length said ≡ count → is ≡ min (was + count) (2 ^ 64 - 1)
    → is ≡ count_of (sent ++ said)
counts_on sent said count was is before few after = omega (arith, before, few, after, length-append sent said)

module _ {C A : Type 0} (holds : C → Talk → Type 0) where
  -- receiving bytes leaves the count of sent bytes unchanged
  pub counted_on : (old new : Connection C A) (more : Bytes) (count : ℕ) → Moves {A = A} holds old new more []
      → IsCounted {A = A} holds old count → IsCounted {A = A} holds new count
  counted_on old new more count moves h = record {
    received = h.received ++ more;
    sent = h.sent ++ [];
    held = moves h.received h.sent h.held;
    counted = h.counted ∙ ap count_of (sym (append-nil h.sent));
  }

  -- sending bytes adds their number to the count
  pub counted_sent : (old new : Connection C A) (written : Change) (count was is : ℕ) → SendsCounted {A = A} holds old new written count
      → is ≡ min (was + count) (2 ^ 64 - 1) → IsCounted {A = A} holds old was → IsCounted {A = A} holds new is
  counted_sent old new written count was is s more h = record {
    received = h.received ++ [];
    sent = h.sent ++ s.said;
    held = s.moves h.received h.sent h.held;
    counted = counts_on h.sent s.said count was is h.counted s.counted more;
  }

  -- a call that sends nothing counts 0 sent bytes
  pub none_counted : (c : Connection C A) (old new : Option Bytes) → Moves {A = A} holds c c [] [] → Keeps old new
      → SendsCounted {A = A} holds c c (record { old = old; new = new }) 0
  none_counted c old new stays keeps = record {
    said = [];
    sent = Appends-kept old old new [] (Appends-nil old) keeps;
    moves = stays;
    counted = refl;
  }
