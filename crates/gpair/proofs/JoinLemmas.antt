-- The bytes that one end has received and sent, after several moves.
use Rattle.std.proofs.Common.{◌≡◌, ◌++◌, Bool, [], Option, subst, sym}
use Rattle.std.proofs.KnownBytes.{Appends-nil, Appends-trans, Consumes-nil, Consumes-trans}
use Rattle.gpkt.specs.Change.{Change}
use Rattle.gpkt.specs.Packets.{Bytes}
use Rattle.gtalk.specs.Connections.{Drives, Goes, HasDriven, HearsOn, HearsRead, SendsSaid}
use Rattle.gtalk.specs.Talks.{AnyTalk, SaysOn, Talk}
use Rattle.gtalk.specs.declared.connection.Connection.{Connection}
use Rattle.gtalk.specs.declared.conversation.Turn.{Turn}
use Rattle.gtalk.proofs.Moves.{goes_as, no_goes, two_goes}

module _ {C A : Type 0} (holds : C → Talk → Type 0) (turn : C → Turn) where
  -- nothing is received or sent
  pub drives_nothing : (c : Connection C A) (read written : Option Bytes)
      → Drives {A = A} turn holds AnyTalk c c (record { old = read; new = read }) (record { old = written; new = written })
  drives_nothing c read written = record {
    more = [];
    said = [];
    received = Consumes-nil read;
    sent = Appends-nil written;
    goes = no_goes holds turn AnyTalk c (λ t. tt);
  }

  -- bytes are only received
  drives_read : (old new : Connection C A) (first last written : Option Bytes)
      → HearsRead {A = A} turn holds old new (record { old = first; new = last })
      → Drives {A = A} turn holds AnyTalk old new (record { old = first; new = last }) (record { old = written; new = written })
  drives_read old new first last written h = record {
    more = h.more;
    said = [];
    received = h.received;
    sent = Appends-nil written;
    goes = goes_as holds turn (HearsOn old new) AnyTalk old new h.more [] (λ t u leads. tt) h.goes;
  }

  -- bytes are only sent
  drives_written : (old new : Connection C A) (read first last : Option Bytes)
      → SendsSaid {A = A} turn holds old new (record { old = first; new = last })
      → Drives {A = A} turn holds AnyTalk old new (record { old = read; new = read }) (record { old = first; new = last })
  drives_written old new read first last h = record {
    more = [];
    said = h.said;
    received = Consumes-nil read;
    sent = h.sent;
    goes = goes_as holds turn SaysOn AnyTalk old new [] h.said (λ t u leads. tt) h.goes;
  }

  -- two consecutive moves
  pub drives_then : (old mid new : Connection C A) (first between last written latest final : Option Bytes)
      → Drives {A = A} turn holds AnyTalk old mid (record { old = first; new = between }) (record { old = written; new = latest })
      → Drives {A = A} turn holds AnyTalk mid new (record { old = between; new = last }) (record { old = latest; new = final })
      → Drives {A = A} turn holds AnyTalk old new (record { old = first; new = last }) (record { old = written; new = final })
  drives_then old mid new first between last written latest final h k = record {
    more = h.more ++ k.more;
    said = h.said ++ k.said;
    received = Consumes-trans first between last h.more k.more h.received k.received;
    sent = Appends-trans written latest final h.said k.said h.sent k.sent;
    goes = two_goes holds turn AnyTalk AnyTalk AnyTalk old mid new h.more k.more h.said k.said (λ t u v p q. tt) h.goes k.goes;
  }

  -- the end also receives bytes
  pub drives_heard : (old mid new : Connection C A) (first between last written latest : Option Bytes)
      → Drives {A = A} turn holds AnyTalk old mid (record { old = first; new = between }) (record { old = written; new = latest })
      → HearsRead {A = A} turn holds mid new (record { old = between; new = last })
      → Drives {A = A} turn holds AnyTalk old new (record { old = first; new = last }) (record { old = written; new = latest })
  drives_heard old mid new first between last written latest h k =
      drives_then old mid new first between last written latest latest h (drives_read mid new between last latest k)

  -- the end also sends bytes
  pub drives_said : (old mid new : Connection C A) (first between written latest final : Option Bytes)
      → Drives {A = A} turn holds AnyTalk old mid (record { old = first; new = between }) (record { old = written; new = latest })
      → SendsSaid {A = A} turn holds mid new (record { old = latest; new = final })
      → Drives {A = A} turn holds AnyTalk old new (record { old = first; new = between }) (record { old = written; new = final })
  drives_said old mid new first between written latest final h k =
      drives_then old mid new first between between written latest final h (drives_written mid new between latest final k)

  -- nothing is read
  pub hears_nothing : (old new : Connection C A) (read : Option Bytes) → Goes {A = A} turn holds (HearsOn old new) old new [] []
      → HearsRead {A = A} turn holds old new (record { old = read; new = read })
  hears_nothing old new read goes = record { more = []; received = Consumes-nil read; goes = goes }

-- a sink that is unchanged
pub same_sink : {C A W : Type 0} (holds : C → Talk → Type 0) (turn : C → Turn) (contents passed_on : W → Option Bytes) (is_down : W → Bool)
    (passed : Bool) (old new : Connection C A) (read : Change) (begun sink after : W) → after ≡ sink
    → HasDriven {A = A} turn holds passed old new read (record { old = contents begun; new = contents sink })
    (record { old = passed_on begun; new = passed_on sink }) (is_down sink) (sink ≡ begun)
    → HasDriven {A = A} turn holds passed old new read (record { old = contents begun; new = contents after })
    (record { old = passed_on begun; new = passed_on after }) (is_down after) (after ≡ begun)
same_sink {C} {A} {W} holds turn contents passed_on is_down passed old new read begun sink after same h =
    subst (λ (w : W). HasDriven {A = A} turn holds passed old new read (record { old = contents begun; new = contents w })
    (record { old = passed_on begun; new = passed_on w }) (is_down w) (w ≡ begun)) (sym same) h
