-- A connection whose input consists of exactly the received bytes.
use Rattle.std.proofs.Common.{◌≡◌, ◌≢◌, Bool, true, false, [], Option, Some, None, Result, Ok, Err, IfErr, IfOk, OnOk, refl, sym, append-nil}
use Rattle.std.specs.Io.KnownBytes.{Consumes}
use Rattle.gpkt.specs.Change.{Change}
use Rattle.gpkt.specs.Packets.{Bytes}
use Rattle.gpkt.specs.declared.fault.PacketFault.TheVariants as packet
use Rattle.gtalk.specs.Connections.{FailsBy, HasDriven}
use Rattle.gtalk.specs.Partial.{LeavesSource}
use Rattle.gtalk.specs.Talks.{Talk}
use Rattle.gtalk.specs.declared.connection.Connection.{Connection}
use Rattle.gtalk.specs.declared.conversation.Stop.{Stop}
use Rattle.gtalk.specs.declared.conversation.Stop.TheVariants as stop
use Rattle.gtalk.specs.declared.conversation.Turn.{Turn}
use Rattle.gtalk.specs.declared.fault.TalkFault.{TalkFault}
use Rattle.gtalk.specs.declared.fault.TalkFault.TheVariants.{Io, Memory}
use Rattle.gpair.specs.Joined.{all_read}

-- whether the conversation was notified that its source failed
abbrev pub is_lost : Option Stop → Bool
is_lost (Some stop.Failed) = true
is_lost (Some stop.Ended) = false
is_lost (Some (stop.Refused fault)) = false
is_lost None = false

-- an input of exactly the received bytes ends or fails as the conversation was notified
pub leaves_all : (stopped : Option Stop) → LeavesSource stopped (Some []) (is_lost stopped)
leaves_all None = refl
leaves_all (Some stop.Ended) = (refl, refl)
leaves_all (Some stop.Failed) = refl
leaves_all (Some (stop.Refused packet.BadDigits)) = refl
leaves_all (Some (stop.Refused packet.Reserved)) = refl
leaves_all (Some (stop.Refused packet.TooLong)) = refl
leaves_all (Some (stop.Refused packet.Truncated)) = (refl, refl)
leaves_all (Some (stop.Refused packet.Io)) = refl
leaves_all (Some (stop.Refused packet.Failed)) = refl
leaves_all (Some (stop.Refused packet.Memory)) = refl

module _ {C A : Type 0} (turn : C → Turn) (holds : C → Talk → Type 0) (old new : Connection C A) (read written passed_on : Change) where
  pub driven_all : (sent down : Bool) (Untouched : Type 0) → (h : HasDriven {A = A} turn holds sent old new read written passed_on down Untouched)
      → HasDriven {A = A} turn holds sent old new (all_read h.drives.more) written passed_on down Untouched
  driven_all sent down Untouched h = record {
    drives = record {
      more = h.drives.more;
      said = h.drives.said;
      received = sym (append-nil h.drives.more);
      sent = h.drives.sent;
      goes = h.drives.goes;
    };
    flushed = h.flushed;
  }

  -- the bytes that were received before the sink failed
  unfoldable pub heard_bytes : (fault : TalkFault) → FailsBy {A = A} turn holds fault old new read written passed_on → Bytes
  heard_bytes Io f = f.more
  heard_bytes Memory f = []

  pub heard_consumed : (fault : TalkFault) (f : FailsBy {A = A} turn holds fault old new read written passed_on) → fault ≢ Memory
      → Consumes read.old read.new (heard_bytes fault f)
  unfolding heard_bytes
  heard_consumed Io f some = f.received
  heard_consumed Memory f some = absurd (some refl)

  pub fails_all : (fault : TalkFault) (f : FailsBy {A = A} turn holds fault old new read written passed_on)
      → FailsBy {A = A} turn holds fault old new (all_read (heard_bytes fault f)) written passed_on
  unfolding heard_bytes
  fails_all Io f = record {
    more = f.more;
    earlier = f.earlier;
    last = f.last;
    received = sym (append-nil f.more);
    sent = f.sent;
    talks = f.talks;
    clean = f.clean;
    passed = f.passed;
    some = f.some;
  }
  fails_all Memory f = tt

-- ---- the result of a call

pub joined_by : {T E : Type 0} (r : Result T E) (D F : Type 0) (P : T → Type 0) (Q : E → Type 0) (G : Result T E → Type 0) → OnOk r D → OnOk r F → IfOk r P → IfErr r Q
    → ((t : T) → D → F → P t → G (Ok t)) → ((e : E) → r ≡ Err e → Q e → G (Err e)) → G r
joined_by (Ok t) D F P Q G d f p q ok err = ok t d f p
joined_by (Err e) D F P Q G d f p q ok err = err e refl q
