-- A connection: the bytes received and sent, and the packets received and queued.
use Rattle.std.specs.Prelude.{◌≡◌, ◌≢◌, ℕ, ◌+◌, ◌<◌, ◌≤◌, ◌⊎◌, ◌++◌, List, [], length, drop, Bool}
use Rattle.std.specs.Prelude.{true, false, Option, Some, None, IsSome, Result, Ok, Err}
use Rattle.std.specs.Io.KnownBytes.{Appends, Consumes}
use Rattle.gpkt.specs.Change.{Change}
use Rattle.gpkt.specs.Devices.{KeepsPassed, PassesAll}
use Rattle.gpkt.specs.declared.fault.PacketFault.TheVariants as packet
use Rattle.gpkt.specs.Packets.{Bytes, Packet, SpellsAll, canonical_all, max_packet}
use Rattle.gtalk.specs.Talks.{IsNearer, IsTurnStart, Left, SaysOn, Talk}
use Rattle.gtalk.specs.Partial.{IsKept, IsStopped}
use Rattle.gtalk.specs.declared.connection.Connection.{Connection}
use Rattle.gtalk.specs.declared.conversation.Stop.{Stop}
use Rattle.gtalk.specs.declared.conversation.Stop.TheVariants as stop
use Rattle.gtalk.specs.declared.conversation.Turn.{Turn}
use Rattle.gtalk.specs.declared.conversation.Turn.TheVariants.{Listens, Speaks, Done}
use Rattle.gtalk.specs.declared.fault.TalkFault.{TalkFault}
use Rattle.gtalk.specs.declared.fault.TalkFault.TheVariants.{Io, Memory}

-- the received bytes encode the received packets, followed by the bytes `partial`
pub record Spelt (heard : List Packet) (partial received : Bytes) : Type 0 where
  pub front : Bytes
  pub parts : received ≡ front ++ partial
  pub spells : SpellsAll heard front

-- the bytes of the send queue, or no bytes if the queue is not allocated
abbrev pub bytes_in : Option Bytes → Bytes
bytes_in None = []
bytes_in (Some bytes) = bytes

-- If no bytes were sent before the last turn, the previously flushed bytes stay flushed. Otherwise, all bytes written
-- before the last turn are flushed. This is stated only for known written and flushed bytes.
abbrev pub HasPassed : Bytes → Option Bytes → Change → Change → Type 0
HasPassed said between written passed_on =
    ((said ≡ []) × KeepsPassed passed_on)
    ⊎ (IsSome written.old → IsSome passed_on.old
    → (bytes : Bytes) × (more : Bytes) × (between ≡ Some bytes) × (passed_on.new ≡ Some (bytes ++ more)))

-- If the call sent bytes, the sink has not failed. All written bytes are then flushed, if the written and flushed bytes
-- are known. Otherwise, the sink is unchanged.
abbrev pub HasSent : Bool → Bytes → Change → Change → Bool → Type 0 → Type 0
HasSent true said written passed_on down Untouched =
    (0 < length said) × (IsSome written.old → PassesAll written.new passed_on) × (down ≡ false)
HasSent false said written passed_on down Untouched = (said ≡ []) × Untouched

-- after a call that first wrote the bytes `said`, these bytes and all bytes before them are flushed, if the written and
-- flushed bytes were known before the call
abbrev pub PassesBytes : Bytes → Change → Change → Type 0
PassesBytes said written passed_on =
    (old : Bytes) → written.old ≡ Some old → IsSome passed_on.old
    → (more : Bytes) × (passed_on.new ≡ Some (old ++ said ++ more))

module _ {C A : Type 0} where
  -- the conversation of the connection
  abbrev pub conversation_of : Connection C A → C
  conversation_of connection = connection.conversation

  abbrev pub has_stopped : Connection C A → Option Stop
  has_stopped connection = connection.stopped

  -- the stored bytes of the packet that is not yet complete
  abbrev pub partial_of : Connection C A → Bytes
  partial_of connection = connection.incoming.bytes

  -- the queued bytes that are not sent yet
  abbrev pub pending_of : Connection C A → Bytes
  pending_of connection = drop connection.sent (bytes_in connection.outgoing)

  -- the conversation is done, or it listens although no more packets arrive
  abbrev pub IsDone : (C → Turn) → Connection C A → Type 0
  IsDone turn connection =
      (turn connection.conversation ≡ Done)
      ⊎ ((turn connection.conversation ≡ Listens) × ((why : Stop) × (connection.stopped ≡ Some why)))

  -- the turn of the connection: the turn of its conversation, or `Done` if it listens but no more packets arrive
  abbrev pub IsTurn : (C → Turn) → Connection C A → Turn → Type 0
  IsTurn turn connection Listens = (turn connection.conversation ≡ Listens) × (connection.stopped ≡ None)
  IsTurn turn connection Speaks = turn connection.conversation ≡ Speaks
  IsTurn turn connection Done = IsDone turn connection

  -- The received and sent bytes match a history that the conversation accepts. The sent bytes followed by the pending
  -- bytes encode the queued packets.
  pub record Holds (holds : C → Talk → Type 0) (connection : Connection C A) (received sent : Bytes) : Type 0 where
    pub talk : Talk
    pub held : holds connection.conversation talk
    pub stopped : talk.stopped ≡ connection.stopped
    pub partial : Bytes
    pub heard : Spelt talk.heard partial received
    pub rest : IsStopped connection.stopped partial
    pub kept : IsKept connection.stopped partial connection.incoming.bytes
    pub said : canonical_all talk.said ≡ sent ++ drop connection.sent (bytes_in connection.outgoing)

  -- the state of the connection matches some received and sent bytes
  abbrev pub IsHeld : (C → Talk → Type 0) → Connection C A → Type 0
  IsHeld holds connection = (received : Bytes) × (sent : Bytes) × Holds holds connection received sent

  -- the connection changes from the old to the new state by receiving the bytes `more` and sending the bytes `said`
  abbrev pub Moves : (C → Talk → Type 0) → Connection C A → Connection C A → Bytes → Bytes → Type 0
  Moves holds old new more said =
      (received sent : Bytes) → Holds holds old received sent → Holds holds new (received ++ more) (sent ++ said)

  -- no byte of a further packet is stored, unless the conversation listens or no more packets arrive
  abbrev pub IsClean : (C → Turn) → Connection C A → Type 0
  IsClean turn connection =
      turn connection.conversation ≢ Listens → connection.stopped ≡ None → connection.incoming.bytes ≡ []

  -- the buffer for received bytes and the send queue have room for any packet, and no allocation has failed
  pub record HasRoom (connection : Connection C A) : Type 0 where
    pub incoming : max_packet ≤ connection.incoming.room
    pub outgoing : IsSome connection.outgoing
    pub kept : connection.stopped ≢ Some (stop.Refused packet.Memory)

  -- The connection changes from the old to the new state by receiving the bytes `more` and sending the bytes `said`.
  -- `Leads` relates the histories before and after the change.
  pub record Goes (turn : C → Turn) (holds : C → Talk → Type 0) (Leads : Talk → Talk → Type 0)
      (old new : Connection C A) (more said : Bytes) : Type 0 where
    pub talks : (received sent : Bytes) (h : Holds holds old received sent)
        → (k : Holds holds new (received ++ more) (sent ++ said)) × Leads h.talk k.talk
    pub clean : IsClean turn old → IsClean turn new
    pub room : HasRoom old → HasRoom new

  -- nothing changes, or the conversation has received packets since it last queued one
  abbrev pub HearsOn : Connection C A → Connection C A → Talk → Talk → Type 0
  HearsOn old new talk after =
      ((after ≡ talk) × (new.conversation ≡ old.conversation)) ⊎ (IsTurnStart after × (after.said ≡ talk.said))

  -- if no packet of the current turn was queued at first, and the conversation speaks now, no packet of the current
  -- turn is queued now
  abbrev pub TurnsOn : (C → Turn) → Connection C A → Talk → Talk → Type 0
  TurnsOn turn new talk after = IsTurnStart talk → turn new.conversation ≡ Speaks → IsTurnStart after

  -- if the old state matches some received and sent bytes, the conversation is nearer to its end in the new state
  abbrev pub Advances : (C → Talk → Type 0) → (C → Turn) → (C → Left) → Connection C A → Connection C A → Type 0
  Advances holds turn left old new =
      IsHeld holds old → IsNearer turn left old.conversation new.conversation

  -- the connection stores `count` more bytes of a packet, or the conversation is nearer to its end
  abbrev pub Grows : (C → Talk → Type 0) → (C → Turn) → (C → Left) → Connection C A → Connection C A → ℕ → Type 0
  Grows holds turn left old new count =
      ((new.conversation ≡ old.conversation) × (length new.incoming.bytes ≡ length old.incoming.bytes + count))
      ⊎ Advances holds turn left old new

  -- the connection receives all bytes that are read
  pub record HearsRead (turn : C → Turn) (holds : C → Talk → Type 0) (old new : Connection C A) (read : Change)
      : Type 0 where
    pub more : Bytes
    pub received : Consumes read.old read.new more
    pub goes : Goes turn holds (HearsOn old new) old new more []

  -- all bytes that the connection sends are written
  pub record SendsSaid (turn : C → Turn) (holds : C → Talk → Type 0) (old new : Connection C A) (written : Change)
      : Type 0 where
    pub said : Bytes
    pub sent : Appends written.old written.new said
    pub goes : Goes turn holds SaysOn old new [] said
    pub partial : new.incoming.bytes ≡ old.incoming.bytes
    pub stopped : new.stopped ≡ old.stopped

  -- the connection receives all bytes that are read, and all bytes that it sends are written
  pub record Drives (turn : C → Turn) (holds : C → Talk → Type 0) (Leads : Talk → Talk → Type 0)
      (old new : Connection C A) (read written : Change) : Type 0 where
    pub more : Bytes
    pub said : Bytes
    pub received : Consumes read.old read.new more
    pub sent : Appends written.old written.new said
    pub goes : Goes turn holds Leads old new more said

  -- The connection is aborted. At `mid`, before its last turn, all queued bytes were sent and flushed. After that, a
  -- prefix of the bytes queued in the last turn was written.
  pub record BreaksOff (turn : C → Turn) (holds : C → Talk → Type 0) (old new : Connection C A)
      (read written passed_on : Change) : Type 0 where
    pub mid : Connection C A
    pub between : Option Bytes
    pub before : Drives turn holds (TurnsOn turn mid) old mid read (record { old = written.old; new = between })
    pub turns : (turn mid.conversation ≡ Speaks) ⊎ IsDone turn mid
    pub all_sent : drop mid.sent (bytes_in mid.outgoing) ≡ []
    pub last : SendsSaid turn holds mid new (record { old = between; new = written.new })
    pub passed : HasPassed before.said between written passed_on

  -- The sink failed in a turn that queued at least one packet. The bytes `earlier` of all earlier turns were written
  -- and flushed, and then `last`, a prefix of the bytes of the last turn, was written.
  pub record FailsInTurn (turn : C → Turn) (holds : C → Talk → Type 0) (old new : Connection C A)
      (read written passed_on : Change) : Type 0 where
    pub more : Bytes
    pub earlier : Bytes
    pub last : Bytes
    pub received : Consumes read.old read.new more
    pub sent : Appends written.old written.new (earlier ++ last)
    pub talks : (heard said : Bytes) (h : Holds holds old heard said) → IsTurnStart h.talk
        → (k : Holds holds new (heard ++ more) (said ++ (earlier ++ last)))
        × (canonical_all k.talk.earlier ≡ said ++ earlier)
    pub clean : IsClean turn old → new.stopped ≡ None → new.incoming.bytes ≡ []
    pub passed : ((earlier ≡ []) × KeepsPassed passed_on) ⊎ ((0 < length earlier) × PassesBytes earlier written passed_on)
    pub some : 0 < length (last ++ drop new.sent (bytes_in new.outgoing))

  -- the fault `Io` is a failure of the sink in a turn that queued at least one packet
  abbrev pub FailsBy : (C → Turn) → (C → Talk → Type 0) → TalkFault → Connection C A → Connection C A
      → Change → Change → Change → Type 0
  FailsBy turn holds Io old new read written passed_on = FailsInTurn turn holds old new read written passed_on
  FailsBy turn holds Memory old new read written passed_on = Unit {0}

  -- the connection receives all bytes that are read, and all bytes that it sends are written and flushed
  pub record HasDriven (turn : C → Turn) (holds : C → Talk → Type 0) (sent : Bool) (old new : Connection C A)
      (read written passed_on : Change) (down : Bool) (Untouched : Type 0) : Type 0 where
    pub drives : Drives turn holds (TurnsOn turn new) old new read written
    pub flushed : HasSent sent drives.said written passed_on down Untouched

-- the sink has not failed after `Ok`, and has failed after `Io`; after `Memory` the sink has failed if and only if it
-- had failed before the call
abbrev pub LeavesSink : Result Unit TalkFault → Bool → Bool → Type 0
LeavesSink (Ok done) was_down is_down = is_down ≡ false
LeavesSink (Err Io) was_down is_down = is_down ≡ true
LeavesSink (Err Memory) was_down is_down = is_down ≡ was_down

-- after `Io` the sink has failed; after any other result it has failed if and only if it had failed before the call
abbrev pub IsDownBy : {T : Type 0} → Result T TalkFault → Bool → Bool → Type 0
IsDownBy (Ok done) was_down is_down = is_down ≡ was_down
IsDownBy (Err Io) was_down is_down = is_down ≡ true
IsDownBy (Err Memory) was_down is_down = is_down ≡ was_down
