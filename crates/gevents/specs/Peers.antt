-- The connection of a peer: the count of sent bytes, the outcomes of a read and of a write, and the reasons for an end.
use Rattle.std.specs.Prelude.{◌≡◌, ◌<◌, ◌⊎◌, [], ◌-◌, ◌^◌, ℕ, length, min, Result, Ok, Err, OnOk}
use Rattle.std.specs.Io.KnownBytes.{Appends, Consumes}
use Rattle.gpkt.specs.Change.{Change}
use Rattle.gpkt.specs.Packets.{Bytes}
use Rattle.gtalk.specs.Connections.{Holds, IsDone, IsTurn, Moves, has_stopped, pending_of}
use Rattle.gtalk.specs.Partial.{IsByBytes, IsByEnd}
use Rattle.gtalk.specs.Talks.{Talk}
use Rattle.gtalk.specs.declared.connection.Connection.{Connection}
use Rattle.gtalk.specs.declared.conversation.Turn.{Turn}
use Rattle.gtalk.specs.declared.conversation.Turn.TheVariants.{Listens}
use Rattle.gevents.specs.declared.event.End.{End}
use Rattle.gevents.specs.declared.event.End.TheVariants as end

-- the number of bytes, saturated at 2 ^ 64 - 1
abbrev pub count_of : Bytes → ℕ
count_of bytes = min (length bytes) (2 ^ 64 - 1)

-- the number of bytes that a write accepted
abbrev pub written_count : {E : Type 0} → Result ℕ E → ℕ
written_count (Ok count) = count
written_count (Err fault) = 0

module _ {C A : Type 0} (holds : C → Talk → Type 0) where
  -- the state of the connection matches some received and sent bytes, and `count` is the saturated number of sent bytes
  pub record IsCounted (connection : Connection C A) (count : ℕ) : Type 0 where
    pub received : Bytes
    pub sent : Bytes
    pub held : Holds holds connection received sent
    pub counted : count ≡ count_of sent

  -- the connection counts the written bytes as sent, and `count` is the number of the written bytes
  pub record SendsCounted (old new : Connection C A) (written : Change) (count : ℕ) : Type 0 where
    pub said : Bytes
    pub sent : Appends written.old written.new said
    pub moves : Moves holds old new [] said
    pub counted : length said ≡ count

  -- The connection receives all bytes that were read. A successful read receives at least one byte, or the end of the
  -- input.
  pub record HearsOnce {E : Type 0} (old new : Connection C A) (read : Change) (result : Result Unit E) : Type 0 where
    pub more : Bytes
    pub received : Consumes read.old read.new more
    pub moves : Moves holds old new more []
    pub some : OnOk result (((0 < length more) × IsByBytes (has_stopped new)) ⊎ IsByEnd (has_stopped new))

module _ {C A : Type 0} (turn : C → Turn) (connection : Connection C A) where
  -- The state of a connection for each reason why it ended. After `Over` and `Silent` the conversation is done. After
  -- `Over`, `Silent` and `Memory` no queued bytes are pending. A connection never ends with `Stalled` while it only
  -- waits for the peer to send.
  abbrev pub HasEnded : End → Type 0
  HasEnded end.Over = IsDone turn connection × (pending_of connection ≡ [])
  HasEnded end.Silent = IsDone turn connection × (pending_of connection ≡ [])
  HasEnded end.Stalled = ¬ (IsTurn turn connection Listens × (pending_of connection ≡ []))
  HasEnded end.Overdue = Unit {0}
  HasEnded end.Lost = Unit {0}
  HasEnded end.Memory = pending_of connection ≡ []
