-- The first line of a `git://` connection, as the client writes it (gitprotocol-pack(5), "Git Transport").
use Rattle.std.specs.Prelude.{false, Option, Result, Ok, Err}
use Rattle.gpkt.specs.Packets.{Bytes, canonical_all}
use Rattle.gpkt.specs.Sending.{Input, Output, IsUnread, Passes}
use Rattle.ghello.specs.Hello.{Hello, canonical_hello}
use Rattle.gfetch.specs.Conversations.{FailsToSend}

-- the bytes of the first line
abbrev pub hello_bytes : Hello → Bytes
hello_bytes hello = canonical_all (canonical_hello hello)

-- The part of the output up to a moment at which the sink has not failed. `written` and `passed` are the written and
-- the flushed bytes at that moment.
abbrev pub head_of : Output → Option Bytes → Option Bytes → Output
head_of output written passed = record {
  written = record { old = output.written.old; new = written };
  passed_on = record { old = output.passed_on.old; new = passed };
  was_down = output.was_down;
  is_down = false;
}

-- The part of the output from a moment at which the sink has not failed. `written` and `passed` are the written and
-- the flushed bytes at that moment.
abbrev pub tail_of : Output → Option Bytes → Option Bytes → Output
tail_of output written passed = record {
  written = record { old = written; new = output.written.new };
  passed_on = record { old = passed; new = output.passed_on.new };
  was_down = false;
  is_down = output.is_down;
}

-- the client writes and flushes the first line, and `Rest` holds for the rest of the output
pub record HasGreeted (hello : Hello) (output : Output) (Rest : Output → Type 0) : Type 0 where
  pub written : Option Bytes
  pub passed : Option Bytes
  pub greets : Passes (head_of output written passed) (hello_bytes hello)
  pub rest : Rest (tail_of output written passed)

-- the sink failed while the client sent the first line, so the client reads nothing
pub record CannotGreet (hello : Hello) (input : Input) (output : Output) : Type 0 where
  pub fails : FailsToSend output (hello_bytes hello)
  pub unread : IsUnread input

-- the effect of a call that tries to write and flush these bytes
abbrev pub PassesOrFails : {E : Type 0} → Output → Result (Unit {0}) E → Bytes → Type 0
PassesOrFails output (Ok done) bytes = Passes output bytes
PassesOrFails output (Err failed) bytes = FailsToSend output bytes
