-- Definitions for the proofs of reading a reply: the state after some packets, and how a packet changes it.
use Rattle.std.specs.Prelude.{◌≡◌, ℕ, ◌+◌, Bool, true, List, [], ◌∷◌, ◌++◌, length, if◌then◌else◌, ◌==◌}
use Rattle.std.specs.Prelude.{◌⊎◌, All, Some, Result, Ok, Err}
use Rattle.gname.specs.Names.{Name}
use Rattle.gpkt.specs.Packets.{Bytes, Packet, Data, Flush, text}
use Rattle.gname.specs.declared.formats.Format.{Format}
use Rattle.ggrammar.specs.Texts.{texts_of}
use Rattle.ggrammar.specs.declared.fault.Why.{Why}
use Rattle.glsreply.specs.RefTexts.{RefLine, line_of, FirstForm, UnbornForm, RefForm, first_form}
use Rattle.glsreply.specs.LsReplies.{LsReply, is_over, reply_of}
use Rattle.glsreply.specs.declared.reader.LsReplyReader.{LsReplyReader}

-- the state of reading: whether the flush was read, the number of text lines read, and the reply so far
pub record State : Type 0 where
  pub over : Bool
  pub count : ℕ
  pub reply : LsReply

-- the state after these packets
abbrev pub state_of : Format → List Packet → State
state_of format packets =
    record { over = is_over packets; count = length (texts_of packets); reply = reply_of format packets }

-- the state of a reader
abbrev pub state_in : {A : Type 0} → LsReplyReader A → State
state_in reader = record {
  over = reader.is_over;
  count = reader.count;
  reply = record { unborn = reader.unborn; lines = reader.lines.items };
}

-- the object format and the ending of the reader are unchanged
abbrev pub KeepsKind : {A : Type 0} → LsReplyReader A → LsReplyReader A → Type 0
KeepsKind old new = (new.format ≡ old.format) × (new.ends ≡ old.ends)

-- ---- the effect of a packet

abbrev pub with_line : State → Result RefLine Why → State
with_line state (Ok line) = record {
  over = state.over;
  count = state.count + 1;
  reply = record { unborn = state.reply.unborn; lines = state.reply.lines ++ line ∷ [] };
}
with_line state (Err why) = state

abbrev pub with_unborn : State → Result Name Why → State
with_unborn state (Ok target) = record {
  over = state.over;
  count = state.count + 1;
  reply = record { unborn = Some target; lines = state.reply.lines };
}
with_unborn state (Err why) = state

abbrev pub with_first : Format → State → Bytes → FirstForm → State
with_first format state line (UnbornForm target) = with_unborn state target
with_first format state line RefForm = with_line state (line_of format line)

abbrev pub with_text : Format → State → Bytes → State
with_text format state line =
    if state.count == 0 then with_first format state line (first_form line) else with_line state (line_of format line)

abbrev pub with_flush : State → State
with_flush state = record { over = true; count = state.count; reply = state.reply }

abbrev pub with_packet : Format → State → Packet → State
with_packet format state (Data payload) = with_text format state (text payload)
with_packet format state Flush = with_flush state
with_packet format state packet = state

-- ---- the state of the reader

-- a text is the line of a ref, or its first part is `unborn`
abbrev pub IsLineText : Format → Bytes → Type 0
IsLineText format line = ((target : Result Name Why) × (first_form line ≡ UnbornForm target))
    ⊎ ((ref : RefLine) × (line_of format line ≡ Ok ref))

abbrev pub AreLineTexts : Format → List Packet → Type 0
AreLineTexts format packets = All (IsLineText format) (texts_of packets)

-- the state of the reader is the state after these packets, and each text is the line of a ref or begins with `unborn`
abbrev pub Holds : {A : Type 0} → LsReplyReader A → List Packet → Type 0
Holds reader packets =
    (state_in reader ≡ state_of reader.format packets) × AreLineTexts reader.format packets
