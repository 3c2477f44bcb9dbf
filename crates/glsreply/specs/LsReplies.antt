-- The grammar of an ls-refs reply: the value that a list of packets encodes, the packets that are refused with the
-- reasons, and the packets that are written. On a stateless connection a response-end follows the flush
-- (gitprotocol-v2(5), "Packet-Line Framing": 0002).
use Rattle.std.specs.Prelude.{◌≡◌, ℕ, Bool, true, false, List, [], ◌∷◌, ◌++◌, length, map, if◌then◌else◌, nat_lt}
use Rattle.std.specs.Prelude.{◌==◌, Option, Some, None, Result, Ok, Err}
use Rattle.std.specs.List.{filter_map, list_any}
use Rattle.gname.specs.Names.{Name}
use Rattle.gpkt.specs.Packets.{Bytes, Packet, Data, Flush, Delim, ResponseEnd, text}
use Rattle.gname.specs.declared.formats.Format.{Format}
use Rattle.ggrammar.specs.Grammar.{Verdict, Open, Refused, IsWhole, if_room}
use Rattle.ggrammar.specs.Endings.{ends_with, at_flush, after_flush}
use Rattle.ggrammar.specs.declared.ends.Ends.{Ends}
use Rattle.ggrammar.specs.Texts.{texts_of, text_packet}
use Rattle.ggrammar.specs.PeerErrors.{judge_unless_error}
use Rattle.ggrammar.specs.declared.fault.Why.{Why}
use Rattle.ggrammar.specs.declared.fault.Why.TheVariants.{UnexpectedFrame}
use Rattle.glsreply.specs.RefTexts.{RefLine, line_of, FirstForm, UnbornForm, RefForm, first_form, ref_text, unborn_text}

-- the maximum number of lines of a reply: one for HEAD, even if it is unborn, and 65,536 for other refs
abbrev pub max_lines : ℕ
max_lines = 65537

-- the value of a reply: the target of an unborn HEAD, and the refs
pub record LsReply : Type 0 where
  pub unborn : Option Name
  pub lines : List RefLine

-- ---- the value of the packets so far

abbrev pub is_flush : Packet → Bool
is_flush Flush = true
is_flush _ = false

-- whether the flush is among the packets; after the flush only a response-end may follow
abbrev pub is_over : List Packet → Bool
is_over packets = list_any is_flush packets

abbrev pub unborn_in : FirstForm → Option Name
unborn_in (UnbornForm (Ok target)) = Some target
unborn_in (UnbornForm (Err why)) = None
unborn_in RefForm = None

abbrev pub unborn_of : List Bytes → Option Name
unborn_of [] = None
unborn_of (first ∷ texts) = unborn_in (first_form first)

abbrev pub line_in : Result RefLine Why → Option RefLine
line_in (Ok line) = Some line
line_in (Err why) = None

-- the refs that the texts describe; the line of an unborn HEAD is skipped
abbrev pub ref_lines : Format → List Bytes → List RefLine
ref_lines format texts = filter_map (λ line. line_in (line_of format line)) texts

abbrev pub reply_of : Format → List Packet → LsReply
reply_of format packets = record {
  unborn = unborn_of (texts_of packets);
  lines = ref_lines format (texts_of packets);
}

-- ---- the grammar

abbrev pub judge_line : Result RefLine Why → Verdict
judge_line (Ok line) = Open
judge_line (Err why) = Refused why

abbrev pub judge_first : Format → Bytes → FirstForm → Verdict
judge_first format line (UnbornForm (Ok target)) = Open
judge_first format line (UnbornForm (Err why)) = Refused why
judge_first format line RefForm = judge_line (line_of format line)

-- the given verdict on a well-formed line, unless the reply already has the maximum number of lines
abbrev pub within_limit : ℕ → Verdict → Verdict
within_limit count Open = if_room (nat_lt count max_lines)
within_limit count verdict = verdict

abbrev pub judge_text : Format → ℕ → Bytes → Verdict
judge_text format count line =
    within_limit count
    (if count == 0 then judge_first format line (first_form line) else judge_line (line_of format line))

-- the verdict on a packet before the flush
abbrev pub judge_body : Format → Ends → ℕ → Packet → Verdict
judge_body format ends count (Data payload) = judge_unless_error (λ bytes. judge_text format count (text bytes)) payload
judge_body format ends count Flush = at_flush ends
judge_body format ends count Delim = Refused UnexpectedFrame
judge_body format ends count ResponseEnd = Refused UnexpectedFrame

unfoldable pub judge_at : Format → Ends → Bool → ℕ → Packet → Verdict
judge_at format ends over count packet = if over then after_flush packet else judge_body format ends count packet

abbrev pub judge : Format → Ends → List Packet → Packet → Verdict
judge format ends packets packet = judge_at format ends (is_over packets) (length (texts_of packets)) packet

-- whether the packet has contents to store, which is true for every text line
abbrev pub brings : List Packet → Packet → Bool
brings packets (Data payload) = true
brings packets _ = false

-- the packets are a complete reply with this value
pub record Says (format : Format) (ends : Ends) (packets : List Packet) (reply : LsReply) : Type 0 where
  pub whole : IsWhole (judge format ends) packets
  pub says : reply ≡ reply_of format packets

-- the result of reading a complete list of packets
abbrev pub IsRead : Format → Ends → List Packet → Option LsReply → Type 0
IsRead format ends packets (Some reply) = Says format ends packets reply
IsRead format ends packets None = ⊥

-- ---- writing

abbrev pub unborn_packets : Option Name → List Packet
unborn_packets None = []
unborn_packets (Some target) = text_packet (unborn_text target) ∷ []

abbrev pub ref_packet : RefLine → Packet
ref_packet line = text_packet (ref_text line)

-- the packets that are written for a reply
unfoldable pub canonical_reply : Ends → LsReply → List Packet
canonical_reply ends reply =
    unborn_packets reply.unborn ++ map ref_packet reply.lines ++ Flush ∷ ends_with ends

-- the packets are exactly those that are written for the reply
abbrev pub IsCanonicalReply : Ends → List Packet → LsReply → Type 0
IsCanonicalReply ends packets reply = packets ≡ canonical_reply ends reply
