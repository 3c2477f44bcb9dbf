-- The ls-refs replies that can be written.
use Rattle.std.specs.Prelude.{ℕ, ◌+◌, ◌≤◌, Bool, true, false, ◌&&◌, ◌||◌, nat_lt, List, [], ◌∷◌, ◌++◌, length, All}
use Rattle.std.specs.Prelude.{IfSome, is_some, Some, Result}
use Rattle.std.specs.Option.{option_map_or}
use Rattle.gname.specs.Ids.{Id, IsIdOf, format_of}
use Rattle.gname.specs.Names.{Name, IsRefName}
use Rattle.gname.specs.declared.formats.Format.{Format}
use Rattle.gname.specs.declared.formats.Format.TheVariants.{Sha1, Sha256}
use Rattle.ggrammar.specs.Building.{Builds}
use Rattle.ggrammar.specs.Endings.{ends_with}
use Rattle.ggrammar.specs.declared.ends.Ends.{Ends}
use Rattle.ggrammar.specs.declared.fault.MessageFault.{MessageFault}
use Rattle.glsreply.specs.RefTexts.{RefLine}
use Rattle.glsreply.specs.LsReplies.{LsReply, max_lines, unborn_packets}

-- a valid line of a ref; the ids in the line have the given format
pub record IsRefLine (format : Format) (line : RefLine) : Type 0 where
  pub id : IsIdOf format line.id
  pub name : IsRefName line.name
  pub symref : IfSome line.symref IsRefName
  pub peeled : IfSome line.peeled (IsIdOf format)

-- both ids of a line have the given format
abbrev pub HasIdsOf : Format → RefLine → Type 0
HasIdsOf format line = IsIdOf format line.id × IfSome line.peeled (IsIdOf format)

-- the id of the first line, if there is a line, has the given format
abbrev pub BeginsIn : Format → List RefLine → Type 0
BeginsIn format [] = Unit {0}
BeginsIn format (line ∷ lines) = IsIdOf format line.id

-- the number of lines, including the line of an unborn HEAD
abbrev pub line_count : LsReply → ℕ
line_count reply = length (unborn_packets reply.unborn) + length reply.lines

-- the position of the last packet of a reply: the flush after the lines, or the response-end after the flush
abbrev pub last_frame : Ends → LsReply → ℕ
last_frame ends reply = line_count reply + length (ends_with ends)

pub record IsLsReplyIn (format : Format) (reply : LsReply) : Type 0 where
  pub unborn : IfSome reply.unborn IsRefName
  pub lines : All (IsRefLine format) reply.lines
  pub few : line_count reply ≤ max_lines

-- a valid reply whose ids all have one format
abbrev pub IsReplyValue : LsReply → Type 0
IsReplyValue reply = (format : Format) × IsLsReplyIn format reply

-- ---- building a reply

abbrev pub is_format : Format → Format → Bool
is_format Sha1 Sha1 = true
is_format Sha256 Sha256 = true
is_format _ _ = false

-- whether the id has the same format as the id of the line
abbrev pub has_format_of : RefLine → Id → Bool
has_format_of line id = is_format (format_of id) (format_of line.id)

abbrev pub first_has_format_of : RefLine → List RefLine → Bool
first_has_format_of line [] = true
first_has_format_of line (first ∷ lines) = has_format_of line first.id

abbrev pub has_one_format : List RefLine → RefLine → Bool
has_one_format lines line =
    first_has_format_of line lines && option_map_or (has_format_of line) line.peeled true

-- whether the reply has room for another line
abbrev pub has_room : LsReply → Bool
has_room reply = nat_lt (line_count reply) max_lines

-- whether the reply has room for the line of an unborn HEAD, or has that line already
abbrev pub has_room_for_unborn : LsReply → Bool
has_room_for_unborn reply = is_some reply.unborn || has_room reply

-- the line is added to the reply, or the line is refused and the reply is unchanged
abbrev pub Pushes : LsReply → RefLine → LsReply → Result Unit MessageFault → Type 0
Pushes old line new result =
    Builds (has_one_format old.lines line) (has_room old) old new (record old { lines = old.lines ++ line ∷ [] }) result

-- the unborn HEAD of the reply is set, or the call fails and the reply is unchanged
abbrev pub SetsUnborn : LsReply → Name → LsReply → Result Unit MessageFault → Type 0
SetsUnborn old target new result =
    Builds true (has_room_for_unborn old) old new (record old { unborn = Some target }) result
