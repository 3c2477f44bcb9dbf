-- The printed lines for the refs of a server (as git-ls-remote(1)).
use Rattle.std.specs.Prelude.{[], ◌++◌, codes, Option, None, Some}
use Rattle.std.specs.List.{flat_map}
use Rattle.gname.specs.Names.{Name}
use Rattle.gpkt.specs.Packets.{Bytes}
use Rattle.glsreply.specs.LsReplies.{LsReply}
use Rattle.glsreply.specs.RefTexts.{RefLine, ref_text}

-- the line for a ref
abbrev pub ref_line : RefLine → Bytes
ref_line line = ref_text line ++ codes "\n"

-- the line for an unborn HEAD, with the branch that it points at; nothing if HEAD is not unborn
abbrev pub unborn_line : Option Name → Bytes
unborn_line None = []
unborn_line (Some target) = codes "unborn HEAD symref-target:" ++ (target ++ codes "\n")

-- all lines of a reply
abbrev pub reply_lines : LsReply → Bytes
reply_lines reply = unborn_line reply.unborn ++ flat_map ref_line reply.lines
