-- The lines of the requested refs (gitprotocol-v2(5), "ls-refs").
use Rattle.std.specs.Prelude.{◌≡◌, ◌<◌, ◌≤◌, ◌+◌, Bool, true, false, ℕ, List, [], ◌∷◌, ◌++◌, length, map, drop}
use Rattle.gname.specs.Ids.{Id}
use Rattle.gname.specs.Names.{Name}
use Rattle.gpkt.specs.Packets.{Bytes, canonical_all}
use Rattle.grefs.specs.RefLists.{RefList}
use Rattle.grequest.specs.Asked.{LsRefsAsked}
use Rattle.glsreply.specs.LsReplies.{ref_packet}
use Rattle.glsreply.specs.RefTexts.{RefLine}
use Rattle.ganswer.specs.LsAnswers.{ShowsLines}
use Rattle.ganswer.specs.Servers.{Server}

-- the lines of the requested refs among `refs` are appended to the queued bytes
pub record SaysLines {A : Type 0} (server : Server A) (asked : LsRefsAsked) (refs : RefList)
    (before out : Bytes) : Type 0 where
  pub lines : List RefLine
  pub shows : ShowsLines server asked refs lines
  pub spelt : out ≡ before ++ canonical_all (map ref_packet lines)

-- the line of the ref at this position is appended if the ref is requested, or no ref is at this position
abbrev pub SaysRefAt : {A : Type 0} → Server A → LsRefsAsked → ℕ → Bytes → Bytes → Bool → Type 0
SaysRefAt server asked at before out true =
    (at < length server.refs) × ((ref : Name × Id) × (drop at server.refs ≡ ref ∷ drop (at + 1) server.refs)
    × SaysLines server asked (ref ∷ []) before out)
SaysRefAt server asked at before out false = (length server.refs ≤ at) × (out ≡ before)
