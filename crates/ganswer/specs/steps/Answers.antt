-- The steps of creating a server, and of answering fetch and ls-refs.
use Rattle.std.specs.Prelude.{◌≡◌, ◌≢◌, ◌<◌, ⊤, ℕ, List, [], All, Result, Ok, Err, ◌∷◌, ◌++◌, Option, Some, None, length, slice_get}
use Rattle.gname.specs.Ids.{Id}
use Rattle.gname.specs.Names.{Name}
use Rattle.gpkt.specs.Packets.{Bytes}
use Rattle.gobject.specs.declared.node.Entry.{Entry}
use Rattle.gobject.specs.Packs.{PackFails, Packs}
use Rattle.gobject.specs.declared.fault.PackFault.{PackFault}
use Rattle.gdag.specs.Graphs.{Holds, IsFirstAbsent}
use Rattle.grefs.specs.RefLists.{RefList}
use Rattle.grequest.specs.Asked.{FetchAsked, LsRefsAsked}
use Rattle.ganswer.specs.LsAnswers.{ShowsLines, all_refs, unborn_of}
use Rattle.ganswer.specs.FetchAnswers.{FailsToPack, SendsPack}
use Rattle.ganswer.specs.Servers.{Server, IsFirstDangling}
use Rattle.ganswer.specs.declared.fault.ServeFault.{ServeFault}
use Rattle.ganswer.specs.declared.one_pack.Packing.{Packing}
use Rattle.ganswer.specs.declared.fault.ServeRow.{ServeRow}
use Rattle.ganswer.specs.declared.fault.ServeFault.TheVariants as serve
use Rattle.ganswer.specs.declared.one_pack.Packing.TheVariants as packing
use Rattle.ggrammar.specs.Faults.{WhyRow}
use Rattle.glsreply.specs.LentViews.{lent_view}
use Rattle.glsreply.specs.LsReplies.{LsReply}
use Rattle.glsreply.specs.RefTexts.{RefLine}
use Rattle.glsreply.specs.declared.lent.LentLine.{LentLine}

-- ---- creating a server

-- the ref at this index is the first ref whose id the graph does not hold
abbrev pub DanglesAt : {A : Type 0} → List (Entry A) → RefList → ℕ → Type 0
DanglesAt g refs place =
    (place < length refs) × ((ref : Name × Id) → slice_get refs place ≡ Some ref → IsFirstDangling g refs ref.0)

-- ---- answering a fetch request

-- the result of checking that the server holds all wants
abbrev pub ChecksWants : {A : Type 0} → Server A → List Id → Result (Unit {0}) ServeFault → Type 0
ChecksWants server wants (Ok _) = (wants ≢ []) × All (Holds server.graph.entries) wants
ChecksWants server wants (Err serve.NoWants) = wants ≡ []
ChecksWants server wants (Err (serve.NotOurs id)) = IsFirstAbsent server.graph.entries wants id
ChecksWants server wants (Err _) = ⊥

-- the result of packing the objects to send
abbrev pub PacksFor : {A : Type 0} → Server A → Packs A → PackFails A → FetchAsked → Result Bytes ServeFault → Type 0
PacksFor server packs fails asked (Ok pack) = SendsPack server packs asked pack
PacksFor server packs fails asked (Err (serve.Pack cause)) = FailsToPack server fails asked cause
PacksFor server packs fails asked (Err serve.Memory) = ⊤
PacksFor server packs fails asked (Err _) = ⊥

-- ---- asking a packer once

-- the packer's recorded result, without the bytes of the pack
abbrev pub packing_of : {X : Type 0} → Result X PackFault → Packing
packing_of (Ok pack) = packing.Packed
packing_of (Err fault) = packing.Failed fault

-- ---- the table of faults

-- a row of the table, with its texts as bytes
abbrev pub row_view : ServeRow → WhyRow
row_view row = record { code = row.code; name = row.name.now; phrase = row.phrase.now }

-- ---- answering ls-refs: a reply that is being built

abbrev pub line_list : {A : Type 0} → Option (LentLine A) → List RefLine
line_list None = []
line_list (Some line) = lent_view line ∷ []

-- an unfinished reply that lists the requested refs among `front`
pub record IsAnswering {A : Type 0} (server : Server A) (asked : LsRefsAsked) (front : RefList)
    (reply : LsReply) : Type 0 where
  pub lines : ShowsLines server asked front reply.lines
  pub unborn : reply.unborn ≡ unborn_of server asked

-- an unfinished reply, before the line of `ref` is added
pub record IsNextRef {A : Type 0} (server : Server A) (asked : LsRefsAsked) (ref : Name × Id)
    (reply : LsReply) : Type 0 where
  pub front : RefList
  pub back : RefList
  pub parts : all_refs server ≡ front ++ ref ∷ back
  pub so_far : IsAnswering server asked front reply
