-- The fetch replies that can be written.
use Rattle.std.specs.Prelude.{◌≡◌, ◌≤◌, true, false, List, length, All}
use Rattle.gname.specs.Ids.{Id, IsIdOf}
use Rattle.gname.specs.declared.formats.Format.{Format}
use Rattle.ggrammar.specs.declared.limits.Limits.{Limits}
use Rattle.gfetchreply.specs.FetchReplies.{FetchReply, Acks, Ready, Pack, Reading, max_acks}

pub record AreAcks (limits : Limits) (format : Format) (acked : List Id) : Type 0 where
  pub ids : All (IsIdOf format) acked
  pub few : length acked ≤ max_acks limits

-- A well-formed reply for a reader. The reply has no acknowledgments exactly if the reader expects a direct reply. The
-- acknowledged ids and the pack are within the reader's limits, and the ids have the reader's format.
abbrev pub IsReplyIn : Reading → FetchReply → Type 0
IsReplyIn reading (Acks ids) = (reading.direct ≡ false) × AreAcks reading.limits reading.format ids
IsReplyIn reading (Ready ids pack) =
    (reading.direct ≡ false) × AreAcks reading.limits reading.format ids × (length pack ≤ reading.limit)
IsReplyIn reading (Pack pack) = (reading.direct ≡ true) × (length pack ≤ reading.limit)
