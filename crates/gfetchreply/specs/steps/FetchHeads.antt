-- The steps of reading a reply's head.
use Rattle.std.specs.Prelude.{Bool, List, if◌then◌else◌}
use Rattle.gname.specs.Ids.{Id}
use Rattle.gpkt.specs.Packets.{Bytes}
use Rattle.gfetchreply.specs.FetchReplies.{FetchReply}
use Rattle.gfetchreply.specs.FetchReplies as reply
use Rattle.gfetchreply.specs.FetchHeads.{FetchHead, Acks, Pack, Ready}

-- the head of a reply, given whether the reply is direct, whether it has `ready`, and which ids it acknowledges
abbrev pub head_by : Bool → Bool → List Id → FetchHead
head_by direct ready ids = if direct then Pack else if ready then Ready ids else Acks ids

-- the reply with this head and this pack
abbrev pub reply_with : FetchHead → Bytes → FetchReply
reply_with (Acks ids) pack = reply.Acks ids
reply_with (Ready ids) pack = reply.Ready ids pack
reply_with Pack pack = reply.Pack pack
