-- A fetch reply (gitprotocol-v2(5), "fetch") without its pack. The pack is passed to a sink in pieces.
use Rattle.std.specs.Prelude.{Bool, true, false, List, []}
use Rattle.gname.specs.Ids.{Id}
use Rattle.gpkt.specs.Packets.{Bytes}
use Rattle.gfetchreply.specs.FetchReplies.{FetchReply}
use Rattle.gfetchreply.specs.FetchReplies as reply

pub data FetchHead : Type 0 where
  Acks : (ids : List Id) → FetchHead
  Ready : (ids : List Id) → FetchHead
  Pack : FetchHead

abbrev pub head_of : FetchReply → FetchHead
head_of (reply.Acks ids) = Acks ids
head_of (reply.Ready ids pack) = Ready ids
head_of (reply.Pack pack) = Pack

-- the pack of a reply, or no bytes if the reply has no pack
abbrev pub pack_of : FetchReply → Bytes
pack_of (reply.Acks ids) = []
pack_of (reply.Ready ids pack) = pack
pack_of (reply.Pack pack) = pack

-- the ids that a reply acknowledges
abbrev pub acknowledged_by : FetchReply → List Id
acknowledged_by (reply.Acks ids) = ids
acknowledged_by (reply.Ready ids pack) = ids
acknowledged_by (reply.Pack pack) = []

-- the reply consists of the pack alone
abbrev pub is_alone : FetchReply → Bool
is_alone (reply.Acks ids) = false
is_alone (reply.Ready ids pack) = false
is_alone (reply.Pack pack) = true
