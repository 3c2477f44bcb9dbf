-- A packer that is asked for at most one pack for each answer. The answer determines the packer's recorded result.
use Rattle.std.specs.Prelude.{Bool, true, false}
use Rattle.gfetchreply.specs.FetchReplies.{FetchReply, Acks, Ready, Pack}
use Rattle.ganswer.specs.Answers.{Reply, Fetch}
use Rattle.ganswer.specs.declared.fault.ServeFault.{ServeFault}
use Rattle.ganswer.specs.declared.one_pack.Packing.{Packing}
use Rattle.ganswer.specs.declared.fault.ServeFault.TheVariants as serve
use Rattle.ganswer.specs.declared.one_pack.Packing.TheVariants as packing

pub record OnePack (K : Type 0) : Type 0 where
  pub packer : K
  pub answered : Packing

-- the packer failed, so it is not asked for another pack
abbrev pub has_failed : Packing → Bool
has_failed packing.Unasked = false
has_failed packing.Packed = false
has_failed (packing.Failed fault) = true

-- the packer's recorded result after a fetch reply: `Packed` if the reply contains a pack, otherwise `Unasked`
abbrev pub packing_of_fetch : FetchReply → Packing
packing_of_fetch (Acks commons) = packing.Unasked
packing_of_fetch (Ready commons pack) = packing.Packed
packing_of_fetch (Pack pack) = packing.Packed

-- the packer's recorded result after any reply; only a fetch reply can contain a pack
abbrev pub packing_of_reply : Reply → Packing
packing_of_reply (Fetch reply) = packing_of_fetch reply
packing_of_reply _ = packing.Unasked

-- the packer's recorded result if a request fails: `Failed` for a fault of the packer, otherwise `Unasked`
abbrev pub packing_of_fault : ServeFault → Packing
packing_of_fault (serve.Reader fault) = packing.Unasked
packing_of_fault (serve.Request fault) = packing.Unasked
packing_of_fault serve.NoWants = packing.Unasked
packing_of_fault (serve.NotOurs id) = packing.Unasked
packing_of_fault (serve.Pack fault) = packing.Failed fault
packing_of_fault serve.Memory = packing.Unasked
