use Rattle.std.proofs.Common.{◌≡◌, subst}
use Rattle.gpkt.specs.Packets.{Bytes}
use Rattle.gfetchreply.specs.FetchReplies.{Pack, Ready, canonical_reply}
use Rattle.gserver.proofs.LentLemmas.{held_acks, held_pack, held_ready}
use Rattle.gserver.proofs.lent_side.speak_reply.Goals as goal

pub returns-in-Acks : goal.returns-in-Acks
returns-in-Acks g c = rw c.in-Acks.is (λ said goes says. held_acks c.args.ends c.args.goes_on c.in-Acks.acks.ids said goes says)

pub returns-in-Ready : goal.returns-in-Ready
returns-in-Ready g c =
    rw c.in-Ready.is (λ said goes says.
    subst (λ (p : Bytes). (said ≡ canonical_reply c.args.ends (Ready c.in-Ready.acks.ids p)) × (goes ≡ c.args.goes_on)) c.with_pack-lent.ensures.pack
    (held_ready c.args.ends c.args.goes_on c.with_pack-lent.result.pack c.in-Ready.acks.ids said goes says))

pub returns-in-Pack : goal.returns-in-Pack
returns-in-Pack g c =
    rw c.in-Pack.is (λ said goes says.
    subst (λ (p : Bytes). (said ≡ canonical_reply c.args.ends (Pack p)) × (goes ≡ c.args.goes_on)) c.with_pack-lent-in-Pack.ensures.pack
    (held_pack c.args.ends c.args.goes_on c.with_pack-lent-in-Pack.result.pack said goes says))
