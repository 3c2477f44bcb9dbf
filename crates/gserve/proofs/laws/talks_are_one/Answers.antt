use Rattle.gobject.specs.Packs.{MayPack}
use Rattle.ggrammar.specs.Limits.{profile}
use Rattle.grequest.specs.Requests.{judge}
use Rattle.gserve.proofs.TalkLemmas.{talks_are_one}
use Rattle.gserve.proofs.laws.talks_are_one.Goals as goal

pub returns : goal.returns
returns g c = λ server ends bytes one other ended last is.
    let format = server.graph.format in
    talks_are_one (MayPack (g.K.Packer.packs c.args.packer.now)) (g.K.Packer.pack_fails c.args.packer.now) server
    (c.messages_are_read.ensures (judge profile format)) (c.one_meaning.ensures.one profile format) (c.reads_exactly.ensures.missing profile format) ends
    c.spellings_join.ensures.split bytes one other ended last
    (λ asked answer again h k. c.answers_are_one.ensures server asked answer again is h k)
