use Rattle.std.proofs.Common.{ap, sym, subst}
use Rattle.gfetchreply.specs.Values.{Acks}
use Rattle.ganswer.specs.BegunFetches.{BeginsFetch}
use Rattle.ganswer.specs.FetchAnswers.{IsSent}
use Rattle.gserver.proofs.FetchLemmas.{acks_answer, pack_answer, ready_answer}
use Rattle.gserver.proofs.fetching.speak_fetch.Goals as goal

pub returns-in-Acks : goal.returns-in-Acks
returns-in-Acks g c = λ said goes says.
    let begun = subst (BeginsFetch c.args.asked.now.limits c.args.server.now c.args.asked.now.asked) c.in-Acks.is c.in_ok-acks.ensures in
    acks_answer c.args.server.now (g.R.PartPacker.packs c.args.packer) (g.R.PartPacker.pack_fails c.args.packer) c.args.asked.now.asked c.args.ends c.args.goes_on
    begun.can c.in-Acks.acks.ids said goes begun.begins.0 (ap (λ (a : Acks). a.ids) begun.begins.1) begun.begins.2 says

pub returns-in_ok-parts-in-Ready : goal.returns-in_ok-parts-in-Ready
returns-in_ok-parts-in-Ready g c = λ said goes says.
    let begun = subst (BeginsFetch c.args.asked.now.limits c.args.server.now c.args.asked.now.asked) c.in-Ready.is c.in_ok-acks.ensures in
    ready_answer c.args.server.now (g.R.PartPacker.packs c.args.packer) (g.R.PartPacker.pack_fails c.args.packer) c.args.asked.now.asked c.args.ends c.args.goes_on
    begun.can c.as_slice.result.now
    (subst (IsSent c.args.server.now c.args.asked.now.asked) (sym c.as_slice.ensures.value) begun.begins.3)
    (g.R.PartPacker.gives c.args.packer c.in_ok-parts-in-Ready.parts) (g.R.PartPacker.most c.args.packer c.in_ok-parts-in-Ready.parts)
    c.in_ok-parts-in-Ready.ensures c.in-Ready.acks.ids said goes
    begun.begins.0 (ap (λ (a : Acks). a.ids) begun.begins.1) begun.begins.2 says

pub returns-in_ok-parts-in-Pack : goal.returns-in_ok-parts-in-Pack
returns-in_ok-parts-in-Pack g c = λ said goes says.
    let begun = subst (BeginsFetch c.args.asked.now.limits c.args.server.now c.args.asked.now.asked) c.in-Pack.is c.in_ok-acks.ensures in
    pack_answer c.args.server.now (g.R.PartPacker.packs c.args.packer) (g.R.PartPacker.pack_fails c.args.packer) c.args.asked.now.asked c.args.ends c.args.goes_on
    begun.can c.as_slice-in-Pack.result.now
    (subst (IsSent c.args.server.now c.args.asked.now.asked) (sym c.as_slice-in-Pack.ensures.value) begun.begins.1)
    (g.R.PartPacker.gives c.args.packer c.in_ok-parts-in-Pack.parts) (g.R.PartPacker.most c.args.packer c.in_ok-parts-in-Pack.parts)
    c.in_ok-parts-in-Pack.ensures said goes begun.begins.0 says
