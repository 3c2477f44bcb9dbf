use Rattle.std.proofs.Common.{inl, inr, sym, ◌∙◌, arith}
use Rattle.gfetch.proofs.SideLemmas.{advert_goes, advert_messages, advert_mismatches, failed, rest_then}
use Rattle.gfetch.proofs.side.ClientSide.answer_advert.Goals as goal

pub returns-in-Ok-clause-answers : goal.returns-in-Ok-clause-answers
returns-in-Ok-clause-answers g c = λ lines said goes says begun may.
    inl (advert_goes c.args.self.now c.ask_next.new.self c.accept_advert.new.self c.args.advert.now lines said goes says
    c.in-Ok.ensures.accepts c.in-Ok.ensures.repo c.in-Ok.ensures.unborn
    (λ pending stage. c.ask_next.ensures.goes pending stage said goes may))

pub returns-in-Ok-clause-fewer : goal.returns-in-Ok-clause-fewer
returns-in-Ok-clause-fewer g c = λ reply is.
    let less = c.ask_next.ensures.fewer reply is in
    let same = advert_messages c.args.self.now.client.session c.accept_advert.new.self.session c.args.advert.now c.in-Ok.ensures.accepts in
    omega (arith, less, same)

pub returns-in-Ok-clause-stays : goal.returns-in-Ok-clause-stays
returns-in-Ok-clause-stays g c = rest_then c.args.self.now c.ask_next.new.self c.accept_advert.new.self c.in-Ok.ensures.repo c.ask_next.ensures.stays

pub returns-in-Err-clause-answers : goal.returns-in-Err-clause-answers
returns-in-Err-clause-answers g c = λ lines said goes says begun may.
    let old = c.args.self.now in
    let e = c.in-Err.ensures in
    inr (advert_mismatches old c.fail.new.self c.accept_advert.new.self c.args.advert.now lines said goes says
    c.in-Err.fault begun e.accepts
    (λ over. failed old c.fail.new.self c.accept_advert.new.self c.fail.result c.in-Err.fault said goes c.fail.ensures.silent may
    c.fail.ensures.fault c.fail.ensures.client over e.repo e.unborn))

pub returns-in-Err-clause-fewer : goal.returns-in-Err-clause-fewer
returns-in-Err-clause-fewer g c = λ reply is. absurd (cc (sym c.fail.ensures.silent ∙ is))

pub returns-in-Err-clause-stays : goal.returns-in-Err-clause-stays
returns-in-Err-clause-stays g c = rest_then c.args.self.now c.fail.new.self c.accept_advert.new.self c.in-Err.ensures.repo c.fail.ensures.stays
