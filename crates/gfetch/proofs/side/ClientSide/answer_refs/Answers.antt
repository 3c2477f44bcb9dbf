use Rattle.std.proofs.Common.{inl, inr, sym, ◌∙◌, arith}
use Rattle.gfetch.proofs.SideLemmas.{failed, rest_then}
use Rattle.gfetch.proofs.side.ClientSide.answer_refs.Goals as goal

pub returns-in-Ok-clause-answers : goal.returns-in-Ok-clause-answers
returns-in-Ok-clause-answers g c = λ asked lines said goes waits held whole may.
    let e = c.in-Ok.ensures in
    inl (record {
      now = c.accept_refs.new.self;
      takes = e.accepts asked lines waits held whole;
      goes_on = c.ask_next.ensures.goes e.ready.pending e.ready.stage said goes may;
    })

pub returns-in-Ok-clause-fewer : goal.returns-in-Ok-clause-fewer
returns-in-Ok-clause-fewer g c = λ reply is.
    let less = c.ask_next.ensures.fewer reply is in
    let few = c.in-Ok.ensures.ready.fewer in
    omega (arith, less, few)

pub returns-in-Err-clause-answers : goal.returns-in-Err-clause-answers
returns-in-Err-clause-answers g c = λ asked lines said goes waits held whole may.
    let d = c.in-Err.ensures.accepts asked lines waits held whole in
    inr (record {
      cause = c.in-Err.fault;
      declined = d.declined;
      fails = failed c.args.self.now c.fail.new.self c.accept_refs.new.self c.fail.result c.in-Err.fault said goes c.fail.ensures.silent may
          c.fail.ensures.fault c.fail.ensures.client d.session d.repo d.unborn;
    })

pub returns-in-Err-clause-fewer : goal.returns-in-Err-clause-fewer
returns-in-Err-clause-fewer g c = λ reply is. absurd (cc (sym c.fail.ensures.silent ∙ is))

pub returns-in-Ok-clause-stays : goal.returns-in-Ok-clause-stays
returns-in-Ok-clause-stays g c = rest_then c.args.self.now c.ask_next.new.self c.accept_refs.new.self c.in-Ok.ensures.repo c.ask_next.ensures.stays

pub returns-in-Err-clause-stays : goal.returns-in-Err-clause-stays
returns-in-Err-clause-stays g c = rest_then c.args.self.now c.fail.new.self c.accept_refs.new.self c.in-Err.ensures.repo c.fail.ensures.stays
