use Rattle.std.proofs.Common.{inl, inr, sym, ◌∙◌, arith}
use Rattle.gfetch.proofs.SideLemmas.{failed, objects_kept}
use Rattle.gfetch.proofs.side.ClientSide.answer_objects.Goals as goal

pub returns-in-Ok-clause-answers : goal.returns-in-Ok-clause-answers
returns-in-Ok-clause-answers g c = λ asked lines said goes waits holds whole may.
    let e = c.in-Ok.ensures in
    inl (record {
      now = c.accept_objects.new.self;
      takes = e.accepts asked lines waits holds whole;
      goes_on = c.ask_next.ensures.goes e.ready.pending e.ready.stage said goes may;
    })

pub returns-in-Ok-clause-fewer : goal.returns-in-Ok-clause-fewer
returns-in-Ok-clause-fewer g c = λ reply is.
    let less = c.ask_next.ensures.fewer reply is in
    let few = c.in-Ok.ensures.ready.fewer in
    omega (arith, less, few)

pub returns-in-Err-clause-answers : goal.returns-in-Err-clause-answers
returns-in-Err-clause-answers g c = λ asked lines said goes waits holds whole may.
    let d = c.in-Err.ensures.accepts asked lines waits holds whole in
    inr (record {
      cause = c.in-Err.fault;
      declined = d.declined;
      fails = failed c.args.self.now c.fail.new.self c.accept_objects.new.self c.fail.result c.in-Err.fault said goes c.fail.ensures.silent may
          c.fail.ensures.fault c.fail.ensures.client d.session d.repo d.unborn;
    })

pub returns-in-Err-clause-fewer : goal.returns-in-Err-clause-fewer
returns-in-Err-clause-fewer g c = λ reply is. absurd (cc (sym c.fail.ensures.silent ∙ is))

pub returns-in-Ok-clause-keeps : goal.returns-in-Ok-clause-keeps
returns-in-Ok-clause-keeps g c =
    let stays = c.ask_next.ensures.stays in
    objects_kept g.K.KeepingIndexer.keeps c.args.self.now c.ask_next.new.self c.accept_objects.new.self c.accept_objects.new.indexer
    c.in-Ok.ensures.keeps stays.indexer.value stays.indexer.in_place stays.repo

pub returns-in-Err-clause-keeps : goal.returns-in-Err-clause-keeps
returns-in-Err-clause-keeps g c =
    let stays = c.fail.ensures.stays in
    objects_kept g.K.KeepingIndexer.keeps c.args.self.now c.fail.new.self c.accept_objects.new.self c.accept_objects.new.indexer
    c.in-Err.ensures.keeps stays.indexer.value stays.indexer.in_place stays.repo
