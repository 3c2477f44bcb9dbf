use Rattle.std.proofs.Common.{refl, sym, subst, ◌∙◌}
use Rattle.std.proofs.lemmas.Bool.{false≢true}
use Rattle.gdag.proofs.Growing.{grows_none}
use Rattle.gfetchreply.specs.Views.{head_in}
use Rattle.gsession.specs.steps.Calls.{FitsHead}
use Rattle.gsession.specs.TakingReplies.{reading_for}
use Rattle.gsession.proofs.KeepingLemmas.{keeps_none}
use Rattle.gsession.proofs.ReplyLemmas.{head_fits, reads_objects, same_head, same_pack, unaccepted_reply}
use Rattle.gsession.proofs.session.Session.accept_objects.Goals as goal

pub returns-then-not-fits_open-clause-accepts : goal.returns-then-not-fits_open-clause-accepts
returns-then-not-fits_open-clause-accepts g c = λ asked lines reply waits holds says.
    let read = reads_objects g.K.KeepingIndexer.fed g.K.KeepingIndexer.index_fails (reading_for c.args.self.now asked) c.args.reader lines (head_in c.finish-head.result) says.whole holds c.finish-head.ensures in
    absurd (false≢true (sym c.if-not-fits_open.true
    ∙ c.fits_open.ensures.all (
      asked,
      waits,
      subst (FitsHead asked) (sym (same_head _ _ _ _ _ reply read says))
          (head_fits c.args.self.now asked lines reply says),
    )))

pub returns-in-Err-clause-accepts : goal.returns-in-Err-clause-accepts
returns-in-Err-clause-accepts g c = λ asked lines reply waits holds says.
    let read = reads_objects g.K.KeepingIndexer.fed g.K.KeepingIndexer.index_fails (reading_for c.args.self.now asked) c.args.reader lines (head_in c.finish-head.result) says.whole holds c.finish-head.ensures in
    unaccepted_reply g.K.KeepingIndexer.indexes g.K.KeepingIndexer.index_fails
    asked.haves c.args.self.now c.take_head.new.self c.end_with_fault.new.self c.args.repo.now c.take_head.new.repo
    reply c.in-Err.fault c.end_with_fault.result
    (c.in-Err.ensures.answers asked reply waits (same_head _ _ _ _ _ reply read says) (same_pack _ _ _ _ _ reply read says))
    c.end_with_fault.ensures.fault c.end_with_fault.ensures.session

pub returns-in-Ok-clause-accepts : goal.returns-in-Ok-clause-accepts
returns-in-Ok-clause-accepts g c = λ asked lines reply waits holds says.
    let read = reads_objects g.K.KeepingIndexer.fed g.K.KeepingIndexer.index_fails (reading_for c.args.self.now asked) c.args.reader lines (head_in c.finish-head.result) says.whole holds c.finish-head.ensures in
    c.in-Ok.ensures.answers asked reply waits (same_head _ _ _ _ _ reply read says) (same_pack _ _ _ _ _ reply read says)

pub returns-then-not-fits_open-clause-keeps : goal.returns-then-not-fits_open-clause-keeps
returns-then-not-fits_open-clause-keeps g c = keeps_none (g.K.KeepingIndexer.keeps c.args.indexer.now) c.args.repo.now.graph.entries

pub returns-then-not-fits_open-clause-grows : goal.returns-then-not-fits_open-clause-grows
returns-then-not-fits_open-clause-grows g c = grows_none c.args.repo.now.graph.entries c.args.repo.now.graph.entries refl

pub returns-in-Err-clause-grows : goal.returns-in-Err-clause-grows
returns-in-Err-clause-grows g c = c.in-Err.ensures.grows

pub returns-in-Ok-clause-grows : goal.returns-in-Ok-clause-grows
returns-in-Ok-clause-grows g c = c.in-Ok.ensures.grows

pub returns-in-Err-clause-errs : goal.returns-in-Err-clause-errs
returns-in-Err-clause-errs g c = c.in-Err.ensures.errs

pub returns-in-Err-clause-closed : goal.returns-in-Err-clause-closed
returns-in-Err-clause-closed g c = λ not.
    let fit = c.fits_open.ensures.fits c.if-not-fits_open.false in absurd (not (fit.0, fit.1))

pub returns-in-Ok-clause-closed : goal.returns-in-Ok-clause-closed
returns-in-Ok-clause-closed g c = λ not.
    let fit = c.fits_open.ensures.fits c.if-not-fits_open.false in absurd (not (fit.0, fit.1))

pub returns-in-Ok-clause-round : goal.returns-in-Ok-clause-round
returns-in-Ok-clause-round g c = c.in-Ok.ensures.round
