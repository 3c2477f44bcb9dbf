use Rattle.std.proofs.Common.{refl, sym, ap, ◌∙◌}
use Rattle.gdag.proofs.Growing.{grows_none}
use Rattle.gfetchreply.specs.FetchReplies.{Acks}
use Rattle.gfetchreply.specs.Views.{head_in}
use Rattle.gsession.proofs.KeepingLemmas.{keeps_none}
use Rattle.gsession.proofs.ReplyLemmas.{acks_added, acks_answer, acks_reply, any_err}
use Rattle.gsession.proofs.session.Session.take_head.Goals as goal

pub returns-in-Acks-clause-answers : goal.returns-in-Acks-clause-answers
returns-in-Acks-clause-answers g c = λ asked reply waits same fed.
    let is = acks_reply reply c.in-Acks.acks.ids (sym (ap head_in c.in-Acks.is) ∙ same)
    ∙ ap Acks (sym c.ids.ensures.ids) in
    acks_answer g.K.KeepingIndexer.indexes g.K.KeepingIndexer.index_fails
    asked.haves c.ids.result.now
    c.args.self.now c.args.repo.now reply c.take_acks.new.self c.take_acks.result is (c.take_acks.ensures.answers asked waits)

pub returns-in-Acks-clause-keeps : goal.returns-in-Acks-clause-keeps
returns-in-Acks-clause-keeps g c = keeps_none (g.K.KeepingIndexer.keeps c.args.indexer.now) c.args.repo.now.graph.entries

pub returns-in-Acks-clause-errs : goal.returns-in-Acks-clause-errs
returns-in-Acks-clause-errs g c = any_err c.take_acks.result refl

pub returns-in-Acks-clause-grows : goal.returns-in-Acks-clause-grows
returns-in-Acks-clause-grows g c = grows_none c.args.repo.now.graph.entries c.args.repo.now.graph.entries refl

pub returns-in-Acks-clause-round : goal.returns-in-Acks-clause-round
returns-in-Acks-clause-round g c =
    let asked = c.requires.0 in
    acks_added asked.haves c.ids.result.now c.args.self.now c.take_acks.new.self c.args.repo.now c.take_acks.result
    (c.take_acks.ensures.answers asked c.requires.1)
