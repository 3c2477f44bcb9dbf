use Rattle.std.proofs.Common.{ℕ, List, ◌++◌, All, Contains, None, refl, sym, ap, subst, ◌∙◌}
use Rattle.std.specs.Option.{option_map}
use Rattle.std.proofs.lemmas.Result.{err_from_is_err_and}
use Rattle.grequest.specs.RequestValues.{asked_by_request}
use Rattle.gdag.specs.Levels.{distinct_of}
use Rattle.gdag.proofs.Growing.{grows_none}
use Rattle.gfetchreply.specs.FetchHeads.{pack_of}
use Rattle.gsession.specs.Sessions.{AreCommons, SessionState}
use Rattle.gsession.specs.steps.Fields.{session_of}
use Rattle.gsession.specs.declared.stage.Stage.TheVariants.{Settling}
use Rattle.gsession.proofs.KeepingLemmas.{keeps_more, keeps_none, keeps_stays}
use Rattle.gsession.proofs.ReplyLemmas.{acked, graph_fault, same_repo, strange_fault}
use Rattle.gsession.proofs.SessionLemmas.{pack_taken, waits}
use Rattle.gsession.proofs.session.Session.take_pack.Goals as goal

pub returns-in_err-check_acks-clause-answers : goal.returns-in_err-check_acks-clause-answers
returns-in_err-check_acks-clause-answers g c = λ asked reply waits same has fed.
    let p = err_from_is_err_and c.from_residual.result c.from_residual.ensures.1 in
    rw (p.1, p.2) (
      strange_fault g.K.KeepingIndexer.indexes g.K.KeepingIndexer.index_fails
          asked.haves c.args.acks.now c.args.repo.now reply _ same (c.in_err-check_acks.ensures.checks asked waits),
      refl,
      refl,
    )

pub returns-in_err-entries-clause-answers : goal.returns-in_err-entries-clause-answers
returns-in_err-entries-clause-answers g c = λ asked reply waits same has fed.
    let p = err_from_is_err_and c.from_residual-in_err-entries.result c.from_residual-in_err-entries.ensures.1 in
    let checks = c.in_ok-check_acks.ensures.checks asked waits in
    let named = subst (λ (l : List (List ℕ)). All (Contains asked.haves) l) (sym same) checks in
    rw (p.1, p.2) ((named, has, c.in_err-entries.ensures.answers (pack_of reply) fed), refl, refl)

pub returns-in_err-commons-clause-answers : goal.returns-in_err-commons-clause-answers
returns-in_err-commons-clause-answers g c = λ asked reply waits same has fed.
    let p = err_from_is_err_and c.from_residual-in_err-commons.result c.from_residual-in_err-commons.ensures.1 in
    let checks = c.in_ok-check_acks.ensures.checks asked waits in
    let named = subst (λ (l : List (List ℕ)). All (Contains asked.haves) l) (sym same) checks in
    rw (p.1, p.2)
    ((named, λ _. (c.in_ok-entries.entries.items, c.in_ok-entries.ensures.answers (pack_of reply) fed)), refl, refl)

pub returns-in_err-added-clause-answers : goal.returns-in_err-added-clause-answers
returns-in_err-added-clause-answers g c = λ asked reply waits same has fed.
    let p = err_from_is_err_and c.from_residual-in_err-added.result c.from_residual-in_err-added.ensures.1 in
    let checks = c.in_ok-check_acks.ensures.checks asked waits in
    let named = subst (λ (l : List (List ℕ)). All (Contains asked.haves) l) (sym same) checks in
    let adds = c.in_err-added.ensures.adds in
    rw (p.1, p.2) (
      graph_fault g.K.KeepingIndexer.indexes g.K.KeepingIndexer.index_fails
          asked.haves c.args.repo.now reply c.in_err-added.field-0.0 named has
          (c.in_ok-entries.entries.items, c.in_ok-entries.ensures.answers (pack_of reply) fed, adds.1),
      refl,
      same_repo c.insert_all.new.self c.args.repo.now adds.0 c.in_err-added.ensures.refs c.in_err-added.ensures.known,
    )

pub returns-clause-answers : goal.returns-clause-answers
returns-clause-answers g c = λ asked reply waits same has fed.
    let s = c.args.self.now in
    let checks = c.in_ok-check_acks.ensures.checks asked waits in
    let named = subst (λ (l : List (List ℕ)). All (Contains asked.haves) l) (sym same) checks in
    let is = c.in_ok-commons.ensures ∙ ap (λ (l : List (List ℕ)). distinct_of (l ++ c.args.acks.now))
    (c.as_slice.ensures.value ∙ ap (λ (s : SessionState g.row.A.Denot). s.commons) c.self.view_is) in
    let commons = is ∙ ap (λ (l : List (List ℕ)). distinct_of (s.commons ++ l)) (sym same) in (
      named,
      (
        has,
        acked Settling c.set_pending.new.pending _ s _ c.in_ok-commons.commons.items c.set_pending.ensures c.self.view_is
            commons,
        (
          c.in_ok-entries.entries.items,
          c.in_ok-entries.ensures.answers (pack_of reply) fed,
          record {
            adds = c.in_ok-added.ensures.adds;
            refs =
                c.in_ok-added.ensures.refs;
            marks = c.in_ok-added.ensures.known;
          },
        ),
      ),
    )

pub invariant_of-self : goal.invariant_of-self
invariant_of-self g c =
    let commons = c.in_ok-commons.commons.items in
    let is = c.in_ok-commons.ensures ∙ ap (λ (l : List (List ℕ)). distinct_of (l ++ c.args.acks.now))
    (c.as_slice.ensures.value ∙ ap (λ (s : SessionState g.row.A.Denot). s.commons) c.self.view_is) in
    waits (record (session_of c.self.inside) { stage = Settling; commons = commons })
    c.set_pending.new.pending None c.set_pending.ensures
    (pack_taken _ commons c.self.invariant.0
    (subst (λ (s : SessionState g.row.A.Denot). AreCommons s.options.limits s.format commons) (sym c.self.view_is)
    (subst (λ (l : List (List ℕ)). AreCommons c.args.self.now.options.limits c.args.self.now.format l) (sym is)
    c.in_ok-check_acks.ensures.commons)))
    tt tt

pub returns-in_err-check_acks-clause-keeps : goal.returns-in_err-check_acks-clause-keeps
returns-in_err-check_acks-clause-keeps g c = keeps_none (g.K.KeepingIndexer.keeps c.args.indexer.now) c.args.repo.now.graph.entries

pub returns-in_err-entries-clause-keeps : goal.returns-in_err-entries-clause-keeps
returns-in_err-entries-clause-keeps g c =
    keeps_stays (g.K.KeepingIndexer.keeps c.args.indexer.now) (g.K.KeepingIndexer.keeps c.finish.new.indexer) c.args.repo.now.graph.entries c.args.repo.now.graph.entries c.in_err-entries.ensures.stays refl

pub returns-in_err-commons-clause-keeps : goal.returns-in_err-commons-clause-keeps
returns-in_err-commons-clause-keeps g c =
    keeps_stays (g.K.KeepingIndexer.keeps c.args.indexer.now) (g.K.KeepingIndexer.keeps c.finish.new.indexer) c.args.repo.now.graph.entries c.args.repo.now.graph.entries c.in_ok-entries.ensures.stays refl

pub returns-in_err-added-clause-keeps : goal.returns-in_err-added-clause-keeps
returns-in_err-added-clause-keeps g c =
    keeps_more (g.K.KeepingIndexer.keeps c.args.indexer.now) (g.K.KeepingIndexer.keeps c.finish.new.indexer) c.args.repo.now.graph.entries c.in_ok-entries.entries.items c.insert_all.new.self.graph.entries c.in_ok-entries.ensures.stays
    c.in_ok-entries.ensures.kept c.in_err-added.ensures.only

pub returns-clause-keeps : goal.returns-clause-keeps
returns-clause-keeps g c =
    keeps_more (g.K.KeepingIndexer.keeps c.args.indexer.now) (g.K.KeepingIndexer.keeps c.finish.new.indexer) c.args.repo.now.graph.entries c.in_ok-entries.entries.items c.insert_all.new.self.graph.entries c.in_ok-entries.ensures.stays
    c.in_ok-entries.ensures.kept c.in_ok-added.ensures.only

pub returns-in_err-check_acks-clause-goes : goal.returns-in_err-check_acks-clause-goes
returns-in_err-check_acks-clause-goes g c =
    let p = err_from_is_err_and c.from_residual.result c.from_residual.ensures.1 in rw p.1 tt

pub returns-in_err-entries-clause-goes : goal.returns-in_err-entries-clause-goes
returns-in_err-entries-clause-goes g c =
    let p = err_from_is_err_and c.from_residual-in_err-entries.result c.from_residual-in_err-entries.ensures.1 in rw p.1 tt

pub returns-in_err-commons-clause-goes : goal.returns-in_err-commons-clause-goes
returns-in_err-commons-clause-goes g c =
    let p = err_from_is_err_and c.from_residual-in_err-commons.result c.from_residual-in_err-commons.ensures.1 in rw p.1 tt

pub returns-in_err-added-clause-goes : goal.returns-in_err-added-clause-goes
returns-in_err-added-clause-goes g c =
    let p = err_from_is_err_and c.from_residual-in_err-added.result c.from_residual-in_err-added.ensures.1 in rw p.1 tt

pub returns-clause-goes : goal.returns-clause-goes
returns-clause-goes g c = record {
  waits = c.requires;
  pending = ap (option_map asked_by_request) c.set_pending.ensures;
  stage = refl;
  rounds = ap (λ (s : SessionState g.row.A.Denot). s.rounds) c.self.view_is;
}

pub returns-in_err-check_acks-clause-errs : goal.returns-in_err-check_acks-clause-errs
returns-in_err-check_acks-clause-errs g c =
    let p = err_from_is_err_and c.from_residual.result c.from_residual.ensures.1 in rw p.1 refl

pub returns-in_err-entries-clause-errs : goal.returns-in_err-entries-clause-errs
returns-in_err-entries-clause-errs g c =
    let p = err_from_is_err_and c.from_residual-in_err-entries.result c.from_residual-in_err-entries.ensures.1 in rw p.1 refl

pub returns-in_err-commons-clause-errs : goal.returns-in_err-commons-clause-errs
returns-in_err-commons-clause-errs g c =
    let p = err_from_is_err_and c.from_residual-in_err-commons.result c.from_residual-in_err-commons.ensures.1 in rw p.1 refl

pub returns-in_err-added-clause-errs : goal.returns-in_err-added-clause-errs
returns-in_err-added-clause-errs g c =
    let p = err_from_is_err_and c.from_residual-in_err-added.result c.from_residual-in_err-added.ensures.1 in
    rw p.1 (same_repo c.insert_all.new.self c.args.repo.now c.in_err-added.ensures.adds.0 c.in_err-added.ensures.refs c.in_err-added.ensures.known)

pub returns-in_err-check_acks-clause-grows : goal.returns-in_err-check_acks-clause-grows
returns-in_err-check_acks-clause-grows g c = grows_none c.args.repo.now.graph.entries c.args.repo.now.graph.entries refl

pub returns-in_err-entries-clause-grows : goal.returns-in_err-entries-clause-grows
returns-in_err-entries-clause-grows g c = grows_none c.args.repo.now.graph.entries c.args.repo.now.graph.entries refl

pub returns-in_err-commons-clause-grows : goal.returns-in_err-commons-clause-grows
returns-in_err-commons-clause-grows g c = grows_none c.args.repo.now.graph.entries c.args.repo.now.graph.entries refl

pub returns-in_err-added-clause-grows : goal.returns-in_err-added-clause-grows
returns-in_err-added-clause-grows g c = c.in_err-added.ensures.grows

pub returns-clause-grows : goal.returns-clause-grows
returns-clause-grows g c = c.in_ok-added.ensures.grows

pub returns-in_err-check_acks-clause-round : goal.returns-in_err-check_acks-clause-round
returns-in_err-check_acks-clause-round g c =
    let p = err_from_is_err_and c.from_residual.result c.from_residual.ensures.1 in rw p.1 tt

pub returns-in_err-entries-clause-round : goal.returns-in_err-entries-clause-round
returns-in_err-entries-clause-round g c =
    let p = err_from_is_err_and c.from_residual-in_err-entries.result c.from_residual-in_err-entries.ensures.1 in rw p.1 tt

pub returns-in_err-commons-clause-round : goal.returns-in_err-commons-clause-round
returns-in_err-commons-clause-round g c =
    let p = err_from_is_err_and c.from_residual-in_err-commons.result c.from_residual-in_err-commons.ensures.1 in rw p.1 tt

pub returns-in_err-added-clause-round : goal.returns-in_err-added-clause-round
returns-in_err-added-clause-round g c =
    let p = err_from_is_err_and c.from_residual-in_err-added.result c.from_residual-in_err-added.ensures.1 in rw p.1 tt
