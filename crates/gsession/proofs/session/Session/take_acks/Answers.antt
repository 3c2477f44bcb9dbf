use Rattle.std.proofs.Common.{◌≡◌, ◌++◌, ◌∙◌, List, ℕ, None, length, ap, sym, subst, refl, arith}
use Rattle.std.specs.Option.{option_map}
use Rattle.std.proofs.lemmas.Result.{err_from_is_err_and}
use Rattle.grequest.specs.RequestValues.{asked_by_request}
use Rattle.gdag.specs.Levels.{distinct_of}
use Rattle.gsession.specs.Sessions.{AreCommons, SessionState}
use Rattle.gsession.specs.steps.Fields.{session_of}
use Rattle.gsession.specs.TakingReplies.{Awaits}
use Rattle.gsession.specs.declared.stage.Stage.TheVariants.{Fetching}
use Rattle.gsession.specs.declared.taken.Taken.TheVariants.{Round}
use Rattle.gsession.proofs.ReplyLemmas.{acked, strange_acks}
use Rattle.gsession.proofs.SessionLemmas.{acks_taken, waits}
use Rattle.gsession.proofs.session.Session.take_acks.Goals as goal

pub returns-in_err-check_acks-clause-answers : goal.returns-in_err-check_acks-clause-answers
returns-in_err-check_acks-clause-answers g c = λ asked waits.
    let p = err_from_is_err_and c.from_residual.result c.from_residual.ensures.1 in
    rw (p.1, p.2) (
      strange_acks asked.haves c.args.acks.now _ (c.in_err-check_acks.ensures.checks asked waits),
      refl,
    )

pub returns-in_err-joined-clause-answers : goal.returns-in_err-joined-clause-answers
returns-in_err-joined-clause-answers g c = λ asked waits.
    let p = err_from_is_err_and c.from_residual-in_err-joined.result c.from_residual-in_err-joined.ensures.1 in
    rw (p.1, p.2) (c.in_ok-check_acks.ensures.checks asked waits, refl)

pub returns-clause-answers : goal.returns-clause-answers
returns-clause-answers g c = λ asked waits.
    let commons = c.in_ok-joined.joined.items in
    let is = c.in_ok-joined.ensures ∙ ap (λ (l : List (List ℕ)). distinct_of (l ++ c.args.acks.now))
    (c.as_slice.ensures.value ∙ ap (λ (s : SessionState g.row.A.Denot). s.commons) c.self.view_is) in
    let long : c.len-common.result ≡ length commons = omega arith in (
      c.in_ok-check_acks.ensures.checks asked waits,
      acked Fetching c.set_pending.new.pending _ c.args.self.now c.args.acks.now commons c.set_pending.ensures
          c.self.view_is is,
      ap Round long,
    )

pub invariant_of-self : goal.invariant_of-self
invariant_of-self g c =
    let asked = c.requires.0 in
    let commons = c.in_ok-joined.joined.items in
    let back = sym c.self.view_is in
    let is = c.in_ok-joined.ensures ∙ ap (λ (l : List (List ℕ)). distinct_of (l ++ c.args.acks.now))
    (c.as_slice.ensures.value ∙ ap (λ (s : SessionState g.row.A.Denot). s.commons) c.self.view_is) in
    waits (record (session_of c.self.inside) { stage = Fetching; commons = commons })
    c.set_pending.new.pending None c.set_pending.ensures
    (acks_taken _ asked commons c.self.invariant.0
    (subst (λ (s : SessionState g.row.A.Denot). Awaits s asked) back c.requires.1) c.requires.2
    (subst (λ (s : SessionState g.row.A.Denot). AreCommons s.options.limits s.format commons) back
    (subst (λ (l : List (List ℕ)). AreCommons c.args.self.now.options.limits c.args.self.now.format l) (sym is)
    c.in_ok-check_acks.ensures.commons))) tt tt

pub returns-in_err-check_acks-clause-goes : goal.returns-in_err-check_acks-clause-goes
returns-in_err-check_acks-clause-goes g c =
    let p = err_from_is_err_and c.from_residual.result c.from_residual.ensures.1 in rw p.1 tt

pub returns-in_err-joined-clause-goes : goal.returns-in_err-joined-clause-goes
returns-in_err-joined-clause-goes g c =
    let p = err_from_is_err_and c.from_residual-in_err-joined.result c.from_residual-in_err-joined.ensures.1 in rw p.1 tt

pub returns-clause-goes : goal.returns-clause-goes
returns-clause-goes g c = record {
  waits = (c.requires.0, c.requires.1);
  pending = ap (option_map asked_by_request) c.set_pending.ensures;
  stage = refl;
  rounds = ap (λ (s : SessionState g.row.A.Denot). s.rounds) c.self.view_is;
}
