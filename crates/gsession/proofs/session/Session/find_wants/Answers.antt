use Rattle.std.proofs.Common.{◌≡◌, List, length, refl, ap, subst, arith, ◌∙◌}
use Rattle.std.proofs.lemmas.Result.{err_from_is_err_and}
use Rattle.gclientrepo.specs.declared.ask.Ask.{Ask}
use Rattle.grefs.specs.Refspecs.{Refspec}
use Rattle.grequest.specs.Asked.{max_wants}
use Rattle.gsession.specs.Asking.{AreWants, unborn_told}
use Rattle.gsession.specs.Sessions.{SessionState}
use Rattle.gsession.proofs.session.Session.find_wants.Goals as goal

pub returns-in_err-wants-clause-wanted : goal.returns-in_err-wants-clause-wanted
returns-in_err-wants-clause-wanted g c =
    let p = err_from_is_err_and c.from_residual.result c.from_residual.ensures.1 in
    rw (p.1, p.2, c.in_err-wants.ensures.fault) c.requires.asked.1

pub returns-in_err-unborn_of-clause-wanted : goal.returns-in_err-unborn_of-clause-wanted
returns-in_err-unborn_of-clause-wanted g c =
    let p = err_from_is_err_and c.from_residual-in_err-unborn_of.result c.from_residual-in_err-unborn_of.ensures.1 in
    rw (p.1, p.2) c.requires.asked.1

pub returns-then-len-max_wants-clause-wanted : goal.returns-then-len-max_wants-clause-wanted
returns-then-len-max_wants-clause-wanted g c =
    let wants = c.in_ok-wants.wants.items in record {
      named = c.requires.asked.1;
      wants = wants;
      wanted = subst (λ (asks : List (Ask g.row.A.Denot)). AreWants c.args.repo.now.graph.entries asks wants)
          c.requires.asked.0 c.in_ok-wants.ensures.wants;
      many = omega (
        arith,
        c.max_wants.ensures,
        ap (λ (s : SessionState g.row.A.Denot). max_wants s.options.limits) c.self.view_is,
      );
    }

pub returns-clause-wanted : goal.returns-clause-wanted
returns-clause-wanted g c =
    let wants = c.in_ok-wants.wants.items in
    let specs : c.as_slice.result.now ≡ c.args.self.now.refspecs =
    c.as_slice.ensures.value ∙ ap (λ (s : SessionState g.row.A.Denot). s.refspecs) c.self.view_is in
    record {
      named = c.requires.asked.1;
      wants = wants;
      wanted = subst (λ (asks : List (Ask g.row.A.Denot)). AreWants c.args.repo.now.graph.entries asks wants)
          c.requires.asked.0 c.in_ok-wants.ensures.wants;
      few = omega (
        arith,
        c.max_wants.ensures,
        ap (λ (s : SessionState g.row.A.Denot). max_wants s.options.limits) c.self.view_is,
      );
      after = refl;
      asks = c.len-2.ensures.count ∙ ap length c.requires.asked.0;
      count = omega arith;
      unborn = c.in_ok-unborn_of.ensures ∙ ap (λ (l : List Refspec). unborn_told l c.args.reply.now.unborn) specs;
    }

pub returns-clause-ids : goal.returns-clause-ids
returns-clause-ids g c = c.in_ok-wants.ensures.ids c.args.self.now.format c.requires.ids
