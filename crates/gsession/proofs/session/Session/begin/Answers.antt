use Rattle.std.proofs.Common.{ℕ, subst}
use Rattle.gsession.specs.Sessions.{BeginsWith, no_options}
use Rattle.gsession.specs.declared.options.PackOptions.{PackOptions}
use Rattle.gsession.proofs.NextLaws.{begins_plain}
use Rattle.gsession.proofs.session.Session.begin.Goals as goal

pub returns : goal.returns
returns g c =
    begins_plain c.args.repo.now c.args.specs.now c.args.limit c.args.ends c.begin_with.result
    (subst (λ (limit : ℕ). BeginsWith c.args.repo.now c.args.specs.now limit c.args.ends no_options c.begin_with.result)
    c.from.ensures
    (subst (λ (options : PackOptions).
    BeginsWith c.args.repo.now c.args.specs.now c.from.result c.args.ends options c.begin_with.result)
    c.default.ensures c.begin_with.ensures))
