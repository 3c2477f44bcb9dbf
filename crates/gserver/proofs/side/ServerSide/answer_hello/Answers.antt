use Rattle.std.proofs.Common.{◌≡◌, ◌∙◌, IsSome, subst, sym, true}
use Rattle.gserver.specs.Serving.{AnswersHello, CannotGreet, Greets}
use Rattle.gserver.proofs.SideLemmas.{answered_so, fewer_first, greets_on, no_value, quiet_so, some_same, went_on}
use Rattle.gserver.proofs.side.ServerSide.answer_hello.Goals as goal

pub returns-clause-answers : goal.returns-clause-answers
returns-clause-answers g c = λ asked same none said goes may.
    let host = c.args.self.now.host.now in
    let heard = c.in-Some.hello in
    let left = c.greet-greeted.new.self in
    subst (λ it. AnswersHello g.R.ServedRepository.server g.H.Host.says host (g.H.Host.finds host it) left.repo left.fault said goes)
    (some_same heard asked (sym c.in-Some.is ∙ same))
    (answered_so g.R.ServedRepository.server g.R.PartPacker.gives (Greets g.R.ServedRepository.server (g.H.Host.finds host heard) left.repo)
    (CannotGreet g.R.ServedRepository.server g.H.Host.says host (g.H.Host.finds host heard) left.repo left.fault)
    c.greet-greeted.result true c.answer_of.result c.greet-greeted.ensures.greets c.answer_of.ensures
    (greets_on g.R.ServedRepository.server g.R.PartPacker.gives (g.H.Host.finds host heard) left.repo) said goes may)

pub returns-clause-quiet : goal.returns-clause-quiet
returns-clause-quiet g c = λ said goes may.
    quiet_so g.R.ServedRepository.server g.R.PartPacker.gives (c.greet-greeted.new.self.fault ≡ c.args.self.now.fault) c.greet-greeted.result true
    c.answer_of.result c.greet-greeted.ensures.quiet c.answer_of.ensures said goes may

pub returns-clause-fewer : goal.returns-clause-fewer
returns-clause-fewer g c = λ reply same.
    let w = went_on g.R.ServedRepository.server g.R.PartPacker.gives (IsSome c.greet-greeted.new.self.repo) c.greet-greeted.result true c.answer_of.result reply
    c.greet-greeted.ensures.served c.answer_of.ensures same in
    fewer_first c.args.self.now.repo c.greet-greeted.new.self.repo c.args.self.now.requests c.greet-greeted.new.self.requests
    (no_value c.args.self.now.repo (sym c.is_some.ensures ∙ c.if-is_some.false)) w.1
