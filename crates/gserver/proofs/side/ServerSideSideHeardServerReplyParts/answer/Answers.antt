use Rattle.std.proofs.Common.{◌≡◌, ◌∙◌, ap, subst}
use Rattle.gparts.specs.Parts.{given_by}
use Rattle.gserver.specs.Heard.{holds_of, judge_of}
use Rattle.gserver.specs.Serving.{side_judge}
use Rattle.gserver.proofs.SideLemmas.{hello_answered, request_answered}
use Rattle.gserver.proofs.side.ServerSideSideHeardServerReplyParts.answer.Goals as goal

pub returns-in-Hello-clause-answers : goal.returns-in-Hello-clause-answers
returns-in-Hello-clause-answers g c = λ lines said goes whole hears may. record {
  stays = c.answer_hello.ensures.stays;
  answers = hello_answered g.R.ServedRepository.server (given_by g.R.PartPacker.packs) g.R.PartPacker.pack_fails g.H.Host.finds g.H.Host.opens g.H.Host.says
      c.args.self.now c.answer_hello.new.self c.args.self.now.repo lines said goes c.in-Hello.reader.hello
      (subst (λ m. judge_of m ≡ side_judge c.args.self.now.limits g.R.ServedRepository.server c.args.self.now.repo) c.in-Hello.is hears.judged) whole
      (subst (λ m. holds_of m lines) c.in-Hello.is hears.held)
      (λ asked same none. c.answer_hello.ensures.answers asked (c.finish.ensures ∙ same) none said goes may)
      c.answer_hello.ensures.requests;
  quiet = c.answer_hello.ensures.quiet said goes may;
}

pub returns-in-Request-clause-answers : goal.returns-in-Request-clause-answers
returns-in-Request-clause-answers g c = λ lines said goes whole hears may.
    let held = subst (λ m. holds_of m lines) c.in-Request.is hears.held in record {
      stays = c.answer_request.ensures.stays;
      answers = request_answered g.R.ServedRepository.server (given_by g.R.PartPacker.packs) g.R.PartPacker.pack_fails g.H.Host.finds g.H.Host.opens g.H.Host.says
          c.args.self.now c.answer_request.new.self c.args.self.now.repo lines said goes c.in-Request.reader.limits c.in-Request.reader.format _
          (subst (λ m. judge_of m ≡ side_judge c.args.self.now.limits g.R.ServedRepository.server c.args.self.now.repo) c.in-Request.is hears.judged) whole
          (c.finish-in-Request.ensures.asked ∙ ap (λ s. s.asked) held)
          (λ repo some. c.answer_request.ensures.answers repo some said goes may)
          c.answer_request.ensures.requests;
      quiet = c.answer_request.ensures.quiet said goes may;
    }
