use Rattle.std.proofs.Common.{◌++◌, take}
use Rattle.ganswer.specs.LsAnswers.{head_id, head_ref}
use Rattle.ganswer.specs.steps.Answers.{IsAnswering}
use Rattle.ganswer.proofs.server.Server.add_refs.Given as goal

abbrev pub invariant-loop-place : goal.invariant-loop-place
invariant-loop-place g l =
    IsAnswering l.self l.request.asked (head_ref (head_id l.self.head l.self.refs) ++ take l.place l.self.refs) l.reply
