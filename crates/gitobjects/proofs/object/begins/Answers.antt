use Rattle.std.proofs.Common.{refl}
use Rattle.std.proofs.lemmas.Bool.{false≢true}
use Rattle.gitobjects.proofs.HeadLemmas.{strips, strips_not}
use Rattle.gitobjects.proofs.object.begins.Goals as goal

pub returns-in-Some : goal.returns-in-Some
returns-in-Some c = (λ _. strips c.args.word.now c.args.text.now c.in-Some.ensures.cases.0, λ _. refl)

pub returns-in-None : goal.returns-in-None
returns-in-None c =
    (λ is. absurd (false≢true is), λ begins. absurd (strips_not c.args.word.now c.args.text.now c.in-None.ensures.cases begins))
