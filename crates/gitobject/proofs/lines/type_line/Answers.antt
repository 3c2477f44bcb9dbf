use Rattle.gitobject.proofs.Heads.{no_word}
use Rattle.gitobject.proofs.lines.type_line.Goals as goal

pub returns-in-None : goal.returns-in-None
returns-in-None c =
    no_word c.args.text.now c.in-Some.after.now c.in-Some.ensures c.in-Some-cut.word.now c.in-Some-cut.rest.now
    c.in-Some-cut.ensures.0 c.in-Some-cut.ensures.1 c.in-None.ensures
