use Rattle.std.proofs.Common.{◌+◌, sym}
use Rattle.std.proofs.lemmas.List.{take_rest}
use Rattle.ghello.proofs.HelloLemmas.{cut_there, cut_nowhere}
use Rattle.ghello.proofs.hello.cut.Goals as goal

pub returns-in-Some : goal.returns-in-Some
returns-in-Some c =
    rw (take_rest c.args.text.now (c.in-Some.at + 1)) (cut_there c.args.text.now c.in-Some.at (sym c.in-Some.ensures.place))

pub returns-in-None : goal.returns-in-None
returns-in-None c = cut_nowhere c.args.text.now (sym c.in-None.ensures.place)
