use Rattle.std.proofs.Common.{Some, None, drop}
use Rattle.std.proofs.lemmas.List.{take_rest}
use Rattle.gname.proofs.PlaceLemmas.{component_of_search}
use Rattle.gname.proofs.rules.component_at.Goals as goal

pub returns-in-Some : goal.returns-in-Some
returns-in-Some c =
    let whole = take_rest c.args.text.now c.args.at in
    rw whole (component_of_search (drop c.args.at c.args.text.now) (Some c.in-Some.len) (rw whole at c.in-Some.ensures))

pub returns-in-None : goal.returns-in-None
returns-in-None c =
    let whole = take_rest c.args.text.now c.args.at in
    rw whole (component_of_search (drop c.args.at c.args.text.now) None (rw whole at c.in-None.ensures))
