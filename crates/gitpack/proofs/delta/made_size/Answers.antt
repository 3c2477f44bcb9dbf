use Rattle.std.proofs.Common.{sym}
use Rattle.gitpack.proofs.DeltaLemmas.{commands_are, no_size}
use Rattle.gitpack.proofs.delta.made_size.Goals as goal

pub returns-in-Some-split_size : goal.returns-in-Some-split_size
returns-in-Some-split_size c base body d =
    let f = c.in-Some.ensures in
    let s = c.in-Some-split_size.ensures in
    sym (commands_are base c.args.delta.now c.in-Some.after.now f.0 c.in-Some._base_size f.1 f.2 c.in-Some-split_size._commands.now s.0 c.in-Some-split_size.size s.1 s.2 body d).0

pub returns-in-None : goal.returns-in-None
returns-in-None c base body d =
    let f = c.in-Some.ensures in
    no_size base c.args.delta.now c.in-Some.after.now f.0 c.in-Some._base_size f.1 f.2 c.in-None.ensures body d
