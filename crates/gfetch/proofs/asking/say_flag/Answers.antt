use Rattle.gfetch.proofs.SayingLemmas.{flag_is_short}
use Rattle.gfetch.proofs.asking.say_flag.Goals as goal

pub returns-then-is_set-clause-long : goal.returns-then-is_set-clause-long
returns-then-is_set-clause-long g c =
    flag_is_short c.args.word.now c.args.out.now c.put_text.new.self c.requires.short c.put_text.ensures
