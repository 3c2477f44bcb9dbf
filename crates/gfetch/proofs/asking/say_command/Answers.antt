use Rattle.gpkt.specs.Packets.{Flush}
use Rattle.gfetch.proofs.SayingLemmas.{empty_said, fetch_command, fetch_command_said, ls_command, ls_command_said, one_said}
use Rattle.gfetch.proofs.asking.say_command.Goals as goal

pub returns-in-Empty : goal.returns-in-Empty
returns-in-Empty g c = λ format. rw c.in-Empty.is (empty_said format c.put_flush.new.self
    (one_said Flush c.args.out.now c.put_flush.new.self c.requires c.put_flush.ensures))

pub returns-in-Ls : goal.returns-in-Ls
returns-in-Ls g c = λ format. rw c.in-Ls.is (ls_command_said format c.in-Ls.field-0.asked c.put_text.new.self
    (one_said ls_command c.args.out.now c.put_text.new.self c.requires c.put_text.ensures))

pub returns-in-Fetch : goal.returns-in-Fetch
returns-in-Fetch g c = λ format. rw c.in-Fetch.is (fetch_command_said format c.in-Fetch.field-0.asked c.put_text-in-Fetch.new.self
    (one_said fetch_command c.args.out.now c.put_text-in-Fetch.new.self c.requires c.put_text-in-Fetch.ensures))
