use Rattle.gfetchreply.specs.Views.{reading_in}
use Rattle.gfetchreply.proofs.reading.read_fetch_reply_into_in.Given as goal

-- the parameters of reading, the address of the borrowed sink, and the sink's bytes and state before the call
abbrev pub ghosts-read_to_end : goal.ghosts-read_to_end
ghosts-read_to_end g a = record { reading = reading_in a.reply.now.reader.reading; address = a.reply.now.sink.ghost_name; accepted_before = g.T.PackSink.taken a.reply.now.sink.now; state_before = λ start. g.T.PackSink.same start a.reply.now.sink.now }
