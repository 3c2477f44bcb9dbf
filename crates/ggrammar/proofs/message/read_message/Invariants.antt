-- The message is being read, and its judge has not changed. The reader has failed exactly if it had failed before the
-- first packet, which is possible only at the first packet.
use Rattle.std.proofs.Common.{◌≡◌, ◌≤◌, ◌^◌, true}
use Rattle.ggrammar.proofs.ReadingLemmas.{IsGoing}
use Rattle.ggrammar.proofs.message.read_message.Given as goal

abbrev pub invariant-loop-frame : goal.invariant-loop-frame
invariant-loop-frame g l =
    IsGoing (g.M.Message.judge l.initial.message) g.M.Message.holds (g.S.Source.remaining l.initial.reader.source) (g.S.Source.remaining l.reader.source) l.message l.frame
    × (g.M.Message.judge l.message ≡ g.M.Message.judge l.initial.message)
    × (g.M.Message.brings l.message ≡ g.M.Message.brings l.initial.message)
    × (g.S.Source.loans l.reader.source ≡ g.S.Source.loans l.initial.reader.source)
    × (l.reader.failed ≡ l.initial.reader.failed)
    × (l.initial.reader.failed ≡ true → l.frame ≡ 0)
    × (l.frame ≤ 2 ^ 60)
