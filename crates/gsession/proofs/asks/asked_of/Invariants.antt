use Rattle.std.proofs.Common.{[], take}
use Rattle.gsession.specs.Asking.{asks_by_all}
use Rattle.gsession.proofs.AskLemmas.{HasAdded}
use Rattle.gsession.proofs.asks.asked_of.Given as goal

abbrev pub invariant-loop-spec : goal.invariant-loop-spec
invariant-loop-spec g l = HasAdded [] (asks_by_all (take l.spec-index l.specs) l.reply.lines) l.asks
