use Rattle.std.proofs.Common.{take}
use Rattle.gsession.specs.Asking.{asks_by}
use Rattle.gsession.proofs.AskLemmas.{HasAdded}
use Rattle.gsession.proofs.asks.add_asks.Given as goal

abbrev pub invariant-loop-place : goal.invariant-loop-place
invariant-loop-place g l = HasAdded l.initial.asks (asks_by l.spec (take l.place l.reply.lines)) l.asks
