use Rattle.std.proofs.Common.{take}
use Rattle.gsession.specs.Asking.{AreNamed, asks_by}
use Rattle.gsession.proofs.asks.leads_to_names.Given as goal

abbrev pub invariant-loop-place : goal.invariant-loop-place
invariant-loop-place g l = AreNamed {A = g.row.A.Denot} (asks_by l.spec (take l.place l.reply.lines))
