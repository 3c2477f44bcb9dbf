use Rattle.std.proofs.Common.{take}
use Rattle.gsession.specs.Asking.{AreNamed, asks_by_all}
use Rattle.gsession.proofs.asks.are_named.Given as goal

abbrev pub invariant-loop-spec : goal.invariant-loop-spec
invariant-loop-spec g l = AreNamed {A = g.row.A.Denot} (asks_by_all (take l.spec-index l.specs) l.reply.lines)
