use Rattle.std.proofs.Common.{length}
use Rattle.gobject.proofs.PlainPackFeed.{FedUpTo}
use Rattle.gobject.proofs.plain_pack.feed.PlainFeed.feed.Given as goal

abbrev pub invariant-loop-text : goal.invariant-loop-text
invariant-loop-text g l = FedUpTo l.fn.self l.self l.fn.piece l.rest

abbrev pub decreases-loop-text : goal.decreases-loop-text
decreases-loop-text g l = length l.rest
