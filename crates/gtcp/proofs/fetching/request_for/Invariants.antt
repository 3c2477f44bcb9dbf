use Rattle.std.proofs.Common.{◌≡◌, ◌≤◌, length, take}
use Rattle.ggrammar.specs.Limits.{profile}
use Rattle.grequest.specs.Asked.{max_prefixes}
use Rattle.gtcp.specs.Sockets.{asked_for}
use Rattle.gtcp.proofs.fetching.request_for.Given as goal

abbrev pub invariant-loop-prefix : goal.invariant-loop-prefix
invariant-loop-prefix g l = record {
  same : l.asked.asked ≡ asked_for (take l.prefix-index l.prefixes);
  limits : l.asked.limits ≡ profile;
  fits : length l.asked.asked.prefixes ≤ max_prefixes profile;
}
