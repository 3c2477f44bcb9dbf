use Rattle.std.proofs.Common.{◌≡◌, ◌≤◌, take, length}
use Rattle.ggrammar.specs.Limits.{profile}
use Rattle.gsession.specs.Requesting.{ls_request}
use Rattle.gsession.proofs.requests.refs_request.Given as goal

abbrev pub invariant-loop-spec : goal.invariant-loop-spec
invariant-loop-spec g l = record {
  made : l.request ≡ record { limits = profile; asked = ls_request (take l.spec-index l.specs) l.fn.unborn };
  few : length l.request.asked.prefixes ≤ l.spec-index;
}
