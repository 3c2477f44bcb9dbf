use Rattle.std.proofs.Common.{◌≡◌, ◌++◌, take}
use Rattle.gsession.proofs.requests.add_wants.Given as goal

abbrev pub invariant-loop-id : goal.invariant-loop-id
invariant-loop-id g l =
    l.request ≡ record l.initial.request {
      asked =
          record l.initial.request.asked { wants = l.initial.request.asked.wants ++ take l.id-index l.wants };
    }
