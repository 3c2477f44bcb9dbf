use Rattle.std.proofs.Common.{◌≡◌, ◌++◌, take}
use Rattle.gsession.proofs.requests.add_haves.Given as goal

abbrev pub invariant-loop-id : goal.invariant-loop-id
invariant-loop-id g l =
    l.request ≡ record l.initial.request {
      asked =
          record l.initial.request.asked { haves = l.initial.request.asked.haves ++ take l.id-index l.haves };
    }
