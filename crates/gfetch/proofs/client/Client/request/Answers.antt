use Rattle.std.proofs.Common.{Err, subst}
use Rattle.gsession.specs.Requesting.{Requests}
use Rattle.gfetch.specs.Turns.{ClientState}
use Rattle.gfetch.proofs.client.Client.request.Goals as goal

pub request_on-requires : goal.request_on-requires
request_on-requires g c = c.self.invariant

pub invariant_of-self : goal.invariant_of-self
invariant_of-self g c = c.in-Ok.ensures.offers

pub returns-in-Ok-clause-requests : goal.returns-in-Ok-clause-requests
returns-in-Ok-clause-requests g c = rw (← c.self.view_is) c.in-Ok.ensures.requests

pub returns-in-Err-clause-requests : goal.returns-in-Err-clause-requests
returns-in-Err-clause-requests g c =
    subst (λ (o : ClientState g.row.A.Denot). Requests o.session o.repo.graph.entries c.request_on.new.self (Err c.in-Err.fault))
    c.self.view_is c.in-Err.ensures.requests
