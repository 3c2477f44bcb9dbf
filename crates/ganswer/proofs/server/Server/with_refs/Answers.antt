use Rattle.std.proofs.Common.{refl}
use Rattle.ganswer.specs.Servers.{HoldsHead, IsServer, server_of}
use Rattle.ganswer.proofs.server.Server.with_refs.Goals as goal

pub invariant_of-result : goal.invariant_of-result
invariant_of-result g c =
    let holds : HoldsHead c.args.graph.entries c.args.head = c.holds_head.ensures.0 c.if-not-holds_head.false in
    let is : IsServer (server_of c.args.graph c.args.refs c.args.head) = record {
      graph = c.laws.ensures;
      refs = c.laws-2.ensures;
      closed = c.requires.closed;
      held = c.requires.held;
      head = holds;
      target = c.laws-3.ensures;
    } in
    (is, c.in_ok-name_of_head.ensures, c.requires.peels)

pub returns : goal.returns
returns g c =
    let holds : HoldsHead c.args.graph.entries c.args.head = c.holds_head.ensures.0 c.if-not-holds_head.false in
    let is : IsServer (server_of c.args.graph c.args.refs c.args.head) = record {
      graph = c.laws.ensures;
      refs = c.laws-2.ensures;
      closed = c.requires.closed;
      held = c.requires.held;
      head = holds;
      target = c.laws-3.ensures;
    } in
    (refl, is)
