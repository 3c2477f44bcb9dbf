use Rattle.std.proofs.lemmas.List.Elements.{All-weaker}
use Rattle.std.specs.Map.{values_of}
use Rattle.gdag.specs.Reach.{IsConnected, here}
use Rattle.gcomplete.specs.Closed.{IsComplete}
use Rattle.gitworld.proofs.run_complete.Goals as goal

pub returns-clause-complete : goal.returns-clause-complete
returns-clause-complete g c = λ objects judged.
    let refs = values_of c.run-result.new.self.world.repo.refs in
    let graph = c.run-result.new.self.world.repo.graph.entries in
    let complete = rw c.indexer.ensures at c.laws.ensures.complete in
    All-weaker (IsConnected graph) (IsComplete objects)
    (λ id connected. complete objects judged id (c.run-result.ensures.kept id (connected id here)))
    refs c.run-result.ensures.connected_refs

pub returns-clause-judged : goal.returns-clause-judged
returns-clause-judged g c = rw c.indexer.ensures at c.laws.ensures.judged
