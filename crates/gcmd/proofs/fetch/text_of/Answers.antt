use Rattle.gcmd.proofs.FetchLemmas.{only_memory}
use Rattle.gcmd.proofs.fetch.text_of.Goals as goal

pub returns-in-Err : goal.returns-in-Err
returns-in-Err g c =
    only_memory c.positions_are_nodes.ensures c.args.repo.now c.in-Err.fault c.laws.ensures.graph c.laws.ensures.whole
    (rw (c.graph.ensures, c.refs.ensures) at c.in-Err.ensures.text)
