use Rattle.std.proofs.Common.{◌≢◌, ◌∙◌, All, ap, length, subst}
use Rattle.gitcommitgraph.specs.Chains.{graph_commits}
use Rattle.gitcommitgraph.specs.Files.{Commit}
use Rattle.gitcommitgraph.proofs.ChainLemmas.{other_id}
use Rattle.gitcommitgraph.proofs.graph.CommitGraph.find.Goals as goal

pub returns-in_default : goal.returns-in_default
returns-in_default g c =
    let id = c.args.id.now in
    subst (λ files. All (λ (k : Commit). k.id ≢ id) (graph_commits files)) c.self.view_is
    (other_id c.self.inside.layers.items id c.self.invariant.formed (λ long. c.in_default.ensures.cases (ap length c.as_bytes.ensures.bytes ∙ long)))
