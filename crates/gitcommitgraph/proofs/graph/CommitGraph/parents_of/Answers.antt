use Rattle.std.proofs.Common.{◌<◌, ◌∙◌, List, [], All, ap, get_or, length, subst, sym}
use Rattle.std.proofs.lemmas.Result.{IfOk-weaker}
use Rattle.gitcommitgraph.specs.Chains.{AreClosed, graph_commits}
use Rattle.gitcommitgraph.specs.Files.{Commit, GraphFile, file_commits}
use Rattle.gitcommitgraph.proofs.ChainLemmas.{lists_inside}
use Rattle.gitcommitgraph.proofs.graph.CommitGraph.parents_of.Goals as goal

pub returns-clause-inside : goal.returns-clause-inside
returns-clause-inside g c =
    let none : Commit = record { id = []; parents = [] } in
    let files = c.args.self.now in
    let end = length (graph_commits files) in
    let position = c.args.position in
    let commit = get_or (file_commits c.layer_at-place.result.0.now) c.layer_at-place.result.1 none in
    let closed = subst (λ (fs : List GraphFile). AreClosed (graph_commits fs)) c.self.view_is c.self.invariant.closed in
    let same = ap (λ (fs : List GraphFile). get_or (graph_commits fs) position none) (sym (c.as_slice.ensures.value ∙ c.self.view_is))
    ∙ ap (λ n. get_or (graph_commits c.as_slice.result.now) n none) (sym c.index.ensures) ∙ c.layer_at-place.ensures.same none in
    let all = subst (λ (k : Commit). All (λ p. p < end) k.parents) same (closed position none c.requires) in
    IfOk-weaker c.parents_of.result _ _ (λ found h. lists_inside end c.args.most commit.parents found all (h none)) c.parents_of.ensures
