use Rattle.std.proofs.Common.{[], sym, subst, get_or}
use Rattle.std.proofs.lemmas.Result.{IfOk-weaker}
use Rattle.gitcommitgraph.specs.Chains.{ListsParents}
use Rattle.gitcommitgraph.specs.Files.{Commit, row_parents}
use Rattle.gitcommitgraph.proofs.ChainLemmas.{at_place}
use Rattle.gitcommitgraph.proofs.layer.Layer.parents_of.Goals as goal

pub returns : goal.returns
returns g c =
    let file = c.args.self.now in
    IfOk-weaker c.parents_of.result _ _
    (λ found h commit.
    subst (λ (k : Commit). ListsParents c.args.most k.parents found) (sym (at_place file c.args.place commit c.tables.ensures.formed c.requires))
    (subst (λ rows. ListsParents c.args.most (row_parents file.edges (get_or rows c.args.place [])) found) c.tables.ensures.rows
    (subst (λ edges. ListsParents c.args.most (row_parents edges (get_or c.tables.result.rows.now c.args.place [])) found) c.tables.ensures.edges h)))
    c.parents_of.ensures
