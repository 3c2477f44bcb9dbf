use Rattle.std.proofs.Common.{subst}
use Rattle.gitcommitgraph.specs.steps.Tables.{IsPlaceOf}
use Rattle.gitcommitgraph.proofs.ChainLemmas.{finds_in_file}
use Rattle.gitcommitgraph.proofs.layer.Layer.find.Goals as goal

pub returns : goal.returns
returns g c =
    finds_in_file c.args.self.now c.args.id.now c.find.result c.tables.ensures.formed
    (subst (λ ids. IsPlaceOf ids c.args.id.now c.find.result) c.tables.ensures.ids c.find.ensures)
