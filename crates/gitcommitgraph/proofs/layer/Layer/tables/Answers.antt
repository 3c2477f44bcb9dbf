use Rattle.std.proofs.Common.{◌∙◌, ap, sym, subst, length}
use Rattle.gitcommitgraph.specs.Files.{GraphFile, IsGraphFile}
use Rattle.gitcommitgraph.specs.steps.Layers.{table}
use Rattle.gitcommitgraph.proofs.ParentLemmas.{length-commits}
use Rattle.gitcommitgraph.proofs.layer.Layer.tables.Goals as goal

pub returns-clause-ids_long : goal.returns-clause-ids_long
returns-clause-ids_long g c =
    let file = c.args.self.now in
    let formed = subst IsGraphFile c.self.view_is c.self.invariant.formed in
    ap length (c.tables_of.ensures.ids ∙ ap (λ b. table 20 b c.self.inside.places.ids) c.as_slice.ensures.value ∙ ap (λ (f : GraphFile). f.ids) c.self.view_is)
    ∙ sym (length-commits file.edges file.ids file.rows formed.each)

pub returns-clause-rows_long : goal.returns-clause-rows_long
returns-clause-rows_long g c =
    let file = c.args.self.now in
    let formed = subst IsGraphFile c.self.view_is c.self.invariant.formed in
    ap length (c.tables_of.ensures.rows ∙ ap (λ b. table 36 b c.self.inside.places.rows) c.as_slice.ensures.value ∙ ap (λ (f : GraphFile). f.rows) c.self.view_is)
    ∙ formed.each ∙ sym (length-commits file.edges file.ids file.rows formed.each)
