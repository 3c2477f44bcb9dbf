use Rattle.std.proofs.Common.{◌∙◌, [], ap, sym, get_or}
use Rattle.gitcommitgraph.specs.Files.{Commit}
use Rattle.gitcommitgraph.proofs.ChainLemmas.{at_place}
use Rattle.gitcommitgraph.proofs.layer.Layer.id.Goals as goal

pub returns-clause-id : goal.returns-clause-id
returns-clause-id g c commit =
    ap (λ (c : Commit). c.id) (at_place c.args.self.now c.args.place commit c.tables.ensures.formed c.requires)
    ∙ ap (λ ids. get_or ids c.args.place []) (sym c.tables.ensures.ids) ∙ sym c.id_of_bytes.ensures.bytes
