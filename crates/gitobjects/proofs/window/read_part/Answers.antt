use Rattle.std.proofs.Common.{ap, ◌∙◌, arith}
use Rattle.gitobjects.specs.declared.window.Opened.{Opened}
use Rattle.gitobjects.proofs.WindowLemmas.{map-set_same}
use Rattle.gitobjects.proofs.window.read_part.Goals as goal

pub returns-clause-same : goal.returns-clause-same
returns-clause-same g c =
    let known = λ (opened : Opened g.row.P.Denot). g.P.OpenPack.bytes opened.file in
    map-set_same known c.args.packs.now.items c.args.pack c.index_mut.result.now _ (c.read_at.ensures.bytes ∙ ap known c.index_mut.ensures.value) (omega arith)
