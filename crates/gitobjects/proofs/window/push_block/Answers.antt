use Rattle.std.proofs.Common.{sym, subst}
use Rattle.gitobjects.specs.Windows.{AreBlocks}
use Rattle.gitobjects.proofs.WindowLemmas.{AreBlocks-push}
use Rattle.gitobjects.proofs.window.push_block.Goals as goal

pub returns-in_err-push : goal.returns-in_err-push
returns-in_err-push g c = λ packs is all.
    subst (λ blocks. AreBlocks packs blocks) (sym c.in_err-push.ensures.items) (c.make_room.ensures.blocks packs all)

pub returns : goal.returns
returns g c = λ packs is all.
    subst (λ blocks. AreBlocks packs blocks) (sym c.in_ok-push.ensures.items)
    (AreBlocks-push packs c.make_room.new.blocks.items c.args.block (c.make_room.ensures.blocks packs all) (c.make_room.ensures.room all.few) is)
