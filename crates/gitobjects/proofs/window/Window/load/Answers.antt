use Rattle.std.proofs.Common.{sym, subst}
use Rattle.gitobjects.specs.Windows.{AreBlocks}
use Rattle.gitobjects.proofs.window.Window.load.Goals as goal

pub invariant_of-self : goal.invariant_of-self
invariant_of-self g c =
    subst (λ packs. AreBlocks packs c.self.inside.blocks.items) (sym c.read_part.ensures.same) c.self.invariant
