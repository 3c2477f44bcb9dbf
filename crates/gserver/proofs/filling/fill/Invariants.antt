use Rattle.std.proofs.Common.{length, ◌-◌}
use Rattle.gserver.specs.steps.Filling.{IsFilled}
use Rattle.gserver.proofs.filling.fill.Given as goal

abbrev pub invariant-loop-count : goal.invariant-loop-count
invariant-loop-count g l =
    IsFilled (g.K.PartPacker.gives l.packer l.fn.parts) (g.K.PartPacker.most l.packer l.fn.parts)
    (g.K.PartPacker.gives l.packer l.parts) (g.K.PartPacker.most l.packer l.parts) l.count l.out

abbrev pub decreases-loop-count : goal.decreases-loop-count
decreases-loop-count g l = length l.initial.out - l.count
