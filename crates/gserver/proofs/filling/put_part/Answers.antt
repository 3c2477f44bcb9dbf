use Rattle.std.proofs.Common.{◌≡◌, ◌-◌, ℕ, length, arith, length-drop, length-take}
use Rattle.gserver.proofs.FillingLemmas.{puts_result}
use Rattle.gserver.proofs.filling.put_part.Goals as goal

pub returns : goal.returns
returns g c =
    let size : length c.part.new.out ≡ length c.args.out.now - c.args.from = let auto = c.part.auto.out in omega (arith, auto, length-take {A = ℕ}, length-drop {A = ℕ}) in
    puts_result (g.K.PartPacker.gives c.args.packer.now c.args.parts.now) (g.K.PartPacker.most c.args.packer.now c.args.parts.now)
    (g.K.PartPacker.gives c.args.packer.now c.part.new.parts) (g.K.PartPacker.most c.args.packer.now c.part.new.parts)
    c.args.from c.args.out.now c.part.new.out c.part.result c.requires size c.part.ensures
