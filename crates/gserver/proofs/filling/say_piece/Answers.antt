use Rattle.std.proofs.Common.{◌≡◌, length, arith}
use Rattle.gserver.proofs.FillingLemmas.{fault_said, last_said, more_said, none_said}
use Rattle.gserver.proofs.filling.say_piece.Goals as goal

pub returns-in-Ok-eq0 : goal.returns-in-Ok-eq0
returns-in-Ok-eq0 g c =
    none_said (g.K.PartPacker.gives c.args.packer.now c.args.parts.now) (g.K.PartPacker.most c.args.packer.now c.args.parts.now)
    (g.K.PartPacker.gives c.args.packer.now c.fill.new.parts) (g.K.PartPacker.most c.args.packer.now c.fill.new.parts)
    c.fill.new.out c.args.out.now c.args.out.now c.in-Ok-eq0.field-0 c.in-Ok-eq0.ensures.filled c.in-Ok-eq0.field-0-test c.fill.ensures.len

pub returns-then-count-eq-MAX_BAND : goal.returns-then-count-eq-MAX_BAND
returns-then-count-eq-MAX_BAND g c =
    more_said (g.K.PartPacker.gives c.args.packer.now c.args.parts.now) (g.K.PartPacker.most c.args.packer.now c.args.parts.now)
    (g.K.PartPacker.gives c.args.packer.now c.fill.new.parts) (g.K.PartPacker.most c.args.packer.now c.fill.new.parts)
    c.fill.new.out c.args.out.now c.put.new.self c.in-Ok.count c.in-Ok.ensures.filled c.if-count-eq-MAX_BAND.true c.fill.ensures.len c.put.ensures

pub returns-else-count-eq-MAX_BAND : goal.returns-else-count-eq-MAX_BAND
returns-else-count-eq-MAX_BAND g c =
    last_said (g.K.PartPacker.gives c.args.packer.now c.args.parts.now) (g.K.PartPacker.most c.args.packer.now c.args.parts.now)
    (g.K.PartPacker.gives c.args.packer.now c.fill.new.parts) (g.K.PartPacker.most c.args.packer.now c.fill.new.parts)
    c.fill.new.out c.args.out.now c.put.new.self c.in-Ok.count c.in-Ok.ensures.filled (omega arith) (let f = c.in-Ok.ensures.filled.fits in let z = c.if-count-eq-MAX_BAND.false in let h : length c.fill.new.out ≡ 65515 = c.fill.ensures.len in omega (arith, f, z, h)) c.fill.ensures.len c.put.ensures

pub returns-in-Err : goal.returns-in-Err
returns-in-Err g c =
    fault_said (g.K.PartPacker.gives c.args.packer.now c.args.parts.now) (g.K.PartPacker.most c.args.packer.now c.args.parts.now)
    (g.K.PartPacker.gives c.args.packer.now c.fill.new.parts) (g.K.PartPacker.most c.args.packer.now c.fill.new.parts)
    c.fill.new.out c.args.out.now c.args.out.now c.in-Err.fault c.in-Err.ensures.filled
