use Rattle.std.proofs.Common.{ℕ, List, ◌∷◌, ◌++◌, ◌∙◌, ap}
use Rattle.gpkt.specs.Packets.{Data, canonical}
use Rattle.gserver.proofs.StepLemmas.{failure_said, pack_said, piece_said}
use Rattle.gserver.proofs.said.say_pack.Goals as goal

pub returns-in-More : goal.returns-in-More
returns-in-More g c = λ ends goes_on.
    piece_said g.row.A.Denot g.R.PartPacker.gives g.R.PartPacker.most ends goes_on c.args.packer c.args.parts c.say_piece.new.parts
    c.args.out.now c.say_piece.new.out c.in-More.ensures

pub returns-in-Whole : goal.returns-in-Whole
returns-in-Whole g c = λ ends goes_on.
    pack_said g.row.A.Denot g.R.PartPacker.gives g.R.PartPacker.most ends goes_on c.args.packer c.args.parts
    (g.R.PartPacker.gives c.args.packer c.say_piece.new.parts) (g.R.PartPacker.most c.args.packer c.say_piece.new.parts)
    c.args.out.now c.say_piece.new.out c.in-Whole.ensures

pub returns-in-Failed : goal.returns-in-Failed
returns-in-Failed g c = λ ends goes_on.
    failure_said g.row.A.Denot g.R.PartPacker.gives g.R.PartPacker.most ends goes_on c.args.packer c.args.parts
    (g.R.PartPacker.gives c.args.packer c.say_piece.new.parts) (g.R.PartPacker.most c.args.packer c.say_piece.new.parts)
    c.in-Failed.fault c.args.out.now c.say_piece.new.out c.put.new.self c.in-Failed.ensures
    (c.put.ensures ∙ ap (λ (t : List ℕ). c.say_piece.new.out ++ canonical (Data (3 ∷ t))) (c.as_bytes.ensures.value ∙ c.words_of.ensures.words))
