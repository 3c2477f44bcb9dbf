-- A packer that is asked for at most one pack for each answer, and its last result.
use Rattle.ganswer.specs.OnePack.{OnePack}
use Rattle.ganswer.specs.declared.one_pack.Packing.TheVariants.{Unasked}

-- the packer before it is asked for a pack, and its last result
abbrev pub once_of : {K : Type 0} → OnePack K → OnePack (OnePack K)
once_of pack = record { packer = record { packer = pack.packer; answered = Unasked }; answered = pack.answered }
