use Rattle.std.proofs.Common.{◌≡◌, ◌++◌, take}
use Rattle.std.specs.List.{flat_map}
use Rattle.gitrefs.specs.PackedTexts.{peeled_header, peeled_ref_text}
use Rattle.gitrefs.proofs.packed_text.peeled_refs_text.Given as goal

abbrev pub invariant-loop-pair : goal.invariant-loop-pair
invariant-loop-pair g l = l.text.items ≡ peeled_header ++ flat_map (peeled_ref_text l.peeled) (take l.pair-index l.pair-items)
