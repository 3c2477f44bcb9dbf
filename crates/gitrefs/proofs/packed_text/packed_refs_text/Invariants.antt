use Rattle.std.proofs.Common.{◌≡◌, ◌++◌, take}
use Rattle.std.specs.List.{flat_map}
use Rattle.gitrefs.specs.PackedTexts.{plain_header, plain_ref_text}
use Rattle.gitrefs.proofs.packed_text.packed_refs_text.Given as goal

abbrev pub invariant-loop-pair : goal.invariant-loop-pair
invariant-loop-pair g l = l.text.items ≡ plain_header ++ flat_map plain_ref_text (take l.pair-index l.pair-items)
