use Rattle.std.proofs.Common.{◌≡◌, ◌++◌, take}
use Rattle.std.specs.List.{flat_map}
use Rattle.gtcp.specs.Listing.{ref_line}
use Rattle.gtcp.proofs.listing.put_refs.Given as goal

abbrev pub invariant-loop-index : goal.invariant-loop-index
invariant-loop-index g l = l.text.items ≡ l.initial.text.items ++ flat_map ref_line (take l.index l.reply.lines)
