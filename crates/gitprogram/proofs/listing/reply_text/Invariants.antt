use Rattle.std.proofs.Common.{◌≡◌, take}
use Rattle.gitprogram.specs.Listing.{listing}
use Rattle.gitprogram.proofs.listing.reply_text.Given as goal

abbrev pub invariant-loop-place : goal.invariant-loop-place
invariant-loop-place l = l.text.items ≡ listing l.prefixes (take l.place l.reply.lines)
