use Rattle.std.proofs.Common.{refl}
use Rattle.gfetch.specs.Listings.{no_buffer}
use Rattle.gfetch.proofs.listing.list_over.Goals as goal

pub returns-in-Err-clause-lists : goal.returns-in-Err-clause-lists
returns-in-Err-clause-lists g c =
    no_buffer (record { read = refl; down = refl }) (record { written = refl; passed_on = refl; down = refl })
