use Rattle.std.proofs.Common.{ℕ, List, IsOk, Ok, Err, Result, refl, replicate, true≢false}
use Rattle.std.proofs.lemmas.List.{get_or-replicate}
use Rattle.gname.specs.Ids.{ReadsId}
use Rattle.gname.specs.declared.formats.Format.TheVariants.{Sha1}
use Rattle.gname.specs.declared.ids.OidFault.{OidFault}
use Rattle.gname.specs.declared.ids.OidFault.TheVariants.{Length, Digit}
use Rattle.ggraph.proofs.text.parts.Room.new.Goals as goal

-- forty zeros are the text of an id
noughts : (r : Result (List ℕ) OidFault) → ReadsId Sha1 (replicate 40 48) r → IsOk r
noughts (Ok id) h = refl
noughts (Err Length) h = absurd (h refl)
noughts (Err (Digit at)) h = absurd (true≢false (rw (get_or-replicate {A = ℕ} 40 at 48 0 h.1.inside) at h.1.bad))

pub unwrap-blank-requires : goal.unwrap-blank-requires
unwrap-blank-requires c = noughts c.from_hex.result c.from_hex.ensures
