-- Definitions for the proofs of look-ups and edits of refs.
use Rattle.std.specs.Cmp.Lexicographic.{slice_cmp}
use Rattle.std.specs.Ordering.{nat_cmp}
use Rattle.std.specs.Prelude.{◌≡◌, ⊤, ℕ, zero, suc, [], ◌∷◌}
use Rattle.std.specs.declared.cmp.Ordering.TheVariants.{Less}
use Rattle.gname.specs.Names.{Name}
use Rattle.grefs.specs.RefLists.{RefList}

-- the ref at the position has the name, and all names before the position sort before it
abbrev pub IsFound : RefList → Name → ℕ → Type 0
IsFound [] name place = ⊥
IsFound (ref ∷ refs) name zero = ref.0 ≡ name
IsFound (ref ∷ refs) name (suc place) = (slice_cmp nat_cmp ref.0 name ≡ Less) × IsFound refs name place

-- the position at which the name would be inserted: all names before the position sort before the name, and the name at
-- the position, if there is one, sorts after it
abbrev pub IsGap : RefList → Name → ℕ → Type 0
IsGap [] name zero = ⊤
IsGap [] name (suc place) = ⊥
IsGap (ref ∷ refs) name zero = slice_cmp nat_cmp name ref.0 ≡ Less
IsGap (ref ∷ refs) name (suc place) = (slice_cmp nat_cmp ref.0 name ≡ Less) × IsGap refs name place
