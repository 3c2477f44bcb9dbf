-- The steps of working with flags.
use Rattle.std.specs.Prelude.{ℕ, List, map}
use Rattle.std.specs.Borrow.{Bor}
use Rattle.grequest.specs.Flags.{Table}

-- a table of flags, with its texts as bytes
abbrev pub table_in : {F : Type 0} → List (F × Bor (List ℕ)) → Table F
table_in rows = map (λ row. (row.0, row.1.now)) rows
