-- Ids of forty hexadecimal digits at the start of a text.
use Rattle.std.specs.Prelude.{◌≡◌, ℕ, List, ◌++◌}
use Rattle.gname.specs.Ids.{Id, IsIdTextOf}
use Rattle.gname.specs.declared.formats.Format.TheVariants.{Sha1}

-- the text begins with the hexadecimal digits of the id, and `rest` follows the digits
pub record BeginsWithId (text : List ℕ) (id : Id) (rest : List ℕ) : Type 0 where
  pub digits : List ℕ
  pub spells : IsIdTextOf Sha1 digits id
  pub parts : text ≡ digits ++ rest
