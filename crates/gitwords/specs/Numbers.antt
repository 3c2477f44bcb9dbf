-- The numbers of a command line.
use Rattle.std.specs.Prelude.{ℕ, ◌≤◌, List}
use Rattle.std.specs.Net.Grammar.{IsNumber}

-- decimal digits that denote a port from 1 to 65,535
pub record IsPort (digits : List ℕ) (port : ℕ) : Type 0 where
  pub number : IsNumber 10 digits port
  pub least : 1 ≤ port
  pub most : port ≤ 65_535

-- decimal digits that denote a number of connections from 1 to 1,000,000
pub record IsCount (digits : List ℕ) (count : ℕ) : Type 0 where
  pub number : IsNumber 10 digits count
  pub least : 1 ≤ count
  pub most : count ≤ 1_000_000
