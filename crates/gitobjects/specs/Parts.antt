-- Texts whose parts are each followed by the same byte: each line by LF, or each name by NUL.
use Rattle.std.specs.Prelude.{◌≡◌, ◌≢◌, ℕ, List, [], ◌∷◌, ◌++◌, All}

-- the concatenation of the parts, each followed by the byte
abbrev pub ended_by : ℕ → List (List ℕ) → List ℕ
ended_by byte [] = []
ended_by byte (part ∷ parts) = part ++ byte ∷ ended_by byte parts

-- the text consists of these parts, each followed by the byte, and of the last part; no part contains the byte
pub record IsOfParts (byte : ℕ) (text : List ℕ) (parts : List (List ℕ)) (last : List ℕ) : Type 0 where
  pub is : text ≡ ended_by byte parts ++ last
  pub each : All (All (λ b. b ≢ byte)) parts
  pub clean : All (λ b. b ≢ byte) last
