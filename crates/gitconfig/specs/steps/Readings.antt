-- The state of reading a configuration.
use Rattle.std.specs.Prelude.{◌≡◌, ◌≢◌, ◌⊎◌, ℕ, Bool, false, List, [], ◌∷◌, ◌++◌, All, length, map}
use Rattle.gitconfig.specs.Values.{is_marked}
use Rattle.gitconfig.specs.declared.pieces.Piece.{Piece}
use Rattle.gitconfig.specs.declared.pieces.Piece.TheVariants.{Byte, Blank, Quote, Continuation}
use Rattle.gitconfig.specs.declared.reading.ValueText.{ValueText}
use Rattle.gitconfig.specs.Configs.{Item, Begins, Nothing, Sets, Setting, setting_of, settings_of}
use Rattle.gitconfig.specs.declared.reading.Reading.{Reading}

-- the current section after an item
abbrev pub section_after : List ℕ → Item → List ℕ
section_after section (Begins next) = next
section_after section item = section

-- the state after reading an item: the variable that the item sets is added, and the current section is updated
abbrev pub HasRead : {A : Type 0} → Reading A → Item → Reading A → Type 0
HasRead old item new =
    (map setting_of new.settings.items ≡ map setting_of old.settings.items ++ settings_of old.section.items (item ∷ []))
    × (new.section.items ≡ section_after old.section.items item)

-- the new partly read value is the old value, extended by a piece
abbrev pub Pushes : {A : Type 0} → Piece → ValueText A → ValueText A → Type 0
Pushes (Byte b) old new = (new.bytes.items ≡ old.bytes.items ++ b ∷ []) × (new.kept ≡ length new.bytes.items)
Pushes (Blank b) old new = (new.kept ≡ old.kept) × (((old.bytes.items ≡ []) × (new.bytes.items ≡ []))
    ⊎ ((old.bytes.items ≢ []) × (new.bytes.items ≡ old.bytes.items ++ b ∷ [])))
Pushes Quote old new = (new.kept ≡ old.kept) × (new.bytes.items ≡ old.bytes.items)
Pushes Continuation old new = (new.kept ≡ old.kept) × (new.bytes.items ≡ old.bytes.items)

-- A partly read value has the bytes without the leading blanks, and the number of bytes before the trailing blanks.
pub record IsValueSoFar {A : Type 0} (bytes : List (ℕ × Bool)) (value : ValueText A) : Type 0 where
  pub before : List (ℕ × Bool)
  pub kept : List (ℕ × Bool)
  pub after : List (ℕ × Bool)
  pub parts : bytes ≡ before ++ (kept ++ after)
  pub blank_before : All is_marked before
  pub blank_after : All is_marked after
  pub first : (b : ℕ × Bool) (more : List (ℕ × Bool)) → kept ≡ b ∷ more → b.1 ≡ false
  pub last : (b : ℕ × Bool) (more : List (ℕ × Bool)) → kept ≡ more ++ b ∷ [] → b.1 ≡ false
  pub started : kept ≡ [] → after ≡ []
  pub has : value.bytes.items ≡ map (λ b. b.0) (kept ++ after)
  pub count : value.kept ≡ length kept
