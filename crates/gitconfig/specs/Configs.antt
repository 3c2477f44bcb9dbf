-- A configuration (git-config(1), "CONFIGURATION FILE", "Syntax").
use Rattle.std.specs.Prelude.{◌≡◌, ◌≢◌, ◌⊎◌, ℕ, Option, Some, None, true, List, [], ◌∷◌, ◌++◌, All, codes, map}
use Rattle.std.specs.Option.{option_map}
use Rattle.std.specs.Char.{is_ascii_alphabetic}
use Rattle.std.specs.Str.{str_to_ascii_lowercase}
use Rattle.gitconfig.specs.Bytes.{EndsLine, is_blank, is_mark, is_name_byte, is_section_byte, is_space}
use Rattle.gitconfig.specs.Values.{BeginsWithValue}
use Rattle.gitconfig.specs.declared.setting.Setting as settings

-- a variable that a configuration sets: its full section name, its name and its value
pub record Setting : Type 0 where
  pub section : List ℕ
  pub name : List ℕ
  pub value : Option (List ℕ)

-- ---- the header of a section: `[section]`, or `[section "subsection"]`

-- the text begins with a byte of a quoted name, possibly after a backslash
abbrev pub BeginsWithQuoted : List ℕ → ℕ → List ℕ → Type 0
BeginsWithQuoted text b rest =
    (b ≢ 10) × (((text ≡ b ∷ rest) × (b ≢ 34) × (b ≢ 92)) ⊎ (text ≡ 92 ∷ b ∷ rest))

-- the text begins with a quoted name and its closing quote, followed by `rest`
abbrev pub HasQuoted : List ℕ → List ℕ → List ℕ → Type 0
HasQuoted text [] rest = text ≡ 34 ∷ rest
HasQuoted text (b ∷ name) rest = (next : List ℕ) × BeginsWithQuoted text b next × HasQuoted next name rest

-- the text begins with blanks and a subsection name in quotes, followed by `rest`
pub record BeginsWithSubsection (text name rest : List ℕ) : Type 0 where
  pub blanks : List ℕ
  pub quoted : List ℕ
  pub parts : text ≡ blanks ++ 34 ∷ quoted
  pub some : blanks ≢ []
  pub blank : All (λ b. is_blank b ≡ true) blanks
  pub has : HasQuoted quoted name rest

-- The end of a header: a bracket, or a subsection name in quotes and a bracket. The full section name is the section, a
-- dot and the subsection name.
abbrev pub EndsHeader : List ℕ → List ℕ → List ℕ → List ℕ → Type 0
EndsHeader text name section rest = ((text ≡ 93 ∷ rest) × (section ≡ name))
    ⊎ ((subsection : List ℕ) × BeginsWithSubsection text subsection (93 ∷ rest)
    × (section ≡ name ++ 46 ∷ subsection))

-- the text begins with the header of a section, followed by `rest`
pub record BeginsWithHeader (text section rest : List ℕ) : Type 0 where
  pub name : List ℕ
  pub after : List ℕ
  pub parts : text ≡ 91 ∷ (name ++ after)
  pub named : name ≢ []
  pub each : All (λ b. is_section_byte b ≡ true) name
  pub ends : EndsHeader after (str_to_ascii_lowercase name) section rest

-- ---- a variable: `name`, or `name = value`

abbrev pub HasValue : List ℕ → Option (List ℕ) → List ℕ → Type 0
HasValue text None rest = (text ≡ rest) × EndsLine rest
HasValue text (Some value) rest = (next : List ℕ) × (text ≡ 61 ∷ next) × BeginsWithValue next value rest

-- the text begins with a letter
abbrev pub BeginsWithLetter : List ℕ → Type 0
BeginsWithLetter text = (first : ℕ) × (more : List ℕ) × (text ≡ first ∷ more) × (is_ascii_alphabetic first ≡ true)

-- the text begins with a variable, followed by `rest`
pub record BeginsWithVariable (text name : List ℕ) (value : Option (List ℕ)) (rest : List ℕ) : Type 0 where
  pub spelt : List ℕ
  pub blanks : List ℕ
  pub after : List ℕ
  pub parts : text ≡ spelt ++ (blanks ++ after)
  pub letter : BeginsWithLetter spelt
  pub each : All (λ b. is_name_byte b ≡ true) spelt
  pub named : name ≡ str_to_ascii_lowercase spelt
  pub blank : All (λ b. is_blank b ≡ true) blanks
  pub has : HasValue after value rest

-- ---- the whole configuration

-- a comment: `#` or `;`, and the text up to the end of the line
pub record BeginsWithComment (text rest : List ℕ) : Type 0 where
  pub mark : ℕ
  pub words : List ℕ
  pub parts : text ≡ mark ∷ (words ++ rest)
  pub marks : is_mark mark ≡ true
  pub each : All (λ b. b ≢ 10) words
  pub ends : EndsLine rest

-- an item of a configuration: a byte of white space or a comment, the header of a section, or a variable
pub data Item : Type 0 where
  Nothing : Item
  Begins : List ℕ → Item
  Sets : List ℕ → Option (List ℕ) → Item

-- the text begins with an item, followed by `rest`
abbrev pub BeginsWithItem : List ℕ → Item → List ℕ → Type 0
BeginsWithItem text Nothing rest =
    ((b : ℕ) × (text ≡ b ∷ rest) × (is_space b ≡ true)) ⊎ BeginsWithComment text rest
BeginsWithItem text (Begins section) rest = BeginsWithHeader text section rest
BeginsWithItem text (Sets name value) rest = BeginsWithVariable text name value rest

-- the text is the concatenation of these items
abbrev pub HasItems : List ℕ → List Item → Type 0
HasItems text [] = text ≡ []
HasItems text (item ∷ items) = (rest : List ℕ) × BeginsWithItem text item rest × HasItems rest items

-- the variables that the items set, each in the section of the nearest header before the variable
abbrev pub settings_of : List ℕ → List Item → List Setting
settings_of section [] = []
settings_of section (Nothing ∷ items) = settings_of section items
settings_of section (Begins next ∷ items) = settings_of next items
settings_of section (Sets name value ∷ items) =
    record { section = section; name = name; value = value } ∷ settings_of section items

-- the text is a configuration that sets exactly these variables, in order
pub record IsConfig (text : List ℕ) (sets : List Setting) : Type 0 where
  pub items : List Item
  pub has : HasItems text items
  pub is : sets ≡ settings_of [] items

-- the variable that the Rust value contains
abbrev pub setting_of : {A : Type 0} → settings.Setting A → Setting
setting_of s = record {
  section = s.section.items;
  name = s.name.items;
  value = option_map (λ value. value.items) s.value;
}

-- ---- the configuration of a bare repository (git-clone(1), `--bare`)

abbrev pub set : List ℕ → List ℕ → List ℕ → Setting
set section name value = record { section = section; name = name; value = Some value }

-- the variables of a bare repository whose remote `origin` has this URL
abbrev pub bare_settings : List ℕ → List Setting
bare_settings url =
    set (codes "core") (codes "repositoryformatversion") (codes "0")
    ∷ set (codes "core") (codes "filemode") (codes "true")
    ∷ set (codes "core") (codes "bare") (codes "true")
    ∷ set (codes "remote.origin") (codes "url") url ∷ []
