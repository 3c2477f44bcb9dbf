-- The components of a text are its parts between slashes. In a ref name no component is empty, begins with a dot or
-- ends with .lock (git-check-ref-format(1)).
use Rattle.std.specs.Prelude.{◌≡◌, ◌↔◌, ◌⊎◌, ℕ, ◌<◌, true, false, List, [], ◌∷◌, ◌++◌, length, codes, All, Some, None}
use Rattle.gname.specs.declared.faults.NameFault.TheVariants.{Component}
use Rattle.gname.specs.Names.{IsRefName, bad_byte, component, empty, first_fault, is_bad_component, is_slash, name_fault, not_ref, too_long}

-- a component may begin after this text: the text is empty, or ends with a slash
abbrev pub ComesBefore : List ℕ → Type 0
ComesBefore front = (front ≡ []) ⊎ ((more : List ℕ) × (front ≡ more ++ codes "/"))

-- a component may end before this text: the text is empty, or begins with a slash
abbrev pub ComesBehind : List ℕ → Type 0
ComesBehind back = (back ≡ []) ⊎ ((more : List ℕ) × (back ≡ codes "/" ++ more))

-- `part` is the component of the text that begins at position `place`: the bytes up to the next slash or the end of the
-- text
pub record IsComponent (text : List ℕ) (place : ℕ) (part : List ℕ) : Type 0 where
  pub front : List ℕ
  pub back : List ℕ
  pub cut : text ≡ front ++ (part ++ back)
  pub begins : length front ≡ place
  pub no_slash : All (λ b. is_slash b ≡ false) part
  pub before : ComesBefore front
  pub behind : ComesBehind back

-- every component of the text is allowed
abbrev pub AllowsComponents : List ℕ → Type 0
AllowsComponents text = (place : ℕ) (part : List ℕ) → IsComponent text place part → is_bad_component part ≡ false

-- the first forbidden component of the text begins at position `place`
pub record IsFirstBadComponent (text : List ℕ) (place : ℕ) : Type 0 where
  pub part : List ℕ
  pub there : IsComponent text place part
  pub bad : is_bad_component part ≡ true
  pub earlier : (at : ℕ) (other : List ℕ) → IsComponent text at other → at < place → is_bad_component other ≡ false

-- no rule before the rule of components finds a fault in the text
abbrev pub PassesEarlierRules : List ℕ → Type 0
PassesEarlierRules text = first_fault (empty ∷ too_long ∷ not_ref ∷ bad_byte ∷ []) text ≡ None

-- Facts about components. A component begins at the start of a text and after each slash. The rule of components finds
-- the first forbidden component. The first forbidden component is the fault of the text exactly when no earlier rule
-- finds a fault. A ref name has no forbidden component.
pub record ComponentFacts (text : List ℕ) : Type 0 where
  pub each : (front back : List ℕ) → text ≡ front ++ back → ComesBefore front →
      (part : List ℕ) × IsComponent text (length front) part
  pub none_found : (component text ≡ None) ↔ AllowsComponents text
  pub found : (place : ℕ) → (component text ≡ Some (Component place)) ↔ IsFirstBadComponent text place
  pub fault : (place : ℕ) → (name_fault text ≡ Some (Component place)) ↔
      (PassesEarlierRules text × IsFirstBadComponent text place)
  pub name : IsRefName text → AllowsComponents text

abbrev pub ComponentsAreParts : Type 0
ComponentsAreParts = (text : List ℕ) → ComponentFacts text
