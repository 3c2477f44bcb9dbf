-- Ref names and their prefixes (git-check-ref-format(1)): eight rules and the order in which they are checked. A fault
-- with a position has the first position at which the rule is broken.
use Rattle.std.specs.Prelude.{◌≡◌, ◌⊎◌, ℕ, zero, suc, ◌+◌, ◌-◌, ◌==◌, ◌&&◌, ◌||◌, Bool, List, [], ◌∷◌, length, drop}
use Rattle.std.specs.Prelude.{slice_index, codes, nat_eq, nat_lt, Option, Some, None, Result, MatchResult}
use Rattle.std.specs.Prelude.{if◌then◌else◌, position}
use Rattle.std.specs.Cmp.Lexicographic.{pointwise}
use Rattle.std.specs.List.{before_first, ends_with, list_any, starts_with}
use Rattle.std.specs.Option.{option_map, option_or}
use Rattle.gname.specs.declared.faults.NameFault.{NameFault}
use Rattle.gname.specs.declared.faults.NameFault.TheVariants.{Empty, TooLong, NotRef, BadByte, Component, DoubleDot}
use Rattle.gname.specs.declared.faults.NameFault.TheVariants.{AtBrace, End, Memory}

-- the bytes of a ref name
abbrev pub Name : Type 0
Name = List ℕ

-- a rule: a function that maps a text to the fault found in the text, or to `None`
abbrev pub Rule : Type 0
Rule = List ℕ → Option NameFault

-- the fault of the first rule in the list that finds a fault
abbrev pub first_fault : List Rule → Rule
first_fault [] text = None
first_fault (rule ∷ rules) text = option_or (rule text) (first_fault rules text)

-- ---- positions in a text

-- the first position that passes the test, among the `more` positions that start at `at`
unfoldable pub first_place_from : (ℕ → Bool) → ℕ → ℕ → Option ℕ
first_place_from test at zero = None
first_place_from test at (suc more) = if test at then Some at else first_place_from test (at + 1) more

-- the first position of the text, including its end, that passes the test
abbrev pub first_place : (ℕ → Bool) → List ℕ → Option ℕ
first_place test text = first_place_from test 0 (length text + 1)

-- whether the given bytes occur in the text at position `at`
abbrev pub stands_at : List ℕ → List ℕ → ℕ → Bool
stands_at text bytes at = starts_with nat_eq (drop at text) bytes

-- ---- the rules

-- the maximum length of a ref name in bytes
abbrev pub max_name : ℕ
max_name = 1000

-- rule 1: a name is not empty
unfoldable pub empty : Rule
empty text = if length text == 0 then Some Empty else None

-- rule 2: a name is not longer than the limit
unfoldable pub too_long : Rule
too_long text = if nat_lt max_name (length text) then Some TooLong else None

-- the only ref name outside refs/
abbrev pub head_name : Name
head_name = codes "HEAD"

-- rule 3: a name is HEAD or begins with refs/
unfoldable pub not_ref : Rule
not_ref text = if pointwise nat_eq text head_name || starts_with nat_eq text (codes "refs/") then None else Some NotRef

-- whether a byte is forbidden: a control character, DEL, a space, or a character that is special in revisions or
-- patterns
unfoldable pub is_bad_byte : ℕ → Bool
is_bad_byte b = nat_lt b 32 || b == 127 || list_any (λ c. c == b) (codes " ~^:?*[\\")

-- rule 4: a name has no forbidden byte
unfoldable pub bad_byte : Rule
bad_byte text = option_map BadByte (position is_bad_byte text)

-- whether a byte is a slash, which separates components
abbrev pub is_slash : ℕ → Bool
is_slash b = b == 47

-- whether a component begins at the position: at the start of the text, or after a slash
abbrev pub begins_component : List ℕ → ℕ → Bool
begins_component text at = at == 0 || is_slash (slice_index text (at - 1))

-- the component that begins at the position and extends to the next slash or the end of the text
abbrev pub component_at : List ℕ → ℕ → List ℕ
component_at text at = before_first is_slash (drop at text)

-- whether a component is forbidden: it is empty, begins with a dot, or ends with .lock
abbrev pub is_bad_component : List ℕ → Bool
is_bad_component part = length part == 0 || starts_with nat_eq part (codes ".") || ends_with nat_eq part (codes ".lock")

-- whether a forbidden component begins at the position
unfoldable pub begins_bad_component : List ℕ → ℕ → Bool
begins_bad_component text at = begins_component text at && is_bad_component (component_at text at)

-- rule 5: a name has no forbidden component
unfoldable pub component : Rule
component text = option_map Component (first_place (begins_bad_component text) text)

-- rule 6: a name does not contain two dots in a row
unfoldable pub double_dot : Rule
double_dot text = option_map DoubleDot (first_place (stands_at text (codes "..")) text)

-- rule 7: a name does not contain `@{`
unfoldable pub at_brace : Rule
at_brace text = option_map AtBrace (first_place (stands_at text (codes "@{")) text)

-- rule 8: a name does not end with a dot
unfoldable pub end : Rule
end text = if ends_with nat_eq text (codes ".") then Some End else None

-- ---- names and prefixes

-- the rules of ref names, in order
abbrev pub name_rules : List Rule
name_rules = empty ∷ too_long ∷ not_ref ∷ bad_byte ∷ component ∷ double_dot ∷ at_brace ∷ end ∷ []

-- the first fault of a text that is checked as a ref name
unfoldable pub name_fault : Rule
name_fault text = first_fault name_rules text

-- a valid ref name: no rule finds a fault
abbrev pub IsRefName : List ℕ → Type 0
IsRefName text = name_fault text ≡ None

-- the rules of prefixes of ref names, in order
abbrev pub prefix_rules : List Rule
prefix_rules = too_long ∷ bad_byte ∷ []

-- the first fault of a text that is checked as a prefix
unfoldable pub prefix_fault : Rule
prefix_fault text = first_fault prefix_rules text

-- a valid prefix of ref names: no rule of prefixes finds a fault
abbrev pub IsPrefix : List ℕ → Type 0
IsPrefix text = prefix_fault text ≡ None

-- the result of checking and copying a text: the copy or `Memory` for a text without faults, otherwise the fault of the
-- text
abbrev pub Owns : Rule → List ℕ → Result (List ℕ) NameFault → Type 0
Owns rule text result =
    MatchResult result (λ owned. (owned ≡ text) × (rule text ≡ None))
    (λ fault. (rule text ≡ Some fault) ⊎ ((fault ≡ Memory) × (rule text ≡ None)))

-- the result of checking a text by a rule
abbrev pub Finds : Rule → List ℕ → Result (Unit {0}) NameFault → Type 0
Finds rule text result = MatchResult result (λ _. rule text ≡ None) (λ fault. rule text ≡ Some fault)
