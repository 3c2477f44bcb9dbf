-- Facts about ref names and prefixes.
use Rattle.std.proofs.Common.{◌≡◌, ◌≢◌, ℕ, ◌<◌, ◌≤◌, Bool, true, false, ◌||◌, cond, List, length, Option, Some, None, refl, arith}
use Rattle.std.specs.Prelude.{All, codes, nat_eq}
use Rattle.std.specs.Cmp.Lexicographic.{pointwise}
use Rattle.std.specs.List.{starts_with}
use Rattle.std.specs.Option.{option_map, option_or}
use Rattle.std.proofs.lemmas.Bool.Decides.{nat_tests}
use Rattle.std.proofs.lemmas.List.Sums.{fails_before_first}
use Rattle.std.proofs.lemmas.Slice.Eq.{bytes_eq-Decides}
use Rattle.gname.proofs.ListLemmas.{position-None}
use Rattle.gname.specs.declared.faults.NameFault.{NameFault}
use Rattle.gname.specs.declared.faults.NameFault.TheVariants.{NotRef, Memory, BadByte, Component}
use Rattle.gname.specs.Names.{IsPrefix, IsRefName, at_brace, bad_byte, begins_bad_component, component, double_dot, empty, end, first_place_from, head_name, is_bad_byte, max_name, name_fault, not_ref, prefix_fault, too_long}
use Rattle.gname.specs.Components.{PassesEarlierRules}
use Rattle.gname.specs.Laws.{IsClean, NameFacts, PrefixFacts}

-- ---- rules that find no fault

option_or-None : {X : Type 0} (a b : Option X) → option_or a b ≡ None → (a ≡ None) × (b ≡ None)
option_or-None None b h = (refl, h)
option_or-None (Some x) b h = cc h

option_map-None : {X Y : Type 0} (f : X → Y) (o : Option X) → option_map f o ≡ None → o ≡ None
option_map-None f None h = refl
option_map-None f (Some x) h = cc h

-- the first five rules find no fault in the text
pub record KeepsRules (text : List ℕ) : Type 0 where
  pub some : empty text ≡ None
  pub within : too_long text ≡ None
  pub root : not_ref text ≡ None
  pub bytes : bad_byte text ≡ None
  pub components : component text ≡ None

pub KeepsRules-of_name : (text : List ℕ) → IsRefName text → KeepsRules text
unfolding name_fault
KeepsRules-of_name text h = record {
  some = grind arith;
  within = grind arith;
  root = grind arith;
  bytes = grind arith;
  components = grind arith;
}

-- ---- facts about single rules

empty-None : (text : List ℕ) → empty text ≡ None → 0 < length text
unfolding empty
empty-None text h = grind (arith, nat_tests)

too_long-None : (text : List ℕ) → too_long text ≡ None → length text ≤ max_name
unfolding too_long
too_long-None text h = grind (arith, nat_tests)

-- a byte that is not forbidden is greater than 32, the byte of a space
good_byte : (b : ℕ) → is_bad_byte b ≡ false → 32 < b
unfolding is_bad_byte
good_byte b h = grind (arith, nat_tests)

bad_byte-None : (text : List ℕ) → bad_byte text ≡ None → All (λ b. is_bad_byte b ≡ false) text
unfolding bad_byte
bad_byte-None text h k d low =
    let none = position-None is_bad_byte text (option_map-None BadByte _ h) in
    fails_before_first is_bad_byte text k d (omega (arith, none))

clean-of_bytes : (text : List ℕ) → bad_byte text ≡ None → IsClean text
clean-of_bytes text h k d low = good_byte _ (bad_byte-None text h k d low)

-- ---- names and prefixes

pub IsPrefix-of_name : (text : List ℕ) → IsRefName text → IsPrefix text
unfolding prefix_fault
IsPrefix-of_name text h =
    let keeps = KeepsRules-of_name text h in
    rw (keeps.within, keeps.bytes) refl

other_root : (head below : Bool) → cond (head || below) None (Some NotRef) ≡ None → (head ≡ true → ⊥) → below ≡ true
other_root true below h differs = absurd (differs refl)
other_root false true h differs = refl
other_root false false h differs = cc h

-- a text that rule 3 allows is HEAD or begins with refs/
below-of_root : (text : List ℕ) → not_ref text ≡ None → text ≢ head_name → starts_with nat_eq text (codes "refs/") ≡ true
unfolding not_ref
below-of_root text h differs =
    other_root (pointwise nat_eq text head_name) _ h (λ same. differs ((bytes_eq-Decides text head_name).0 same))

pub names_are_clean : (text : List ℕ) → IsRefName text → NameFacts text
names_are_clean text h =
    let keeps = KeepsRules-of_name text h in
    record {
      some = empty-None text keeps.some;
      within = too_long-None text keeps.within;
      clean = clean-of_bytes text keeps.bytes;
      bytes = bad_byte-None text keeps.bytes;
      below = below-of_root text keeps.root;
      prefix = IsPrefix-of_name text h;
    }

pub prefixes_are_clean : (text : List ℕ) → IsPrefix text → PrefixFacts text
unfolding prefix_fault
prefixes_are_clean text h =
    let a = option_or-None (too_long text) _ h in
    let b = option_or-None (bad_byte text) _ a.1 in
    record { within = too_long-None text a.0; clean = clean-of_bytes text b.0; bytes = bad_byte-None text b.0 }

-- the length of a ref name is within the limit
pub name_within : (text : List ℕ) → IsRefName text → length text ≤ max_name
name_within text h = (names_are_clean text h).within

pub name_clean : (text : List ℕ) → IsRefName text → IsClean text
name_clean text h = (names_are_clean text h).clean

-- ---- the faults that the rules find

-- whether a fault was found that passes the test
abbrev finds : (NameFault → Bool) → Option NameFault → Bool
finds test None = false
finds test (Some fault) = test fault

finds-if : (test : NameFault → Bool) (b : Bool) (p q : Option NameFault) → finds test p ≡ false → finds test q ≡ false → finds test (cond b p q) ≡ false
finds-if test true p q h k = h
finds-if test false p q h k = k

finds-map : (test : NameFault → Bool) (f : ℕ → NameFault) (o : Option ℕ) → ((at : ℕ) → test (f at) ≡ false) → finds test (option_map f o) ≡ false
finds-map test f None h = refl
finds-map test f (Some at) h = h at

abbrev is_memory : NameFault → Bool
is_memory Memory = true
is_memory _ = false

abbrev is_other : NameFault → Bool
is_other Memory = true
is_other (Component at) = true
is_other _ = false

-- only the rule of components finds `Component`, and none of the other rules finds `Memory`
others_find : (text : List ℕ) → (finds is_other (empty text) ≡ false) × (finds is_other (too_long text) ≡ false)
    × (finds is_other (not_ref text) ≡ false) × (finds is_other (bad_byte text) ≡ false)
    × (finds is_other (double_dot text) ≡ false) × (finds is_other (at_brace text) ≡ false) × (finds is_other (end text) ≡ false)
unfolding empty too_long not_ref bad_byte double_dot at_brace end
others_find text = search (finds-if, finds-map)

component_finds : (text : List ℕ) → finds is_memory (component text) ≡ false
unfolding component
component_finds text = finds-map is_memory Component _ (λ at. refl)

-- no rule reports out of memory
pub rules_never_report_memory : (text : List ℕ) → (name_fault text ≢ Some Memory) × (prefix_fault text ≢ Some Memory)
unfolding name_fault prefix_fault
rules_never_report_memory text =
    let others = others_find text in
    let parts = component_finds text in
    (λ same. grind arith, λ same. grind arith)

-- if the fault of a text is `Component`, no earlier rule finds a fault and the rule of components finds this fault
pub component_fault_parts : (text : List ℕ) (at : ℕ) → name_fault text ≡ Some (Component at) → PassesEarlierRules text × (component text ≡ Some (Component at))
unfolding name_fault
component_fault_parts text at h = let others = others_find text in grind arith

pub component_fault_from : (text : List ℕ) (at : ℕ) → PassesEarlierRules text → component text ≡ Some (Component at) → name_fault text ≡ Some (Component at)
unfolding name_fault
component_fault_from text at earlier here = grind arith

-- ---- HEAD

pub head_is_a_name : IsRefName head_name
unfolding name_fault empty too_long not_ref bad_byte is_bad_byte component begins_bad_component first_place_from double_dot at_brace end
head_is_a_name = refl
