-- The rule of components finds the first forbidden component of a text.
use Rattle.std.proofs.Common.{◌≡◌, ◌↔◌, ℕ, ◌+◌, ◌-◌, ◌<◌, ◌≤◌, ◌==◌, true, false, inl, inr, List, [], ◌∷◌, ◌++◌, length, take, drop, get_or, slice_index, Option, Some, None, refl, sym, ap, ◌∙◌, subst, arith, append_assoc}
use Rattle.std.specs.Prelude.{All}
use Rattle.std.specs.List.{before_first, position_or_len}
use Rattle.std.specs.Option.{option_map}
use Rattle.std.proofs.Math.ListN.{length-take}
use Rattle.std.proofs.lemmas.Bool.{and_from, and_parts, cases_eq, cases_lt, eqb-true, false_from_ne_true, or_cases, or_right}
use Rattle.std.proofs.lemmas.List.{drop_all, drop_at, drop_more, get_or-take, get_or_append_left, get_or_at, length-append, take-append-drop, take_at, take_more}
use Rattle.std.proofs.lemmas.List.Sums.{fails_before_first, passes_at_first, position_or_len_is, prefix_len-le-length}
use Rattle.gname.specs.declared.faults.NameFault.TheVariants.{Component}
use Rattle.gname.specs.Names.{begins_bad_component, begins_component, component, component_at, is_bad_component, is_slash}
use Rattle.gname.specs.Components.{AllowsComponents, ComesBefore, ComesBehind, ComponentFacts, IsComponent, IsFirstBadComponent}
use Rattle.gname.proofs.NameLemmas.{KeepsRules-of_name, component_fault_from, component_fault_parts}
use Rattle.gname.proofs.PlaceLemmas.{IsFirstOf, first_place_is, first_places_are_first}

-- ---- the start of a component

-- a slash is the byte 47
slash-is : (b : ℕ) → is_slash b ≡ true → b ≡ 47
slash-is b h = eqb-true b 47 h

slash-before : (text : List ℕ) (at : ℕ) → at ≤ length text → (at ≡ 0 → ⊥) → is_slash (slice_index text (at - 1)) ≡ true → ComesBefore (take at text)
slash-before text at fits some slash =
    let byte : slice_index text (at - 1) ≡ 47 = slash-is (slice_index text (at - 1)) slash in
    let place : at - 1 + 1 ≡ at = omega arith in
    let more : take (at - 1 + 1) text ≡ take (at - 1) text ++ slice_index text (at - 1) ∷ [] = take_more text (at - 1) 0 (omega arith) in
    inr (
      take (at - 1) text,
      ap (λ (n : ℕ). take n text) (sym place) ∙ more ∙ ap (λ (b : ℕ). take (at - 1) text ++ b ∷ []) byte,
    )

before-begins : (text : List ℕ) (at : ℕ) → at ≤ length text → begins_component text at ≡ true → ComesBefore (take at text)
before-begins text at fits begins =
    elim (cases_eq at 0) [
      | inl front ↦ inl (ap (λ (n : ℕ). take n text) front)
      | inr some ↦
          elim (or_cases (at == 0) _ begins) [
            | inl front ↦ absurd (some (eqb-true at 0 front))
            | inr slash ↦ slash-before text at fits some slash
          ]
    ]

behind-ends : (rest : List ℕ) → ComesBehind (drop (length (before_first is_slash rest)) rest)
behind-ends rest =
    let n : ℕ = position_or_len is_slash rest in
    let low : n ≤ length rest = prefix_len-le-length _ rest in
    let long : length (before_first is_slash rest) ≡ n = omega (arith, length-take n rest, low) in
    elim (cases_lt n (length rest)) [
      | inl inside ↦
          let slash : get_or rest n 0 ≡ 47 = slash-is (get_or rest n 0) (passes_at_first is_slash rest 0 inside) in
          inr (drop (n + 1) rest, ap (λ (k : ℕ). drop k rest) long ∙ drop_more rest n 0 inside ∙ ap (λ (b : ℕ). b ∷ drop (n + 1) rest) slash)
      | inr past ↦ inl (drop_all (length (before_first is_slash rest)) rest (omega (arith, long, past)))
    ]

no_slash-before : (rest : List ℕ) → All (λ b. is_slash b ≡ false) (before_first is_slash rest)
no_slash-before rest k d low =
    let n : ℕ = position_or_len is_slash rest in
    let inside : k < n = omega (arith, length-take n rest, low) in
    subst (λ (b : ℕ). is_slash b ≡ false) (sym (get_or-take n rest k d inside)) (fails_before_first is_slash rest k d inside)

front-part : (rest : List ℕ) → rest ≡ before_first is_slash rest ++ drop (length (before_first is_slash rest)) rest
front-part rest =
    let n : ℕ = position_or_len is_slash rest in
    let low : n ≤ length rest = prefix_len-le-length _ rest in
    let long : length (before_first is_slash rest) ≡ n = omega (arith, length-take n rest, low) in
    sym (take-append-drop n rest) ∙ ap (λ (k : ℕ). take n rest ++ drop k rest) (sym long)

-- if a component can begin at position `at`, the bytes up to the next slash are a component
pub IsComponent-at : (text : List ℕ) (at : ℕ) → at ≤ length text → begins_component text at ≡ true → IsComponent text at (component_at text at)
IsComponent-at text at fits begins = record {
  front = take at text;
  back = drop (length (component_at text at)) (drop at text);
  cut = sym (take-append-drop at text) ∙ ap (λ (l : List ℕ). take at text ++ l) (front-part (drop at text));
  begins = omega (arith, length-take at text, fits);
  no_slash = no_slash-before (drop at text);
  before = before-begins text at fits begins;
  behind = behind-ends (drop at text);
}

-- ---- uniqueness of components

within : (text : List ℕ) (at : ℕ) (part : List ℕ) (h : IsComponent text at part) → at ≤ length text
within text at part h =
    let long : length text ≡ length h.front + length (part ++ h.back) = ap length h.cut ∙ length-append h.front (part ++ h.back) in
    let place = h.begins in
    omega (arith, long, place)

begins-from : (text front back : List ℕ) (at : ℕ) → text ≡ front ++ back → length front ≡ at → ComesBefore front
    → begins_component text at ≡ true
begins-from text front back at cut place (inl none) =
    let e : at ≡ 0 = sym place ∙ ap length none in
    rw e refl
begins-from text front back at cut place (inr (more, is)) =
    let whole : text ≡ more ++ 47 ∷ back = cut ∙ ap (λ (l : List ℕ). l ++ back) is ∙ append_assoc more (47 ∷ []) back in
    let long : length more + 1 ≡ at = sym (length-append more (47 ∷ [])) ∙ sym (ap length is) ∙ place in
    let byte : get_or (more ++ 47 ∷ back) (at - 1) 0 ≡ 47 = get_or_at more 47 back 0 (at - 1) (omega (arith, long)) in
    let slash : is_slash (slice_index text (at - 1)) ≡ true = ap is_slash (ap (λ (l : List ℕ). slice_index l (at - 1)) whole ∙ byte) in
    or_right (at == 0) _ slash

ends-at : (part back : List ℕ) → All (λ b. is_slash b ≡ false) part → ComesBehind back
    → position_or_len is_slash (part ++ back) ≡ length part
ends-at part back clean (inl none) =
    position_or_len_is is_slash (part ++ back) (length part) 0 (omega (arith, length-append part back))
    (λ k low. subst (λ (b : ℕ). is_slash b ≡ false) (sym (get_or_append_left part back 0 k low)) (clean k 0 low))
    (λ inside. absurd (let long = ap length none in omega (arith, inside, long, length-append part back)))
ends-at part back clean (inr (more, is)) =
    let byte : get_or (part ++ back) (length part) 0 ≡ 47 =
    ap (λ (l : List ℕ). get_or (part ++ l) (length part) 0) is ∙ get_or_at part 47 more 0 (length part) refl in
    position_or_len_is is_slash (part ++ back) (length part) 0 (omega (arith, length-append part back))
    (λ k low. subst (λ (b : ℕ). is_slash b ≡ false) (sym (get_or_append_left part back 0 k low)) (clean k 0 low))
    (λ inside. ap is_slash byte)

-- a component begins at the start of the text or after a slash
begins-of : (text : List ℕ) (at : ℕ) (part : List ℕ) (h : IsComponent text at part) → begins_component text at ≡ true
begins-of text at part h = begins-from text h.front (part ++ h.back) at h.cut h.begins h.before

pub component_at-is : (text : List ℕ) (at : ℕ) (part : List ℕ) (h : IsComponent text at part) → component_at text at ≡ part
component_at-is text at part h =
    let rest : drop at text ≡ part ++ h.back = ap (λ (l : List ℕ). drop at l) h.cut ∙ drop_at h.front (part ++ h.back) at h.begins in
    ap (λ (l : List ℕ). before_first is_slash l) rest
    ∙ ap (λ (n : ℕ). take n (part ++ h.back)) (ends-at part h.back h.no_slash h.behind)
    ∙ take_at part h.back (length part) refl

-- ---- the test of the rule

test-true : (text : List ℕ) (at : ℕ) → begins_bad_component text at ≡ true → (begins_component text at ≡ true) × (is_bad_component (component_at text at) ≡ true)
unfolding begins_bad_component
test-true text at h = and_parts _ _ h

test-from : (text : List ℕ) (at : ℕ) (part : List ℕ) → IsComponent text at part → is_bad_component part ≡ true → begins_bad_component text at ≡ true
unfolding begins_bad_component
test-from text at part h bad =
    and_from _ _ (begins-of text at part h) (ap is_bad_component (component_at-is text at part h) ∙ bad)

-- if the test fails at a position, the component that begins at this position is allowed
allowed : (text : List ℕ) (at : ℕ) (part : List ℕ) → IsComponent text at part → begins_bad_component text at ≡ false → is_bad_component part ≡ false
allowed text at part h fails =
    false_from_ne_true (is_bad_component part) (λ bad. (let clash = sym (test-from text at part h bad) ∙ fails in cc))

-- ---- the result of the rule

-- if each component that begins at a position is allowed, the test fails at this position
passes : (text : List ℕ) (at : ℕ) → at ≤ length text → ((part : List ℕ) → IsComponent text at part → is_bad_component part ≡ false)
    → begins_bad_component text at ≡ false
passes text at fits good = false_from_ne_true (begins_bad_component text at) (λ bad.
    let both = test-true text at bad in
    let clash = sym both.1 ∙ good (component_at text at) (IsComponent-at text at fits both.0) in
    cc clash)

first-bad : (text : List ℕ) (at : ℕ) → at ≤ length text → begins_bad_component text at ≡ true → ((j : ℕ) → j < at → begins_bad_component text j ≡ false)
    → IsFirstBadComponent text at
first-bad text at fits here before =
    let both = test-true text at here in
    record {
      part = component_at text at;
      there = IsComponent-at text at fits both.0;
      bad = both.1;
      earlier = λ k other h low. allowed text k other h (before k low);
    }

-- if the search found no position, all components of the text are allowed
allows-none : (text : List ℕ) (o : Option ℕ) → IsFirstOf (begins_bad_component text) (length text) o → option_map Component o ≡ None
    → AllowsComponents text
allows-none text None found is = λ at part h. allowed text at part h (found at (within text at part h))
allows-none text (Some at) found is = cc is

first-found : (text : List ℕ) (o : Option ℕ) (at : ℕ) → IsFirstOf (begins_bad_component text) (length text) o
    → option_map Component o ≡ Some (Component at) → IsFirstBadComponent text at
first-found text None at found is = cc is
first-found text (Some k) at found is =
    let same : k ≡ at = cc in subst (IsFirstBadComponent text) same (first-bad text k found.0 found.1 found.2)

rule-none : (text : List ℕ) → (component text ≡ None) ↔ AllowsComponents text
unfolding component
rule-none text = (
  allows-none text _ (first_places_are_first (begins_bad_component text) text),
  λ all. ap (option_map Component) (first_place_is (begins_bad_component text) text None (λ j low. passes text j low (all j))),
)

rule-found : (text : List ℕ) (at : ℕ) → (component text ≡ Some (Component at)) ↔ IsFirstBadComponent text at
unfolding component
rule-found text at = (
  first-found text _ at (first_places_are_first (begins_bad_component text) text),
  λ first.
      let fits = within text at first.part first.there in
      ap (option_map Component) (first_place_is (begins_bad_component text) text (Some at) (
        fits,
        test-from text at first.part first.there first.bad,
        λ j low. passes text j (omega (arith, fits)) (λ part h. first.earlier j part h low),
      )),
)

-- ---- the facts of components

one-begins : (text front back : List ℕ) → text ≡ front ++ back → ComesBefore front → (part : List ℕ) × IsComponent text (length front) part
one-begins text front back cut before =
    let long : length text ≡ length front + length back = ap length cut ∙ length-append front back in (
      component_at text (length front),
      IsComponent-at text (length front) (omega (arith, long)) (begins-from text front back (length front) cut refl before),
    )

pub components_are_parts : (text : List ℕ) → ComponentFacts text
components_are_parts text =
    record {
      each = one-begins text;
      none_found = rule-none text;
      found = rule-found text;
      fault = λ at. (
        λ h. (let parts = component_fault_parts text at h in (parts.0, (rule-found text at).0 parts.1)),
        λ h. component_fault_from text at h.0 ((rule-found text at).1 h.1),
      );
      name = λ h. (rule-none text).0 (KeepsRules-of_name text h).components;
    }
