-- The components of a path and of an ending that is appended to the path.
use Rattle.std.proofs.Common.{◌<◌, ◌≢◌, ◌⊎◌, inl, inr, length, subst, codes, arith, ◌≡◌, ℕ, Bool, true, false, not, List, [], ◌∷◌, ◌++◌, refl, sym, ap, ◌∙◌}
use Rattle.std.specs.Prelude.{cond, nat_eq}
use Rattle.std.specs.List.{list_all, onto_first, starts_with}
use Rattle.std.proofs.lemmas.Bool.{and_from, and_parts, and_right, both_ways, eqb-false, false≢true, ne_eqb}
use Rattle.std.proofs.lemmas.List.{append-nil, append_cancel_right}
use Rattle.std.proofs.lemmas.List.Splits.{length-slice_split}
use Rattle.gitwords.specs.Served.{IsServedPath, PathsHaveOneReading, StaysBelow, components, ending_text, is_name, is_slash, leads_down}
use Rattle.gitwords.specs.declared.served.Ending.{Ending}
use Rattle.gitwords.specs.declared.served.Ending.TheVariants.{DotGit, Itself, BareDotGit, Bare}

-- ---- a name followed by other bytes

dotless : (b : ℕ) (part more : List ℕ) (t : Bool) → nat_eq 46 b ≡ t → is_name (b ∷ part) ≡ true → leads_down (b ∷ (part ++ more)) ≡ true
dotless b part more true dot named =
    let both = and_parts (not (nat_eq (length (b ∷ part)) 0)) (not (starts_with nat_eq (b ∷ part) (codes "."))) named in absurd (false≢true (rw dot at both.1))
dotless b part more false dot named =
    let other : nat_eq b 46 ≡ false = ne_eqb b 46 (λ e. eqb-false 46 b dot (sym e)) in
    let some : nat_eq (length (b ∷ (part ++ more))) 0 ≡ false = ne_eqb (length (b ∷ (part ++ more))) 0 (λ e. absurd (omega (arith, e))) in
    rw other (rw some refl)

down : (part more : List ℕ) → is_name part ≡ true → leads_down (part ++ more) ≡ true
down [] more named = absurd (false≢true named)
down (b ∷ part) more named = dotless b part more (nat_eq 46 b) refl named

-- ---- the components of two concatenated texts

-- two lists of components, joined: the last component of the first list and the first component of the second list
-- become one component
abbrev glue : List (List ℕ) → List (List ℕ) → List (List ℕ)
glue [] back = back
glue (part ∷ []) [] = part ∷ []
glue (part ∷ []) (next ∷ back) = (part ++ next) ∷ back
glue (part ∷ other ∷ front) back = part ∷ glue (other ∷ front) back

glue-nil : (back : List (List ℕ)) → 0 < length back → back ≡ glue ([] ∷ []) back
glue-nil [] some = absurd (omega (arith, some))
glue-nil (part ∷ back) some = refl

glue-slash : (front back : List (List ℕ)) → 0 < length front → [] ∷ glue front back ≡ glue ([] ∷ front) back
glue-slash [] back some = absurd (omega (arith, some))
glue-slash (part ∷ front) back some = refl

glue-onto_first : (b : ℕ) (front back : List (List ℕ)) → 0 < length front → 0 < length back → onto_first b (glue front back) ≡ glue (onto_first b front) back
glue-onto_first b [] back some others = absurd (omega (arith, some))
glue-onto_first b (part ∷ []) [] some others = absurd (omega (arith, others))
glue-onto_first b (part ∷ []) (next ∷ back) some others = refl
glue-onto_first b (part ∷ other ∷ front) back some others = refl

-- if `whole` is `front` joined to `back`, this still holds after a byte `b` is added at the front; `t` states whether
-- `b` is a slash, which begins a new component
glue_more : (b : ℕ) (front back whole : List (List ℕ)) (t : Bool) → whole ≡ glue front back → 0 < length front → 0 < length back
    → cond t ([] ∷ whole) (onto_first b whole) ≡ glue (cond t ([] ∷ front) (onto_first b front)) back
glue_more b front back whole true is some others = ap (λ parts. [] ∷ parts) is ∙ glue-slash front back some
glue_more b front back whole false is some others = ap (onto_first b) is ∙ glue-onto_first b front back some others

some_part : (text : List ℕ) → 0 < length (components text)
some_part text = omega (arith, length-slice_split is_slash text)

components-append : (front back : List ℕ) → components (front ++ back) ≡ glue (components front) (components back)
components-append [] back = glue-nil (components back) (some_part back)
components-append (b ∷ front) back =
    glue_more b (components front) (components back) (components (front ++ back)) (is_slash b) (components-append front back) (some_part front) (some_part back)

-- ---- a path with an ending

name_down : (part : List ℕ) → is_name part ≡ true → leads_down part ≡ true
name_down part named = subst (λ p. leads_down p ≡ true) (append-nil part) (down part [] named)

all_down : (front : List (List ℕ)) (next : List ℕ) (back : List (List ℕ)) → 0 < length front → list_all is_name front ≡ true → list_all leads_down back ≡ true
    → list_all leads_down (glue front (next ∷ back)) ≡ true
all_down [] next back some named rest = absurd (omega (arith, some))
all_down (part ∷ []) next back some named rest = and_from (leads_down (part ++ next)) (list_all leads_down back) (down part next (and_parts (is_name part) true named).0) rest
all_down (part ∷ other ∷ front) next back some named rest =
    let both = and_parts (is_name part) (list_all is_name (other ∷ front)) named in
    and_from (leads_down part) (list_all leads_down (glue (other ∷ front) (next ∷ back))) (name_down part both.0) (all_down (other ∷ front) next back (omega arith) both.1 rest)

ending_down : (rest ending next : List ℕ) (back : List (List ℕ)) → components ending ≡ next ∷ back → list_all is_name (components rest) ≡ true → list_all leads_down back ≡ true
    → StaysBelow (rest ++ ending)
ending_down rest ending next back parts named others =
    subst (λ all. list_all leads_down all ≡ true) (sym (components-append rest ending ∙ ap (glue (components rest)) parts))
    (all_down (components rest) next back (some_part rest) named others)

with_ending : (rest : List ℕ) (ending : Ending) → list_all is_name (components rest) ≡ true → StaysBelow (rest ++ ending_text ending)
with_ending rest DotGit named = ending_down rest (codes "/.git") [] (codes ".git" ∷ []) refl named refl
with_ending rest Itself named = ending_down rest [] [] [] refl named refl
with_ending rest BareDotGit named = ending_down rest (codes ".git/.git") (codes ".git") (codes ".git" ∷ []) refl named refl
with_ending rest Bare named = ending_down rest (codes ".git") (codes ".git") [] refl named refl

-- a served path with an ending appended can't leave the base directory
pub candidate_stays : (path rest text : List ℕ) (ending : Ending) → IsServedPath path rest → text ≡ rest ++ ending_text ending → StaysBelow text
candidate_stays path rest text ending served is = subst StaysBelow (sym is) (with_ending rest ending served.names)

-- ---- a slash at the end

-- the empty component after a slash at the end of a path is not a name
no_names : (front : List (List ℕ)) → 0 < length front → list_all is_name (glue front ([] ∷ [] ∷ [])) ≡ false
no_names [] some = absurd (omega (arith, some))
no_names (part ∷ []) some = and_right (is_name (part ++ [])) (list_all is_name ([] ∷ [])) refl
no_names (part ∷ other ∷ front) some =
    and_right (is_name part) (list_all is_name (glue (other ∷ front) ([] ∷ [] ∷ []))) (no_names (other ∷ front) (omega arith))

no_names_before_slash : (rest : List ℕ) → list_all is_name (components (rest ++ 47 ∷ [])) ≡ false
no_names_before_slash rest = ap (list_all is_name) (components-append rest (47 ∷ [])) ∙ no_names (components rest) (some_part rest)

-- it is impossible that two texts are equal, but only one of them has a component that is not a name
differ : (x y : List ℕ) → x ≡ y → list_all is_name (components x) ≡ false → list_all is_name (components y) ≡ true → ⊥
differ x y same bad named = both_ways (list_all is_name (components x)) bad (subst (λ l. list_all is_name (components l) ≡ true) (sym same) named)

module _ (path rest relative : List ℕ) (begins : path ≡ 47 ∷ rest) (bad : list_all is_name (components relative) ≡ false) where
  tails : (other : List ℕ) → path ≡ 47 ∷ other → rest ≡ other
  tails other is = let same : 47 ∷ rest ≡ 47 ∷ other = sym begins ∙ is in cc

  slashed : rest ≡ relative ++ 47 ∷ [] → (other : List ℕ) → list_all is_name (components other) ≡ true → (path ≡ 47 ∷ other) ⊎ (path ≡ 47 ∷ (other ++ 47 ∷ [])) → ⊥
  slashed ends other named (inl is) = differ (relative ++ 47 ∷ []) other (sym ends ∙ tails other is) (no_names_before_slash relative) named
  slashed ends other named (inr is) =
      differ relative other (append_cancel_right relative other (47 ∷ []) (sym ends ∙ tails (other ++ 47 ∷ []) is)) bad named

  plain : rest ≡ relative → ((front : List ℕ) → rest ≢ front ++ 47 ∷ []) → (other : List ℕ) → list_all is_name (components other) ≡ true
      → (path ≡ 47 ∷ other) ⊎ (path ≡ 47 ∷ (other ++ 47 ∷ [])) → ⊥
  plain same open_end other named (inl is) = differ relative other (sym same ∙ tails other is) bad named
  plain same open_end other named (inr is) = open_end other (tails (other ++ 47 ∷ []) is)

  -- a path with a component that is not a name is not served, with or without a slash at the end of the path
  pub not_served : (rest ≡ relative ++ 47 ∷ []) ⊎ ((rest ≡ relative) × ((front : List ℕ) → rest ≢ front ++ 47 ∷ [])) → (other : List ℕ) → ¬ (IsServedPath path other)
  not_served (inl ends) other served = slashed ends other served.names served.parts
  not_served (inr (same, open_end)) other served = plain same open_end other served.names served.parts

-- the path consists of a slash, the relative path, and an optional slash at its end
pub served_parts : (path rest relative : List ℕ) → path ≡ 47 ∷ rest → (rest ≡ relative ++ 47 ∷ []) ⊎ ((rest ≡ relative) × ((front : List ℕ) → rest ≢ front ++ 47 ∷ []))
    → (path ≡ 47 ∷ relative) ⊎ (path ≡ 47 ∷ (relative ++ 47 ∷ []))
served_parts path rest relative begins (inl ends) = inr (begins ∙ ap (λ l. 47 ∷ l) ends)
served_parts path rest relative begins (inr (same, open_end)) = inl (begins ∙ ap (λ l. 47 ∷ l) same)

unslashed : (path other : List ℕ) → ((rest : List ℕ) → path ≢ 47 ∷ rest) → (path ≡ 47 ∷ other) ⊎ (path ≡ 47 ∷ (other ++ 47 ∷ [])) → ⊥
unslashed path other none (inl is) = none other is
unslashed path other none (inr is) = none (other ++ 47 ∷ []) is

pub not_slashed : (path : List ℕ) → ((rest : List ℕ) → path ≢ 47 ∷ rest) → (other : List ℕ) → ¬ (IsServedPath path other)
not_slashed path none other served = unslashed path other none served.parts

-- ---- uniqueness of the relative path

same_rest : (path rest other : List ℕ) → list_all is_name (components rest) ≡ true → list_all is_name (components other) ≡ true
    → (path ≡ 47 ∷ rest) ⊎ (path ≡ 47 ∷ (rest ++ 47 ∷ [])) → (path ≡ 47 ∷ other) ⊎ (path ≡ 47 ∷ (other ++ 47 ∷ [])) → rest ≡ other
same_rest path rest other named names (inl is) (inl same) = let both : 47 ∷ rest ≡ 47 ∷ other = sym is ∙ same in cc
same_rest path rest other named names (inl is) (inr same) =
    let both : 47 ∷ rest ≡ 47 ∷ (other ++ 47 ∷ []) = sym is ∙ same in
    let tails : other ++ 47 ∷ [] ≡ rest = cc in absurd (differ (other ++ 47 ∷ []) rest tails (no_names_before_slash other) named)
same_rest path rest other named names (inr is) (inl same) =
    let both : 47 ∷ (rest ++ 47 ∷ []) ≡ 47 ∷ other = sym is ∙ same in
    let tails : rest ++ 47 ∷ [] ≡ other = cc in absurd (differ (rest ++ 47 ∷ []) other tails (no_names_before_slash rest) names)
same_rest path rest other named names (inr is) (inr same) =
    let both : 47 ∷ (rest ++ 47 ∷ []) ≡ 47 ∷ (other ++ 47 ∷ []) = sym is ∙ same in
    let tails : rest ++ 47 ∷ [] ≡ other ++ 47 ∷ [] = cc in append_cancel_right rest other (47 ∷ []) tails

pub paths_have_one_reading : PathsHaveOneReading
paths_have_one_reading path rest other one two = same_rest path rest other one.names two.names one.parts two.parts
