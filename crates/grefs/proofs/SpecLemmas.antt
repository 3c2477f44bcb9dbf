-- Facts about the texts of refspecs.
use Rattle.std.proofs.Common.{◌≡◌, ◌≢◌, ℕ, ◌+◌, ◌<◌, Bool, true, false, ◌==◌, nat_lt, List, [], ◌∷◌, ◌++◌, length, take, drop, get_or, None, Some, Result, Ok, Err, refl, sym, ap, ◌∙◌, subst, arith, append_assoc}
use Rattle.std.proofs.lemmas.List.{append_cancel_right, take_at, drop_at, length-append, get_or_at, get_or_append_left, take-append-drop, drop_more}
use Rattle.std.proofs.lemmas.Bool.{lt-ltb, ne_eqb, eqb-true, false≢true}
use Rattle.std.proofs.lemmas.Bool.Decides.{Decides-eqb}
use Rattle.std.proofs.lemmas.List.Elements.{All-append, All-weaker, All-cons, All-nil}
use Rattle.std.proofs.lemmas.List.Quantifiers.{position-Some}
use Rattle.std.proofs.lemmas.List.Sums.{position_or_len_is}
use Rattle.std.proofs.lemmas.Option.{none-some, same_Some}
use Rattle.std.proofs.lemmas.Slice.Eq.{starts_is}
use Rattle.std.specs.List.{starts_with, position_or_len}
use Rattle.std.specs.Prelude.{All, codes, nat_eq, position}
use Rattle.gname.specs.Laws.{NamesAreClean}
use Rattle.gname.specs.Names.{IsRefName, empty, head_name, is_bad_byte, max_name, name_fault, too_long}
use Rattle.gname.specs.declared.faults.NameFault.TheVariants.{TooLong}
use Rattle.grefs.specs.RefLists.{IsBelowRefs}
use Rattle.grefs.specs.declared.refspec.fault.SpecFault.{SpecFault}
use Rattle.grefs.specs.declared.refspec.fault.SpecFault.TheVariants.{BadSpec, Memory}
use Rattle.grefs.specs.Refspecs.{Refspec, AreSides, IsRefspec, IsSpec, IsStem, OneReading, Reads, force_text, side_text, sides_text}
use Rattle.grefs.specs.steps.Parsing.{HasSides, HasTexts, IsRest, is_colon}

-- the first fault of a text with more than `max_name` bytes is `TooLong`
pub too_long_name : (text : List ℕ) → max_name < length text → name_fault text ≡ Some TooLong
unfolding name_fault empty too_long
too_long_name text long =
    let some : (length text == 0) ≡ false = ne_eqb (length text) 0 (λ none. (omega arith)) in
    let over : nat_lt max_name (length text) ≡ true = lt-ltb max_name (length text) long in
    rw (some, over) refl

-- ---- the bytes of a source and of a destination

-- a byte that is not forbidden differs from a forbidden byte
not_bad : (bad : ℕ) → is_bad_byte bad ≡ true → (b : ℕ) → is_bad_byte b ≡ false → nat_eq b bad ≡ false
not_bad bad is b good = ne_eqb b bad (λ same. false≢true (sym good ∙ ap is_bad_byte same ∙ is))

bad_colon : is_bad_byte 58 ≡ true
unfolding is_bad_byte
bad_colon = refl

bad_star : is_bad_byte 42 ≡ true
unfolding is_bad_byte
bad_star = refl

name_without : NamesAreClean → (bad : ℕ) → is_bad_byte bad ≡ true → (name : List ℕ) → IsRefName name → All (λ b. nat_eq b bad ≡ false) name
name_without law bad is name valid =
    All-weaker (λ b. is_bad_byte b ≡ false) (λ b. nat_eq b bad ≡ false) (λ b good. not_bad bad is b good) name (law name valid).bytes

All-front : (P : ℕ → Type 0) (xs ys : List ℕ) → All P (xs ++ ys) → All P xs
All-front P xs ys all k d low =
    subst P (get_or_append_left xs ys d k low) (all k d (omega (arith, length-append xs ys)))

-- the text of a source has no colon
pub source_without_colon : NamesAreClean → (pattern : Bool) (source destination : List ℕ) → AreSides pattern source destination → All (λ b. is_colon b ≡ false) (side_text pattern source)
source_without_colon law false source destination sides = name_without law 58 bad_colon source sides.0
source_without_colon law true source destination sides =
    let P : ℕ → Type 0 = λ b. nat_eq b 58 ≡ false in
    All-append P source (42 ∷ [])
    (All-front P source (codes "x") (name_without law 58 bad_colon (source ++ codes "x") sides.0.name.well_formed))
    (All-cons P 42 [] refl (All-nil P))

-- a name does not end with a star
pub no_star : NamesAreClean → (name front : List ℕ) → IsRefName name → name ≡ front ++ 42 ∷ [] → ⊥
no_star law name front valid ends =
    let P : ℕ → Type 0 = λ b. nat_eq b 42 ≡ false in
    let all : All P (front ++ 42 ∷ []) = subst (λ (n : List ℕ). All P n) ends (name_without law 42 bad_star name valid) in
    let last : P (get_or (front ++ 42 ∷ []) (length front) 0) = all (length front) 0 (omega (arith, length-append front (42 ∷ []))) in
    let is : get_or (front ++ 42 ∷ []) (length front) 0 ≡ 42 = get_or_at front 42 [] 0 (length front) refl in
    let no : nat_eq 42 42 ≡ false = subst P is last in
    cc no

-- a text that begins with refs/ consists of refs/ and the rest
pub below_begins : (text : List ℕ) → starts_with nat_eq text (codes "refs/") ≡ true → text ≡ codes "refs/" ++ drop 5 text
below_begins text below = (starts_is Decides-eqb text (codes "refs/") true (sym below)).0 refl

-- the text of a source does not begin with a plus
pub no_plus : NamesAreClean → (pattern : Bool) (source destination more rest : List ℕ) → AreSides pattern source destination → side_text pattern source ++ more ≡ 43 ∷ rest → ⊥
no_plus law false [] destination more rest sides begins = let some = (law [] sides.0).some in omega (arith, some)
no_plus law false (b ∷ source) destination more rest sides begins =
    let plus : b ≡ 43 = cc begins in
    let facts = law (b ∷ source) sides.0 in
    let differs : b ∷ source ≢ head_name = λ same. (let h : b ≡ 72 = cc same in omega (arith, plus, h)) in
    let is = below_begins (b ∷ source) (facts.below differs) in
    let r : b ≡ 114 = cc is in
    omega (arith, plus, r)
no_plus law true [] destination more rest sides begins = let b : ℕ = 42 in let star : b ≡ 43 = cc in omega (arith, star)
no_plus law true (b ∷ source) destination more rest sides begins =
    let plus : b ≡ 43 = cc begins in
    let is = below_begins (b ∷ source ++ codes "x") sides.0.name.below in
    let r : b ≡ 114 = cc is in
    omega (arith, plus, r)

-- ---- the parts of a text

after : (front back : List ℕ) (b at : ℕ) → length front ≡ at → drop (at + 1) (front ++ b ∷ back) ≡ back
after front back b at place =
    let split : front ++ b ∷ back ≡ (front ++ b ∷ []) ++ back = sym (append_assoc front (b ∷ []) back) in
    ap (λ (l : List ℕ). drop (at + 1) l) split ∙ drop_at (front ++ b ∷ []) back (at + 1) (omega (arith, place, length-append front (b ∷ [])))

-- a refspec is the record of its four fields
pub same_spec : (spec : Refspec) (forced pattern : Bool) (source destination : List ℕ) → spec.forced ≡ forced → spec.pattern ≡ pattern → spec.source ≡ source → spec.destination ≡ destination
    → spec ≡ record { forced = forced; pattern = pattern; source = source; destination = destination }
same_spec spec forced pattern source destination f p s d = rw (← f, ← p, ← s, ← d) refl

-- if P and Q are equivalent, a result of parsing by P is also a result of parsing by Q
pub reads_same : (P Q : Refspec → Type 0) → ((spec : Refspec) → P spec → Q spec) → ((spec : Refspec) → Q spec → P spec) → (result : Result Refspec SpecFault) → Reads P result → Reads Q result
reads_same P Q there back (Ok spec) reads = there spec reads
reads_same P Q there back (Err BadSpec) reads = λ spec is. reads spec (back spec is)
reads_same P Q there back (Err Memory) reads = (reads.0, there reads.0 reads.1)

-- a text is parsed by parsing the text after its optional `+`
by_front : (forced : Bool) (text rest : List ℕ) → text ≡ force_text forced ++ rest
    → ((spec : Refspec) → IsSpec text spec → (spec.forced ≡ forced) × (rest ≡ sides_text spec))
    → (result : Result Refspec SpecFault) → Reads (IsRest forced rest) result → Reads (IsSpec text) result
by_front forced text rest is parts =
    let front : Bool → List ℕ → List ℕ = λ f l. force_text f ++ l in
    reads_same (IsRest forced rest) (IsSpec text)
    (λ spec read. record {
      written = is ∙ ap (front forced) read.written ∙ ap (λ (f : Bool). front f (sides_text spec)) (sym read.force);
      sides = read.sides;
    })
    (λ spec read. (let here = parts spec read in record { force = here.0; written = here.1; sides = read.sides }))

-- parsing a text that begins with `+`
pub with_plus : NamesAreClean → (text rest : List ℕ) → text ≡ 43 ∷ rest → (result : Result Refspec SpecFault)
    → Reads (IsRest true rest) result → Reads (IsSpec text) result
with_plus law text rest is =
    by_front true text rest is (λ spec read. by_force spec read.sides spec.forced (sym is ∙ read.written))
  where
    by_force : (spec : Refspec) → IsRefspec spec → (forced : Bool) → 43 ∷ rest ≡ force_text forced ++ sides_text spec
        → (forced ≡ true) × (rest ≡ sides_text spec)
    by_force spec sides true written = (refl, (cc))
    by_force spec sides false written =
        absurd (no_plus law spec.pattern spec.source spec.destination _ rest sides (sym written))

-- parsing a text that does not begin with `+`
pub without_plus : NamesAreClean → (text : List ℕ) → ((rest : List ℕ) → text ≢ codes "+" ++ rest)
    → (result : Result Refspec SpecFault) → Reads (IsRest false text) result → Reads (IsSpec text) result
without_plus law text none = by_front false text text refl (λ spec read. by_force spec spec.forced read.written)
  where
    by_force : (spec : Refspec) (forced : Bool) → text ≡ force_text forced ++ sides_text spec
        → (forced ≡ false) × (text ≡ sides_text spec)
    by_force spec true written = absurd (none (sides_text spec) written)
    by_force spec false written = (refl, written)

-- the first colon of a refspec is the colon between its source and its destination
pub colon_at : NamesAreClean → (spec : Refspec) → IsRefspec spec → (text : List ℕ) → text ≡ sides_text spec → position is_colon text ≡ Some (length (side_text spec.pattern spec.source))
colon_at law spec sides text written =
    let front : List ℕ = side_text spec.pattern spec.source in
    let back : List ℕ = side_text spec.pattern spec.destination in
    let clean = source_without_colon law spec.pattern spec.source spec.destination sides in
    let at : position_or_len is_colon (front ++ 58 ∷ back) ≡ length front =
    position_or_len_is is_colon (front ++ 58 ∷ back) (length front) 0 (omega (arith, length-append front (58 ∷ back)))
    (λ k below. subst (λ (b : ℕ). is_colon b ≡ false) (sym (get_or_append_left front (58 ∷ back) 0 k below)) (clean k 0 below))
    (λ inside. ap is_colon (get_or_at front 58 back 0 (length front) refl)) in
    let inside : nat_lt (length front) (length (front ++ 58 ∷ back)) ≡ true = lt-ltb _ _ (omega (arith, length-append front (58 ∷ back))) in
    rw (written, at, inside) refl

-- a text consists of the bytes before its first colon, the colon, and the bytes after it
pub split_at_colon : (text : List ℕ) (at : ℕ) → position is_colon text ≡ Some at → text ≡ take at text ++ (codes ":" ++ drop (at + 1) text)
split_at_colon text at is =
    let facts = position-Some is_colon text at 0 is in
    let colon : get_or text at 0 ≡ 58 = eqb-true _ _ facts.1 in
    sym (take-append-drop at text) ∙ ap (λ (l : List ℕ). take at text ++ l) (drop_more text at 0 facts.0 ∙ ap (λ (b : ℕ). b ∷ drop (at + 1) text) colon)

pub with_colon : NamesAreClean → (forced : Bool) (text : List ℕ) (at : ℕ) → position is_colon text ≡ Some at → (result : Result Refspec SpecFault)
    → Reads (HasTexts forced (take at text) (drop (at + 1) text)) result → Reads (IsRest forced text) result
with_colon law forced text at is result reads =
    reads_same (HasTexts forced (take at text) (drop (at + 1) text)) (IsRest forced text) there back result reads
  where
    there : (spec : Refspec) → HasTexts forced (take at text) (drop (at + 1) text) spec → IsRest forced text spec
    there spec read = record {
      force = read.force;
      written = split_at_colon text at is ∙ ap (λ (l : List ℕ). l ++ (codes ":" ++ drop (at + 1) text)) read.from ∙ ap (λ (l : List ℕ). side_text spec.pattern spec.source ++ (codes ":" ++ l)) read.to;
      sides = read.sides;
    }

    back : (spec : Refspec) → IsRest forced text spec → HasTexts forced (take at text) (drop (at + 1) text) spec
    back spec read =
        let front : List ℕ = side_text spec.pattern spec.source in
        let behind : List ℕ = side_text spec.pattern spec.destination in
        let place : length front ≡ at = same_Some _ _ (sym (colon_at law spec read.sides text read.written) ∙ is) in
        let written : text ≡ front ++ 58 ∷ behind = read.written in
        record {
          force = read.force;
          from = ap (λ (l : List ℕ). take at l) written ∙ take_at front (58 ∷ behind) at place;
          to = ap (λ (l : List ℕ). drop (at + 1) l) written ∙ after front behind 58 at place;
          sides = read.sides;
        }

pub without_colon : NamesAreClean → (forced : Bool) (text : List ℕ) → position is_colon text ≡ None → (spec : Refspec) → ¬ (IsRest forced text spec)
without_colon law forced text none spec read = none-some _ (sym none ∙ colon_at law spec read.sides text read.written)

-- ---- patterns and names

-- a source and a destination, with or without `*`, are parsed by parsing them without `*`
by_sides : (forced pattern : Bool) (source destination stem other : List ℕ) → source ≡ side_text pattern stem
    → destination ≡ side_text pattern other
    → ((p : Bool) (a b : List ℕ) → source ≡ side_text p a → destination ≡ side_text p b → AreSides p a b
    → (p ≡ pattern) × (a ≡ stem) × (b ≡ other) × AreSides pattern stem other)
    → (result : Result Refspec SpecFault) → Reads (HasSides forced pattern stem other) result
    → Reads (HasTexts forced source destination) result
by_sides forced pattern source destination stem other from to parts =
    reads_same (HasSides forced pattern stem other) (HasTexts forced source destination)
    (λ spec read. subst (HasTexts forced source destination) (sym read.is)
    (record { force = refl; from = from; to = to; sides = read.sides }))
    (λ spec read. (
    let here = parts spec.pattern spec.source spec.destination read.from read.to read.sides in
    record { is = same_spec spec forced pattern stem other read.force here.0 here.1 here.2; sides = here.3 }
    ))

pub both_stars : NamesAreClean → (forced : Bool) (source destination stem other : List ℕ) → source ≡ stem ++ codes "*" → destination ≡ other ++ codes "*" → (result : Result Refspec SpecFault)
    → Reads (HasSides forced true stem other) result → Reads (HasTexts forced source destination) result
both_stars law forced source destination stem other from to =
    by_sides forced true source destination stem other from to by_pattern
  where
    by_pattern : (pattern : Bool) (a b : List ℕ) → source ≡ side_text pattern a → destination ≡ side_text pattern b → AreSides pattern a b
        → (pattern ≡ true) × (a ≡ stem) × (b ≡ other) × AreSides true stem other
    by_pattern true a b f t sides =
        let s : a ≡ stem = append_cancel_right a stem (codes "*") (sym f ∙ from) in
        let d : b ≡ other = append_cancel_right b other (codes "*") (sym t ∙ to) in
        (refl, s, d, (subst IsStem s sides.0, subst IsStem d sides.1))
    by_pattern false a b f t sides = absurd (no_star law a stem sides.0 (sym f ∙ from))

-- a source and a destination that do not both end in `*` are not a pattern
pub not_both_stars : (forced : Bool) (source destination : List ℕ) → ((a b : List ℕ) → source ≡ a ++ codes "*" → destination ≡ b ++ codes "*" → ⊥) → (result : Result Refspec SpecFault)
    → Reads (HasSides forced false source destination) result → Reads (HasTexts forced source destination) result
not_both_stars forced source destination none =
    by_sides forced false source destination source destination refl refl by_pattern
  where
    by_pattern : (pattern : Bool) (a b : List ℕ) → source ≡ side_text pattern a → destination ≡ side_text pattern b → AreSides pattern a b
        → (pattern ≡ false) × (a ≡ source) × (b ≡ destination) × AreSides false source destination
    by_pattern true a b f t sides = absurd (none a b f t)
    by_pattern false a b f t sides = (refl, sym f, sym t, (subst IsRefName (sym f) sides.0, subst IsBelowRefs (sym t) sides.1))

-- ---- uniqueness of the refspec

same_force : NamesAreClean → (a b : Refspec) → IsRefspec a → IsRefspec b → (f h : Bool) → force_text f ++ sides_text a ≡ force_text h ++ sides_text b → (f ≡ h) × (sides_text a ≡ sides_text b)
same_force law a b left right true true same = (refl, (cc same))
same_force law a b left right false false same = (refl, same)
same_force law a b left right true false same = absurd (no_plus law b.pattern b.source b.destination _ (sides_text a) right (sym same))
same_force law a b left right false true same = absurd (no_plus law a.pattern a.source a.destination _ (sides_text b) left same)

same_side : NamesAreClean → (p q : Bool) (s t d e : List ℕ) → AreSides p s d → AreSides q t e → side_text p s ≡ side_text q t → (p ≡ q) × (s ≡ t)
same_side law true true s t d e left right same = (refl, append_cancel_right s t (codes "*") same)
same_side law false false s t d e left right same = (refl, same)
same_side law true false s t d e left right same = absurd (no_star law t s right.0 (sym same))
same_side law false true s t d e left right same = absurd (no_star law s t left.0 same)

same_text : (p q : Bool) (d e : List ℕ) → p ≡ q → side_text p d ≡ side_text q e → d ≡ e
same_text true true d e is same = append_cancel_right d e (codes "*") same
same_text false false d e is same = same
same_text true false d e is same = absurd (false≢true (sym is))
same_text false true d e is same = absurd (false≢true is)

-- equal lists that are split at the same position have equal parts
same_parts : (a b c d : List ℕ) → length a ≡ length c → a ++ 58 ∷ b ≡ c ++ 58 ∷ d → (a ≡ c) × (b ≡ d)
same_parts a b c d long same =
    let front : a ≡ c = sym (take_at a (58 ∷ b) (length a) refl) ∙ ap (λ (l : List ℕ). take (length a) l) same ∙ take_at c (58 ∷ d) (length a) (sym long) in
    let back : b ≡ d = sym (after a b 58 (length a) refl) ∙ ap (λ (l : List ℕ). drop (length a + 1) l) same ∙ after c d 58 (length a) (sym long) in
    (front, back)

pub one_reading : NamesAreClean → OneReading
one_reading law text a b x y =
    let force = same_force law a b x.sides y.sides a.forced b.forced (sym x.written ∙ y.written) in
    let front : List ℕ = side_text a.pattern a.source in
    let other : List ℕ = side_text b.pattern b.source in
    let place : length front ≡ length other =
    same_Some _ _ (sym (colon_at law a x.sides (sides_text a) refl) ∙ colon_at law b y.sides (sides_text a) force.1) in
    let parts = same_parts front (side_text a.pattern a.destination) other (side_text b.pattern b.destination) place force.1 in
    let source = same_side law a.pattern b.pattern a.source b.source a.destination b.destination x.sides y.sides parts.0 in
    same_spec a b.forced b.pattern b.source b.destination force.0 source.0 source.1 (same_text a.pattern b.pattern a.destination b.destination source.0 parts.1)
