-- Facts about open and complete lists of packets, for every judge.
use Rattle.std.proofs.Common.{◌≡◌, List, [], ◌∷◌, ◌++◌, ◌⊎◌, inl, inr, refl, sym, ap, subst, ◌∙◌, append_assoc}
use Rattle.gpkt.specs.Packets.{Packet}
use Rattle.ggrammar.specs.Grammar.{Judge, Open, Whole, Refused, IsOpen, HasEndings, LawsOf, OpenIsUnfinished, RefusesFirstMisfits, IsPrefixFree}
use Rattle.ggrammar.specs.declared.fault.Why.{Why}

-- an empty list has no element
pub nil_has_none : {X : Type 0} (front : List X) (x : X) (back : List X) → [] ≡ front ++ x ∷ back → ⊥
nil_has_none [] x back e = cc
nil_has_none (y ∷ front) x back e = cc

-- an element of the list `xs` followed by `x` is the last element `x` or an element of `xs`
pub split_push : {X : Type 0} (xs : List X) (x : X) (front : List X) (y : X) (back : List X) → xs ++ x ∷ [] ≡ front ++ y ∷ back
    → ((front ≡ xs) × (y ≡ x) × (back ≡ [])) ⊎ ((more : List X) × (xs ≡ front ++ y ∷ more))
split_push [] x [] y back e = inl (refl, cc, cc)
split_push [] x (z ∷ front) y back e =
    let rest : [] ≡ front ++ y ∷ back = cc in absurd (nil_has_none front y back rest)
split_push (w ∷ xs) x [] y back e = inr (xs, cc)
split_push (w ∷ xs) x (z ∷ front) y back e =
    let same : w ≡ z = cc in
    let rest : xs ++ x ∷ [] ≡ front ++ y ∷ back = cc in
    elim (split_push xs x front y back rest) [ inl h ↦ inl (cc, h.1, h.2) | inr h ↦ inr (h.0, (let more : xs ≡ front ++ y ∷ h.0 = h.1 in cc)) ]

-- ---- open lists

pub IsOpen-nil : (judge : Judge) → IsOpen judge []
IsOpen-nil judge = record { each = λ front packet back e. absurd (nil_has_none front packet back e) }

pub IsOpen-push : {judge : Judge} {front : List Packet} {packet : Packet}
    → IsOpen judge front → judge front packet ≡ Open → IsOpen judge (front ++ packet ∷ [])
IsOpen-push {judge} {front} {packet} opened goes = record {
  each = λ before one back e.
      elim (split_push front packet before one back e) [ inl h ↦ cc (goes, h.0, h.1) | inr h ↦ opened.each before one h.0 h.1 ];
}

pub IsOpen-front : {judge : Judge} (xs ys : List Packet) → IsOpen judge (xs ++ ys) → IsOpen judge xs
IsOpen-front xs ys opened = record {
  each = λ before one back e. opened.each before one (back ++ ys) (ap (λ (zs : List Packet). zs ++ ys) e ∙ append_assoc before (one ∷ back) ys);
}

-- no packet of an open list ends the message or is refused
pub IsOpen-never_ends : {judge : Judge} (front : List Packet) (packet : Packet) (back : List Packet)
    → IsOpen judge (front ++ packet ∷ back) → judge front packet ≡ Whole → ⊥
IsOpen-never_ends front packet back opened ends = let goes = opened.each front packet back refl in cc

pub IsOpen-never_refuses : {judge : Judge} (front : List Packet) (packet : Packet) (back : List Packet) (why : Why)
    → IsOpen judge (front ++ packet ∷ back) → judge front packet ≡ Refused why → ⊥
IsOpen-never_refuses front packet back why opened refuses = let goes = opened.each front packet back refl in cc

-- ---- the laws of every judge

-- no message is a proper prefix of another
pub IsPrefixFree-always : (judge : Judge) → IsPrefixFree judge
IsPrefixFree-always judge lines back short long =
    let same : long.front ++ long.last ∷ [] ≡ short.front ++ short.last ∷ back =
    sym long.parts ∙ (ap (λ (zs : List Packet). zs ++ back) short.parts ∙ append_assoc short.front (short.last ∷ []) back) in
    elim (split_push long.front long.last short.front short.last back same) [
      | inl h ↦ h.2
      | inr h ↦ absurd (IsOpen-never_ends short.front short.last h.0 (subst (IsOpen judge) h.1 long.goes) short.ends)
    ]

-- if each open list can be completed, an open list begins a message and has no complete message as a prefix
pub OpenIsUnfinished-by_endings : (judge : Judge) → HasEndings judge → OpenIsUnfinished judge
OpenIsUnfinished-by_endings judge endings front opened = record {
  begins = endings front opened;
  unfinished = λ whole back e is_whole.
      let same : front ≡ is_whole.front ++ is_whole.last ∷ back =
      e ∙ (ap (λ (zs : List Packet). zs ++ back) is_whole.parts ∙ append_assoc is_whole.front (is_whole.last ∷ []) back) in
      IsOpen-never_ends is_whole.front is_whole.last back (subst (IsOpen judge) same opened) is_whole.ends;
}

-- if each open list can be completed, a rejected packet is the first packet that does not fit
pub RefusesFirstMisfits-by_endings : (judge : Judge) → HasEndings judge → RefusesFirstMisfits judge
RefusesFirstMisfits-by_endings judge endings front packet why opened refuses = record {
  before = OpenIsUnfinished-by_endings judge endings front opened;
  misfit = λ begins.
      let whole = begins.1 in
      let same : whole.front ++ whole.last ∷ [] ≡ front ++ packet ∷ begins.0 = sym whole.parts ∙ append_assoc front (packet ∷ []) begins.0 in
      elim (split_push whole.front whole.last front packet begins.0 same) [
        | inl h ↦ (let ends : judge front packet ≡ Whole = cc (whole.ends, h.0, h.1) in cc)
        | inr h ↦ IsOpen-never_refuses front packet h.0 why (subst (IsOpen judge) h.1 whole.goes) refuses
      ];
}

pub laws_of_grammars : (judge : Judge) → LawsOf judge
laws_of_grammars judge = record {
  nothing = IsOpen-nil judge;
  goes_on = λ front packet opened goes. IsOpen-push opened goes;
  front = λ lines more opened. IsOpen-front lines more opened;
  beginnings = OpenIsUnfinished-by_endings judge;
  misfits = RefusesFirstMisfits-by_endings judge;
  one_end = IsPrefixFree-always judge;
}
