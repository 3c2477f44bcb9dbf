-- The texts of packets, and words at the front of a text.
use Rattle.std.proofs.Common.{◌≡◌, ℕ, Bool, true, false, if◌then◌else◌, nat_eq, List, [], ◌∷◌, ◌++◌, length, drop, map, Option, Some, None, refl, ap, ◌∙◌}
use Rattle.std.specs.List.{starts_with}
use Rattle.std.specs.Prelude.{is_none}
use Rattle.std.proofs.lemmas.Bool.Decides.{Decides-eqb}
use Rattle.std.proofs.lemmas.Slice.Eq.{starts_is}
use Rattle.gpkt.specs.Packets.{Data, text}
use Rattle.ggrammar.specs.PeerErrors.{after_word}
use Rattle.ggrammar.specs.Texts.{texts_of}

pub texts_of-data : (payloads : List (List ℕ)) → texts_of (map Data payloads) ≡ map text payloads
texts_of-data [] = refl
texts_of-data (payload ∷ payloads) = ap (λ (xs : List (List ℕ)). text payload ∷ xs) (texts_of-data payloads)

-- if a choice between a value and `None` yields a value, the test is true
pub tested : {X : Type 0} (b : Bool) (x : Option X) (y : X) → (if b then x else None) ≡ Some y
    → (b ≡ true) × (x ≡ Some y)
tested true x y e = (refl, e)
tested false x y e = absurd (let no : None ≡ Some y = e in cc)

pub is_none-None : {X : Type 0} (found : Option X) → is_none found ≡ true → found ≡ None
is_none-None None e = refl
is_none-None (Some x) e = cc

-- if `rest` is the rest of a text after a word, the text is the word followed by `rest`
pub follows_word : (word line rest : List ℕ) → after_word word line ≡ Some rest → line ≡ word ++ rest
unfolding after_word
follows_word word line rest e =
    let h = tested (starts_with nat_eq line word) (Some (drop (length word) line)) rest e in
    let same : drop (length word) line ≡ rest = cc in
    (starts_is Decides-eqb line word (starts_with nat_eq line word) refl).0 h.0 ∙ ap (λ (xs : List ℕ). word ++ xs) same
