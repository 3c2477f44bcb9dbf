-- Reading the headers of pack entries.
use Rattle.std.proofs.Common.{◌≡◌, ℕ, ◌+◌, ◌-◌, ◌*◌, ◌/◌, ◌%◌, ◌<◌, List, [], ◌∷◌, ◌++◌, length, drop, refl, sym, ap, subst, ◌∙◌, append_assoc, length-append, arith}
use Rattle.std.proofs.Math.Seq.{drop-append_seam}
use Rattle.gitobject.specs.Types.{pack_number}
use Rattle.gitobject.specs.declared.types.ObjectType.{ObjectType}
use Rattle.gitobject.specs.declared.types.ObjectType.TheVariants.{Commit, Tree, Blob, Tag}
use Rattle.gitpack.specs.Numbers.{high_first, low_first}
use Rattle.gitpack.specs.Entries.{BeginsWithHead, IsBaseOf, IsHead, IsTypeAndSize}
use Rattle.gitpack.specs.declared.entry.EntryForm.{EntryForm}
use Rattle.gitpack.specs.declared.entry.EntryForm.TheVariants.{Whole, OffsetDelta, RefDelta}
use Rattle.gitpack.proofs.NumberLemmas.{number_once}

-- if two texts are equal and their first parts have the same length, both parts are equal
pub same_fronts : {X : Type 0} (a b x y : List X) → length a ≡ length b → a ++ x ≡ b ++ y → (a ≡ b) × (x ≡ y)
same_fronts [] [] x y long is = (refl, is)
same_fronts [] (c ∷ b) x y long is = absurd (omega (arith, long))
same_fronts (c ∷ a) [] x y long is = absurd (omega (arith, long))
same_fronts (c ∷ a) (d ∷ b) x y long is =
    let n : length a ≡ length b = omega (arith, long) in
    let heads : c ≡ d = cc in
    let tails : a ++ x ≡ b ++ y = cc in
    let rest = same_fronts a b x y n tails in
    let front = rest.0 in
    (cc, rest.1)

pub record SameTypes (n m s z : ℕ) (t u x y : List ℕ) : Type 0 where
  pub number : n ≡ m
  pub size : s ≡ z
  pub text : t ≡ u
  pub rest : x ≡ y

-- a byte sequence begins with at most one encoded type and size
pub types_once : (n m s z : ℕ) (t u x y : List ℕ) → IsTypeAndSize n s t → IsTypeAndSize m z u → t ++ x ≡ u ++ y → SameTypes n m s z t u x y
types_once n m s z t u x y one two is =
    let both = number_once t u x y one.ends two.ends is in
    let same : one.first ∷ one.more ≡ two.first ∷ two.more = sym one.parts ∙ both.0 ∙ two.parts in
    let firsts : one.first ≡ two.first = cc in
    let mores : one.more ≡ two.more = cc in record {
      number = one.typed ∙ ap (λ b. b / 16 % 8) firsts ∙ sym two.typed;
      size = one.sized ∙ ap (λ b. b % 16 + 16 * low_first one.more) firsts ∙ ap (λ l. two.first % 16 + 16 * low_first l) mores ∙ sym two.sized;
      text = both.0;
      rest = both.1;
    }

pub kind_below : (kind : ObjectType) → pack_number kind < 5
kind_below Commit = omega arith
kind_below Tree = omega arith
kind_below Blob = omega arith
kind_below Tag = omega arith

kind_once : (k l : ObjectType) → pack_number k ≡ pack_number l → k ≡ l
kind_once Commit Commit is = refl
kind_once Commit Tree is = absurd (omega (arith, is))
kind_once Commit Blob is = absurd (omega (arith, is))
kind_once Commit Tag is = absurd (omega (arith, is))
kind_once Tree Commit is = absurd (omega (arith, is))
kind_once Tree Tree is = refl
kind_once Tree Blob is = absurd (omega (arith, is))
kind_once Tree Tag is = absurd (omega (arith, is))
kind_once Blob Commit is = absurd (omega (arith, is))
kind_once Blob Tree is = absurd (omega (arith, is))
kind_once Blob Blob is = refl
kind_once Blob Tag is = absurd (omega (arith, is))
kind_once Tag Commit is = absurd (omega (arith, is))
kind_once Tag Tree is = absurd (omega (arith, is))
kind_once Tag Blob is = absurd (omega (arith, is))
kind_once Tag Tag is = refl

-- a byte sequence begins with at most one encoded base
bases_once : (f g : EntryForm) (n : ℕ) (t u x y : List ℕ) → IsBaseOf f n t → IsBaseOf g n u → t ++ x ≡ u ++ y → (f ≡ g) × (t ≡ u)
bases_once (Whole k) (Whole l) n t u x y one two is =
    let kinds = kind_once k l (sym one.0 ∙ two.0) in let nil = one.1 in let none = two.1 in (cc, cc)
bases_once (Whole k) (OffsetDelta b) n t u x y one two is = let few = kind_below k in absurd (omega (arith, few, one.0, two.0))
bases_once (Whole k) (RefDelta i) n t u x y one two is = let few = kind_below k in absurd (omega (arith, few, one.0, two.0))
bases_once (OffsetDelta a) (Whole l) n t u x y one two is = let few = kind_below l in absurd (omega (arith, few, one.0, two.0))
bases_once (OffsetDelta a) (OffsetDelta b) n t u x y one two is =
    let both = number_once t u x y one.1.ends two.1.ends is in
    let texts = both.0 in
    let backs : a ≡ b = one.1.valued ∙ ap high_first texts ∙ sym two.1.valued in
    (cc, texts)
bases_once (OffsetDelta a) (RefDelta i) n t u x y one two is = absurd (omega (arith, one.0, two.0))
bases_once (RefDelta i) (Whole l) n t u x y one two is = let few = kind_below l in absurd (omega (arith, few, one.0, two.0))
bases_once (RefDelta i) (OffsetDelta b) n t u x y one two is = absurd (omega (arith, one.0, two.0))
bases_once (RefDelta i) (RefDelta j) n t u x y one two is =
    let long : length t ≡ length u = ap length one.2 ∙ one.1.long ∙ sym two.1.long ∙ sym (ap length two.2) in
    let both = same_fronts t u x y long is in
    let texts = both.0 in
    let ids : i ≡ j = sym one.2 ∙ texts ∙ two.2 in
    (cc, texts)

pub heads_once : (f g : EntryForm) (s z : ℕ) (t u x y : List ℕ) → IsHead f s t → IsHead g z u → t ++ x ≡ u ++ y → (f ≡ g) × (s ≡ z) × (t ≡ u)
heads_once f g s z t u x y one two is =
    let left = ap (λ l. l ++ x) one.parts ∙ append_assoc one.front one.back x in
    let right = ap (λ l. l ++ y) two.parts ∙ append_assoc two.front two.back y in
    let both = types_once one.number two.number s z one.front two.front (one.back ++ x) (two.back ++ y) one.sized two.sized (sym left ∙ is ∙ right) in
    let other = subst (λ n. IsBaseOf g n two.back) (sym both.number) two.based in
    let forms = bases_once f g one.number one.back two.back x y one.based other both.rest in
    (forms.0, both.size, one.parts ∙ ap (λ l. l ++ one.back) both.text ∙ ap (λ l. two.front ++ l) forms.1 ∙ sym two.parts)

-- ---- reading a header

-- bytes that do not begin with a type and a size do not begin with a header
pub no_type : (bytes : List ℕ) → ((number size : ℕ) (text rest : List ℕ) → IsTypeAndSize number size text → ¬ (bytes ≡ text ++ rest))
    → (form : EntryForm) (size : ℕ) (rest : List ℕ) → ¬ (BeginsWithHead bytes form size rest)
no_type bytes none form size rest b =
    let h = b.is in
    none h.number size h.front (h.back ++ rest) h.sized (b.parts ∙ ap (λ l. l ++ rest) h.parts ∙ append_assoc h.front h.back rest)

module _ (bytes after front : List ℕ) (number size : ℕ) (sized : IsTypeAndSize number size front) (parts : bytes ≡ front ++ after) where
  -- if no base follows the size, the bytes do not begin with a header
  pub no_base : ((form : EntryForm) (text rest : List ℕ) → IsBaseOf form number text → ¬ (after ≡ text ++ rest))
      → (form : EntryForm) (z : ℕ) (rest : List ℕ) → ¬ (BeginsWithHead bytes form z rest)
  no_base none form z rest b =
      let h = b.is in
      let whole = sym parts ∙ b.parts ∙ ap (λ l. l ++ rest) h.parts ∙ append_assoc h.front h.back rest in
      let both = types_once number h.number size z front h.front after (h.back ++ rest) sized h.sized whole in
      none form h.back rest (subst (λ n. IsBaseOf form n h.back) (sym both.number) h.based) both.rest

  pub head_read : (form : EntryForm) (back rest : List ℕ) → IsBaseOf form number back → after ≡ back ++ rest
      → BeginsWithHead bytes form size (drop (length bytes - length rest) bytes)
  head_read form back rest based cut =
      let head = front ++ back in
      let whole : bytes ≡ head ++ rest = parts ∙ ap (λ l. front ++ l) cut ∙ sym (append_assoc front back rest) in
      let k = ap length whole in
      let m = length-append head rest in
      let n : length bytes - length rest ≡ length head = omega (arith, k, m) in
      let dropped : drop (length bytes - length rest) bytes ≡ rest = ap (λ l. drop (length bytes - length rest) l) whole ∙ ap (λ i. drop i (head ++ rest)) n ∙ drop-append_seam head rest in record {
        head = head;
        is = record { number = number; front = front; back = back; parts = refl; sized = sized; based = based };
        parts = whole ∙ ap (λ l. head ++ l) (sym dropped);
      }
