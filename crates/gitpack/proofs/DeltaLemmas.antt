-- Applying deltas.
use Rattle.std.proofs.Common.{◌≡◌, ◌≢◌, ◌==◌, inl, inr, true, eqb-true, Option, None, Some, MatchOption, Result, Ok, Err, IfOk, ◌^◌, ℕ, zero, suc, ◌+◌, ◌-◌, ◌*◌, ◌/◌, ◌%◌, ◌<◌, ◌≤◌, List, [], ◌∷◌, ◌++◌, length, take, drop, refl, sym, ap, subst, ◌∙◌, append_assoc, length-append, arith}
use Rattle.std.proofs.lemmas.List.{append-nil}
use Rattle.std.proofs.Math.Nat.{pow-le-pow_right, pow-succ'}
use Rattle.gitpack.specs.Numbers.{IsSize, low_first}
use Rattle.gitpack.specs.Deltas.{BeginsWithInstruction, Copy, Fits, Insert, Instruction, IsCopy, IsDelta, IsInstruction, IsSparse, Keeps, Makes, add_instruction, copy_size, number_of}
use Rattle.gitpack.proofs.NumberLemmas.{number_once}
use Rattle.gitpack.proofs.EntryLemmas.{same_fronts}

-- ---- sizes

pub sizes_once : (t u x y : List ℕ) (n m : ℕ) → IsSize t n → IsSize u m → t ++ x ≡ u ++ y → (n ≡ m) × (x ≡ y)
sizes_once t u x y n m one two is =
    let both = number_once t u x y one.ends two.ends is in
    (one.valued ∙ ap low_first both.0 ∙ sym two.valued, both.1)

-- ---- sparse numbers

pub record SameKept (bytes others kept more x y : List ℕ) : Type 0 where
  pub bytes_are : bytes ≡ others
  pub kept_are : kept ≡ more
  pub rest : x ≡ y

-- the kept bytes can be decoded in only one way
keeps_once : (bits : ℕ) (bytes others t u x y : List ℕ) → length bytes ≡ length others → Keeps bits bytes t → Keeps bits others u → t ++ x ≡ u ++ y → SameKept bytes others t u x y
keeps_once bits [] [] t u x y long one two is =
    record { bytes_are = refl; kept_are = one ∙ sym two; rest = sym (ap (λ l. l ++ x) one) ∙ is ∙ ap (λ l. l ++ y) two }
keeps_once bits [] (c ∷ others) t u x y long one two is = absurd (omega (arith, long))
keeps_once bits (b ∷ bytes) [] t u x y long one two is = absurd (omega (arith, long))
keeps_once bits (b ∷ bytes) (c ∷ others) t u x y long (inl one) (inl two) is =
    let n : length bytes ≡ length others = omega (arith, long) in
    let whole : b ∷ (one.1 ++ x) ≡ c ∷ (two.1 ++ y) = sym (ap (λ l. l ++ x) one.2) ∙ is ∙ ap (λ l. l ++ y) two.2 in
    let heads : b ≡ c = cc in
    let tails : one.1 ++ x ≡ two.1 ++ y = cc in
    let rest = keeps_once (bits / 2) bytes others one.1 two.1 x y n one.3 two.3 tails in
    let same = rest.bytes_are in
    let kept = rest.kept_are in
    let first = one.2 in let second = two.2 in
    record { bytes_are = cc; kept_are = cc; rest = rest.rest }
keeps_once bits (b ∷ bytes) (c ∷ others) t u x y long (inl one) (inr two) is = absurd (omega (arith, one.0, two.0))
keeps_once bits (b ∷ bytes) (c ∷ others) t u x y long (inr one) (inl two) is = absurd (omega (arith, one.0, two.0))
keeps_once bits (b ∷ bytes) (c ∷ others) t u x y long (inr one) (inr two) is =
    let n : length bytes ≡ length others = omega (arith, long) in
    let rest = keeps_once (bits / 2) bytes others t u x y n one.2 two.2 is in
    let same = rest.bytes_are in
    let zeros : b ≡ c = one.1 ∙ sym two.1 in
    record { bytes_are = cc; kept_are = rest.kept_are; rest = rest.rest }

pub sparse_once : (bits count n m : ℕ) (t u x y : List ℕ) → IsSparse bits count n t → IsSparse bits count m u → t ++ x ≡ u ++ y → (n ≡ m) × (x ≡ y)
sparse_once bits count n m t u x y one two is =
    let same = keeps_once bits one.bytes two.bytes t u x y (one.counted ∙ sym two.counted) one.keeps two.keeps is in
    (one.valued ∙ ap number_of same.bytes_are ∙ sym two.valued, same.rest)

-- the encoding of a number of no bytes is empty
pub no_sparse_at : (bits count : ℕ) → count ≡ 0 → IsSparse bits count 0 []
no_sparse_at bits count none = record { bytes = []; counted = sym none; keeps = refl; valued = refl }

pub pow_256 : (n : ℕ) → n ≤ 3 → 256 ^ n ≤ 16777216
pow_256 n few = pow-le-pow_right {n = 256} (omega arith) few

-- if the lowest bit of `bits` is not set, the lowest byte of the number is 0 and is not present
pub sparse_zero : (bits count high : ℕ) (t : List ℕ) → 0 < count → bits % 2 ≡ 0 → IsSparse (bits / 2) (count - 1) high t → IsSparse bits count (256 * high) t
sparse_zero bits count high t some even is =
    let n = is.counted in let v = is.valued in
    record { bytes = 0 ∷ is.bytes; counted = omega (arith, n); keeps = inr (even, refl, is.keeps); valued = omega (arith, v) }

pub sparse_one : (bits count low high : ℕ) (t : List ℕ) → 0 < count → bits % 2 ≢ 0 → IsSparse (bits / 2) (count - 1) high t → IsSparse bits count (low + 256 * high) (low ∷ t)
sparse_one bits count low high t some odd is =
    let n = is.counted in let v = is.valued in
    record { bytes = low ∷ is.bytes; counted = omega (arith, n); keeps = inl (omega (arith, odd), t, refl, is.keeps); valued = omega (arith, v) }

-- if the lowest bit of `bits` is not set, the same text encodes the higher bytes of the number
pub sparse_rest : (bits count number : ℕ) (t : List ℕ) → 0 < count → bits % 2 ≡ 0 → IsSparse bits count number t → (high : ℕ) × IsSparse (bits / 2) (count - 1) high t
sparse_rest bits count number t some even is = cases is.bytes is.counted is.keeps
  where
    cases : (bytes : List ℕ) → length bytes ≡ count → Keeps bits bytes t → (high : ℕ) × IsSparse (bits / 2) (count - 1) high t
    cases [] long keeps = absurd (omega (arith, long))
    cases (b ∷ bytes) long (inl one) = absurd (omega (arith, one.0))
    cases (b ∷ bytes) long (inr two) = (number_of bytes, record { bytes = bytes; counted = omega (arith, long); keeps = two.2; valued = refl })

pub sparse_first : (bits count number : ℕ) (t : List ℕ) → 0 < count → bits % 2 ≢ 0 → IsSparse bits count number t → (low high : ℕ) × (more : List ℕ) × (t ≡ low ∷ more) × IsSparse (bits / 2) (count - 1) high more
sparse_first bits count number t some odd is = cases is.bytes is.counted is.keeps
  where
    cases : (bytes : List ℕ) → length bytes ≡ count → Keeps bits bytes t → (low high : ℕ) × (more : List ℕ) × (t ≡ low ∷ more) × IsSparse (bits / 2) (count - 1) high more
    cases [] long keeps = absurd (omega (arith, long))
    cases (b ∷ bytes) long (inl one) = (b, number_of bytes, one.1, one.2, record { bytes = bytes; counted = omega (arith, long); keeps = one.3; valued = refl })
    cases (b ∷ bytes) long (inr two) = absurd (omega (arith, odd, two.0))

pub pow_less : (count : ℕ) → 0 < count → 256 ^ count ≡ 256 * 256 ^ (count - 1)
pow_less zero some = absurd (omega (arith, some))
pow_less (suc n) some = let same : suc n - 1 ≡ n = omega arith in pow-succ' 256 n ∙ ap (λ k. 256 * 256 ^ k) (sym same)

-- ---- copies

cons_parts : (a b : ℕ) (x y : List ℕ) → a ∷ x ≡ b ∷ y → (a ≡ b) × (x ≡ y)
cons_parts a b x y is = (cc, cc)

module _ (command : ℕ) (bytes : List ℕ) where
  copy_is : (o s : ℕ) (t rest : List ℕ) (is : IsCopy o s t) → command ∷ bytes ≡ t ++ rest → (command ≡ is.command) × (bytes ≡ is.offset_text ++ (is.size_text ++ rest))
  copy_is o s t rest is parts = cons_parts command is.command bytes (is.offset_text ++ (is.size_text ++ rest)) (parts ∙ ap (λ l. l ++ rest) is.parts ∙ ap (λ l. is.command ∷ l) (append_assoc is.offset_text is.size_text rest))

  pub no_offset : ((number : ℕ) (text rest : List ℕ) → IsSparse command 4 number text → ¬ (bytes ≡ text ++ rest))
      → (o s : ℕ) (t rest : List ℕ) → IsCopy o s t → ¬ (command ∷ bytes ≡ t ++ rest)
  no_offset none o s t rest is parts =
      let both = copy_is o s t rest is parts in
      none o is.offset_text (is.size_text ++ rest) (subst (λ c. IsSparse c 4 o is.offset_text) (sym both.0) is.from) both.1

  module _ (after front : List ℕ) (offset : ℕ) (from : IsSparse command 4 offset front) (cut : bytes ≡ front ++ after) where
    pub no_count : ((number : ℕ) (text rest : List ℕ) → IsSparse (command / 16) 3 number text → ¬ (after ≡ text ++ rest))
        → (o s : ℕ) (t rest : List ℕ) → IsCopy o s t → ¬ (command ∷ bytes ≡ t ++ rest)
    no_count none o s t rest is parts =
        let both = copy_is o s t rest is parts in
        let other = subst (λ c. IsSparse c 4 o is.offset_text) (sym both.0) is.from in
        let count = subst (λ c. IsSparse (c / 16) 3 is.size_number is.size_text) (sym both.0) is.count in
        let same = sparse_once command 4 offset o front is.offset_text after (is.size_text ++ rest) from other (sym cut ∙ both.1) in
        none is.size_number is.size_text rest count same.1

    pub copy_read : (number size : ℕ) (back rest : List ℕ) → 128 ≤ command → IsSparse (command / 16) 3 number back → after ≡ back ++ rest → size ≡ copy_size number
        → (t : List ℕ) × IsCopy offset size t × (command ∷ bytes ≡ t ++ rest)
    copy_read number size back rest high count parts sized = (
      command ∷ (front ++ back),
      record { command = command; offset_text = front; size_text = back; size_number = number; parts = refl; high = high; from = from; count = count; sized = sized },
      ap (λ l. command ∷ l) (cut ∙ ap (λ l. front ++ l) parts ∙ sym (append_assoc front back rest)),
    )

-- ---- instructions

pub record SameCopies (offset size other_offset other_size : ℕ) (x y : List ℕ) : Type 0 where
  pub offsets : offset ≡ other_offset
  pub sizes : size ≡ other_size
  pub rest : x ≡ y

copies_once : (o s p z : ℕ) (t u x y : List ℕ) → IsCopy o s t → IsCopy p z u → t ++ x ≡ u ++ y → SameCopies o s p z x y
copies_once o s p z t u x y one two is =
    let left = ap (λ l. l ++ x) one.parts ∙ ap (λ l. one.command ∷ l) (append_assoc one.offset_text one.size_text x) in
    let right = ap (λ l. l ++ y) two.parts ∙ ap (λ l. two.command ∷ l) (append_assoc two.offset_text two.size_text y) in
    let whole = sym left ∙ is ∙ right in
    let heads : one.command ≡ two.command = cc in
    let tails : one.offset_text ++ (one.size_text ++ x) ≡ two.offset_text ++ (two.size_text ++ y) = cc in
    let from = subst (λ c. IsSparse c 4 p two.offset_text) (sym heads) two.from in
    let count = subst (λ c. IsSparse (c / 16) 3 two.size_number two.size_text) (sym heads) two.count in
    let front = sparse_once one.command 4 o p one.offset_text two.offset_text (one.size_text ++ x) (two.size_text ++ y) one.from from tails in
    let back = sparse_once (one.command / 16) 3 one.size_number two.size_number one.size_text two.size_text x y one.count count front.1 in
    record { offsets = front.0; sizes = one.sized ∙ ap copy_size back.0 ∙ sym two.sized; rest = back.1 }

pub instructions_once : (i j : Instruction) (t u x y : List ℕ) → IsInstruction i t → IsInstruction j u → t ++ x ≡ u ++ y → (i ≡ j) × (x ≡ y)
instructions_once (Copy o s) (Copy p z) t u x y one two is =
    let same = copies_once o s p z t u x y one two is in
    let offsets = same.offsets in let sizes = same.sizes in (cc, same.rest)
instructions_once (Copy o s) (Insert b) t u x y one two is =
    let whole : one.command ∷ ((one.offset_text ++ one.size_text) ++ x) ≡ length b ∷ (b ++ y) = sym (ap (λ l. l ++ x) one.parts) ∙ is ∙ ap (λ l. l ++ y) two.0 in
    let heads : one.command ≡ length b = cc in
    let high = one.high in
    absurd (omega (arith, heads, high, two.2))
instructions_once (Insert a) (Copy p z) t u x y one two is =
    let whole : length a ∷ (a ++ x) ≡ two.command ∷ ((two.offset_text ++ two.size_text) ++ y) = sym (ap (λ l. l ++ x) one.0) ∙ is ∙ ap (λ l. l ++ y) two.parts in
    let heads : length a ≡ two.command = cc in
    let high = two.high in
    absurd (omega (arith, heads, high, one.2))
instructions_once (Insert a) (Insert b) t u x y one two is =
    let whole : length a ∷ (a ++ x) ≡ length b ∷ (b ++ y) = sym (ap (λ l. l ++ x) one.0) ∙ is ∙ ap (λ l. l ++ y) two.0 in
    let heads : length a ≡ length b = cc in
    let tails : a ++ x ≡ b ++ y = cc in
    let both = same_fronts a b x y heads tails in
    let same = both.0 in (cc, both.1)

-- a text begins with at most one instruction
pub begins_once : (base text : List ℕ) (i j : Instruction) (x y : List ℕ) → BeginsWithInstruction base text i x → BeginsWithInstruction base text j y → (i ≡ j) × (x ≡ y)
begins_once base text i j x y one two = instructions_once i j one.front two.front x y one.spelt two.spelt (sym one.parts ∙ two.parts)

module _ (base text : List ℕ) (command : ℕ) (after : List ℕ) (parts : text ≡ command ∷ after) where
  -- a copy instruction that was read, and whose range is within the base
  pub copy_found : (o s : ℕ) (t rest part : List ℕ) → IsCopy o s t → command ∷ after ≡ t ++ rest → o + s ≤ length base → part ≡ take s (drop o base)
      → (i : Instruction) × BeginsWithInstruction base text i rest × (part ≡ add_instruction base i)
  copy_found o s t rest part is cut fits same = (Copy o s, record { front = t; spelt = is; fits = fits; parts = parts ∙ cut }, same)

  -- a copy instruction whose range extends beyond the base
  pub copy_outside : (o s : ℕ) (t rest : List ℕ) → IsCopy o s t → command ∷ after ≡ t ++ rest → length base < o + s
      → (i : Instruction) (other : List ℕ) → ¬ (BeginsWithInstruction base text i other)
  copy_outside o s t rest is cut out i other b =
      let both = instructions_once i (Copy o s) b.front t other rest b.spelt is (sym b.parts ∙ parts ∙ cut) in
      let fits = subst (Fits base) both.0 b.fits in absurd (omega (arith, out, fits))

  insertion_is : (i : Instruction) (other : List ℕ) → command < 128 → BeginsWithInstruction base text i other → (bytes : List ℕ) × (command ≡ length bytes) × (after ≡ bytes ++ other)
  insertion_is (Copy o s) other low b =
      let is = b.spelt in
      let whole = cons_parts command is.command after ((is.offset_text ++ is.size_text) ++ other) (sym parts ∙ b.parts ∙ ap (λ l. l ++ other) is.parts) in
      let heads = whole.0 in let high = is.high in absurd (omega (arith, heads, high, low))
  insertion_is (Insert bytes) other low b =
      let whole = cons_parts command (length bytes) after (bytes ++ other) (sym parts ∙ b.parts ∙ ap (λ l. l ++ other) b.spelt.0) in
      (bytes, whole.0, whole.1)

  pub insertion_cut : command < 128 → length after < command → (i : Instruction) (other : List ℕ) → ¬ (BeginsWithInstruction base text i other)
  insertion_cut low short i other b =
      let is = insertion_is i other low b in
      let n = is.1 in
      let m = ap length is.2 in
      let k = length-append is.0 other in absurd (omega (arith, short, n, m, k))

  pub insertion_found : command ≢ 0 → command < 128 → (bytes rest : List ℕ) → length bytes ≡ command → after ≡ bytes ++ rest
      → (i : Instruction) × BeginsWithInstruction base text i rest × (bytes ≡ add_instruction base i)
  insertion_found some low bytes rest long cut = (
    Insert bytes,
    record {
      front = length bytes ∷ bytes;
      spelt = (refl, omega (arith, some, long), omega (arith, low, long));
      fits = tt;
      parts = parts ∙ ap (λ n. n ∷ after) (sym long) ∙ ap (λ l. length bytes ∷ l) cut;
    },
    refl,
  )

-- the encoding of an instruction is not empty
instruction_some : (i : Instruction) (t : List ℕ) → IsInstruction i t → 0 < length t
instruction_some (Copy o s) t is = let n = ap length is.parts in omega (arith, n)
instruction_some (Insert b) t is = let n = ap length is.0 in omega (arith, n)

-- ---- following the instructions of a delta

pub record Follows (base commands rest body : List ℕ) (size : ℕ) : Type 0 where
  pub within : length body ≤ size
  pub whole : (is : List Instruction) (more : List ℕ) → Makes base is rest more → (js : List Instruction) × Makes base js commands (body ++ more)
  pub left : (is : List Instruction) (made : List ℕ) → Makes base is commands made → (js : List Instruction) × (more : List ℕ) × Makes base js rest more × (made ≡ body ++ more)

pub begins_following : (base commands : List ℕ) (size : ℕ) → Follows base commands commands [] size
begins_following base commands size = record { within = omega arith; whole = λ is more h. (is, h); left = λ is made h. (is, made, h, refl) }

-- if a text begins with the instruction `i`, any instructions that the text encodes begin with `i`
first_is : (base rest after : List ℕ) (i : Instruction) → BeginsWithInstruction base rest i after
    → (is : List Instruction) (made : List ℕ) → Makes base is rest made → (js : List Instruction) × (more : List ℕ) × Makes base js after more × (made ≡ add_instruction base i ++ more)
first_is base rest after i b [] made h =
    let some = instruction_some i b.front b.spelt in
    let n = ap length (sym h.0 ∙ b.parts) in
    let m = length-append b.front after in absurd (omega (arith, some, n, m))
first_is base rest after i b (j ∷ is) made h =
    let both = begins_once base rest i j after h.0 b h.2 in
    (is, h.1, subst (λ l. Makes base is l h.1) (sym both.1) h.4, h.3 ∙ ap (λ k. add_instruction base k ++ h.1) (sym both.0))

pub follows_more : (base commands rest after body new part : List ℕ) (size : ℕ) (i : Instruction) → Follows base commands rest body size
    → BeginsWithInstruction base rest i after → part ≡ add_instruction base i → length part ≤ size - length body → new ≡ body ++ part → Follows base commands after new size
follows_more base commands rest after body new part size i f b is short grown =
    let inside = f.within in
    let n = ap length grown in
    let m = length-append body part in record {
      within = omega (arith, short, inside, n, m);
      whole = λ is' more h.
          let w = f.whole (i ∷ is') (add_instruction base i ++ more) (after, more, b, refl, h) in
          let same : body ++ (add_instruction base i ++ more) ≡ new ++ more = ap (λ l. body ++ (l ++ more)) (sym is) ∙ sym (append_assoc body part more) ∙ ap (λ l. l ++ more) (sym grown) in
          (w.0, subst (λ l. Makes base w.0 commands l) same w.1);
      left = λ is' made h.
          let l = f.left is' made h in
          let r = first_is base rest after i b l.0 l.1 l.2 in
          (r.0, r.1, r.2, l.3 ∙ ap (λ k. body ++ k) r.3 ∙ ap (λ k. body ++ (k ++ r.1)) (sym is) ∙ sym (append_assoc body part r.1) ∙ ap (λ k. k ++ r.1) (sym grown));
    }

-- if `rest` is not empty and begins with no valid instruction, no instructions are encoded by `commands`
pub follows_none : (base commands rest body : List ℕ) (size : ℕ) → Follows base commands rest body size → (length rest ≡ 0 → ⊥)
    → ((i : Instruction) (after : List ℕ) → ¬ (BeginsWithInstruction base rest i after))
    → (is : List Instruction) (made : List ℕ) → ¬ (Makes base is commands made)
follows_none base commands rest body size f some none is made h =
    let l = f.left is made h in no_makes l.0 l.1 l.2
  where
    no_makes : (js : List Instruction) (more : List ℕ) → ¬ (Makes base js rest more)
    no_makes [] more m = some (ap length m.0)
    no_makes (j ∷ js) more m = none j m.0 m.2

-- if the next instruction adds too many bytes, the instructions do not make an object of `size` bytes
pub follows_long : (base commands rest after body part : List ℕ) (size : ℕ) (i : Instruction) → Follows base commands rest body size
    → BeginsWithInstruction base rest i after → part ≡ add_instruction base i → size - length body < length part
    → (is : List Instruction) (made : List ℕ) → Makes base is commands made → ¬ (length made ≡ size)
follows_long base commands rest after body part size i f b is long js made h n =
    let l = f.left js made h in
    let r = first_is base rest after i b l.0 l.1 l.2 in
    let inside = f.within in
    let k = ap length (l.3 ∙ ap (λ k. body ++ k) r.3 ∙ ap (λ k. body ++ (k ++ r.1)) (sym is)) in
    let one = length-append body (part ++ r.1) in
    let two = length-append part r.1 in
    omega (arith, n, long, inside, k, one, two)

-- if no text remains, the instructions make exactly `body`
pub follows_end : (base commands rest body : List ℕ) (size : ℕ) → Follows base commands rest body size → rest ≡ []
    → (is : List Instruction) × Makes base is commands body
follows_end base commands rest body size f nil =
    let w = f.whole [] [] (nil, refl) in (w.0, subst (λ l. Makes base w.0 commands l) (append-nil body) w.1)

pub follows_other : (base commands rest body : List ℕ) (size : ℕ) → Follows base commands rest body size → rest ≡ []
    → (is : List Instruction) (made : List ℕ) → Makes base is commands made → length made ≡ length body
follows_other base commands rest body size f nil is made h =
    let l = f.left is made h in ended l.0 l.1 l.2 l.3
  where
    ended : (js : List Instruction) (more : List ℕ) → Makes base js rest more → made ≡ body ++ more → length made ≡ length body
    ended [] more m e = ap length e ∙ ap (λ k. length (body ++ k)) m.1 ∙ ap length (append-nil body)
    ended (j ∷ js) more m e =
        let some = instruction_some j m.2.front m.2.spelt in
        let n = ap length (sym m.2.parts ∙ nil) in
        let k = length-append m.2.front m.0 in absurd (omega (arith, some, n, k))

-- ---- a delta

pub no_base_size : (delta : List ℕ) → ((size : ℕ) (text rest : List ℕ) → IsSize text size → ¬ (delta ≡ text ++ rest)) → (base body : List ℕ) → ¬ (IsDelta base delta body)
no_base_size delta none base body d = none (length base) d.base_size (d.size ++ d.commands) d.based d.parts

module _ (base delta after front : List ℕ) (base_number : ℕ) (based : IsSize front base_number) (parts : delta ≡ front ++ after) where
  after_is : (body : List ℕ) (d : IsDelta base delta body) → (base_number ≡ length base) × (after ≡ d.size ++ d.commands)
  after_is body d = sizes_once front d.base_size after (d.size ++ d.commands) base_number (length base) based d.based (sym parts ∙ d.parts)

  pub no_size : ((size : ℕ) (text rest : List ℕ) → IsSize text size → ¬ (after ≡ text ++ rest)) → (body : List ℕ) → ¬ (IsDelta base delta body)
  no_size none body d = none (length body) d.size d.commands d.sized (after_is body d).1

  module _ (commands back : List ℕ) (number : ℕ) (sized : IsSize back number) (cut : after ≡ back ++ commands) where
    pub commands_are : (body : List ℕ) (d : IsDelta base delta body) → (number ≡ length body) × (commands ≡ d.commands)
    commands_are body d = sizes_once back d.size commands d.commands number (length body) sized d.sized (sym cut ∙ (after_is body d).1)

    pub other_size : (most : ℕ) → ((base_number ≡ length base) × (number ≤ most) → ⊥) → (body : List ℕ) → IsDelta base delta body → ¬ (length body ≤ most)
    other_size most none body d short = let n = (commands_are body d).0 in none ((after_is body d).0, omega (arith, n, short))

    pub no_body : ((is : List Instruction) (body : List ℕ) → Makes base is commands body → ¬ (length body ≡ number)) → (body : List ℕ) → ¬ (IsDelta base delta body)
    no_body none body d =
        let both = commands_are body d in
        none d.instructions body (subst (λ l. Makes base d.instructions l body) (sym both.1) d.makes) (sym both.0)

    pub is_delta : 4 ≤ length delta → base_number ≡ length base → (body : List ℕ) (is : List Instruction) → Makes base is commands body → length body ≡ number → IsDelta base delta body
    is_delta least same body is makes long = record {
      least = least;
      base_size = front;
      size = back;
      commands = commands;
      instructions = is;
      parts = parts ∙ ap (λ l. front ++ l) cut;
      based = subst (IsSize front) same based;
      sized = subst (IsSize back) (sym long) sized;
      makes = makes;
    }

    pub follow_delta : {T E : Type 0} (r : Result (Option T) E) (items : T → List ℕ) (most : ℕ) → 4 ≤ length delta → base_number ≡ length base → number ≤ most
        → IfOk r (λ made. MatchOption made ((is : List Instruction) (body : List ℕ) → Makes base is commands body → ¬ (length body ≡ number)) (λ v. (is : List Instruction) × Makes base is commands (items v) × (length (items v) ≡ number)))
        → IfOk r (λ made. MatchOption made ((body : List ℕ) → IsDelta base delta body → ¬ (length body ≤ most)) (λ v. IsDelta base delta (items v) × (length (items v) ≤ most)))
    follow_delta (Err e) items most least same few h = tt
    follow_delta (Ok None) items most least same few h = λ body d short. no_body h body d
    follow_delta (Ok (Some v)) items most least same few h = let n = h.2 in (is_delta least same (items v) h.0 h.1 h.2, omega (arith, n, few))

pub is_nil : (l : List ℕ) → (length l == 0) ≡ true → l ≡ []
is_nil [] h = refl
is_nil (x ∷ l) h = let none = eqb-true (length (x ∷ l)) 0 h in absurd (omega (arith, none))
