-- The names of object types, and the texts of objects.
use Rattle.std.proofs.Common.{◌≡◌, ◌≢◌, ℕ, ◌+◌, ◌<◌, ◌≤◌, ◌^◌, ◌%◌, List, [], ◌∷◌, ◌++◌, length, length-append, get_or, All, refl, sym, ap, ◌∙◌, arith}
use Rattle.std.specs.Prelude.{decimal}
use Rattle.std.proofs.lemmas.Fmt.{decimal_by_steps}
use Rattle.std.proofs.lemmas.List.Elements.{All-append, All-cons, All-nil}
use Rattle.gitobject.specs.Laws.{TextsAreOne}
use Rattle.gitobject.specs.Naming.{object_text}
use Rattle.gitobject.specs.Types.{type_name}
use Rattle.gitobject.specs.declared.types.ObjectType.{ObjectType}
use Rattle.gitobject.specs.declared.types.ObjectType.TheVariants.{Commit, Tree, Blob, Tag}
use Rattle.gitobject.proofs.Cutting.{cut_once}

-- the second letter of a type's name, which differs for each type
second : ObjectType → ℕ
second Commit = 111
second Tree = 114
second Blob = 108
second Tag = 97

second_is : (kind : ObjectType) → get_or (type_name kind) 1 0 ≡ second kind
unfolding second
second_is Commit = refl
second_is Tree = refl
second_is Blob = refl
second_is Tag = refl

seconds_differ : (kind other : ObjectType) → second kind ≡ second other → kind ≡ other
unfolding second
seconds_differ Commit Commit e = refl
seconds_differ Commit Tree e = absurd (omega (arith, e))
seconds_differ Commit Blob e = absurd (omega (arith, e))
seconds_differ Commit Tag e = absurd (omega (arith, e))
seconds_differ Tree Commit e = absurd (omega (arith, e))
seconds_differ Tree Tree e = refl
seconds_differ Tree Blob e = absurd (omega (arith, e))
seconds_differ Tree Tag e = absurd (omega (arith, e))
seconds_differ Blob Commit e = absurd (omega (arith, e))
seconds_differ Blob Tree e = absurd (omega (arith, e))
seconds_differ Blob Blob e = refl
seconds_differ Blob Tag e = absurd (omega (arith, e))
seconds_differ Tag Commit e = absurd (omega (arith, e))
seconds_differ Tag Tree e = absurd (omega (arith, e))
seconds_differ Tag Blob e = absurd (omega (arith, e))
seconds_differ Tag Tag e = refl

pub word_once : (kind other : ObjectType) → type_name kind ≡ type_name other → kind ≡ other
word_once kind other is = seconds_differ kind other (sym (second_is kind) ∙ ap (λ l. get_or l 1 0) is ∙ second_is other)

-- the name of a type has no byte `s` less than the letter `a`, such as a space or LF
module _ (s : ℕ) (low : s < 97) where
  none : All (λ (b : ℕ). b ≢ s) []
  none = All-nil (λ (b : ℕ). b ≢ s)

  more : (b : ℕ) (bs : List ℕ) → 97 ≤ b → All (λ b. b ≢ s) bs → All (λ b. b ≢ s) (b ∷ bs)
  more b bs h each = All-cons (λ b. b ≢ s) b bs (λ e. omega (arith, e)) each

  pub word_clean : (kind : ObjectType) → All (λ b. b ≢ s) (type_name kind)
  word_clean Commit = more 99 (111 ∷ 109 ∷ 109 ∷ 105 ∷ 116 ∷ []) (omega arith) (more 111 (109 ∷ 109 ∷ 105 ∷ 116 ∷ []) (omega arith) (more 109 (109 ∷ 105 ∷ 116 ∷ []) (omega arith) (more 109 (105 ∷ 116 ∷ []) (omega arith) (more 105 (116 ∷ []) (omega arith) (more 116 [] (omega arith) none)))))
  word_clean Tree = more 116 (114 ∷ 101 ∷ 101 ∷ []) (omega arith) (more 114 (101 ∷ 101 ∷ []) (omega arith) (more 101 (101 ∷ []) (omega arith) (more 101 [] (omega arith) none)))
  word_clean Blob = more 98 (108 ∷ 111 ∷ 98 ∷ []) (omega arith) (more 108 (111 ∷ 98 ∷ []) (omega arith) (more 111 (98 ∷ []) (omega arith) (more 98 [] (omega arith) none)))
  word_clean Tag = more 116 (97 ∷ 103 ∷ []) (omega arith) (more 97 (103 ∷ []) (omega arith) (more 103 [] (omega arith) none))

-- the decimal digits of a number contain no NUL
pub digits_clean : (n : ℕ) → n < 2 ^ 64 → All (λ b. b ≢ 0) (decimal n)
digits_clean n small =
    decimal_by_steps (λ n ds. All (λ b. b ≢ 0) ds)
    (λ n h. All-cons (λ b. b ≢ 0) (48 + n) [] (λ e. omega (arith, e)) (All-nil (λ b. b ≢ 0)))
    (λ n ds h each. All-append (λ b. b ≢ 0) ds ((48 + n % 10) ∷ []) each (All-cons (λ b. b ≢ 0) (48 + n % 10) [] (λ e. omega (arith, e)) (All-nil (λ b. b ≢ 0))))
    n small

-- a text encodes at most one object of fewer than 2^64 bytes
pub text_once : TextsAreOne
text_once kind other body others one two is =
    let words = cut_once 32 (type_name kind) (type_name other) (decimal (length body) ++ 0 ∷ body) (decimal (length others) ++ 0 ∷ others) (word_clean 32 (omega arith) kind) (word_clean 32 (omega arith) other) is in
    let bodies = cut_once 0 (decimal (length body)) (decimal (length others)) body others (digits_clean (length body) one) (digits_clean (length others) two) words.1 in
    (word_once kind other words.0, bodies.1)

-- ---- the text of a loose object

module _ (text word after : List ℕ) (clean : All (λ b. b ≢ 32) word) (parts : text ≡ word ++ 32 ∷ after) where
  head_is : (kind : ObjectType) (body : List ℕ) → text ≡ object_text kind body → (word ≡ type_name kind) × (after ≡ decimal (length body) ++ 0 ∷ body)
  head_is kind body is = cut_once 32 word (type_name kind) after (decimal (length body) ++ 0 ∷ body) clean (word_clean 32 (omega arith) kind) (sym parts ∙ is)

  pub no_type : ((kind : ObjectType) → ¬ (word ≡ type_name kind)) → (kind : ObjectType) (body : List ℕ) → ¬ (text ≡ object_text kind body)
  no_type none kind body is = none kind (head_is kind body is).0

  short_body : (kind : ObjectType) (body : List ℕ) → length text < 2 ^ 64 → text ≡ object_text kind body → length body < 2 ^ 64
  short_body kind body short is =
      let n = ap length is in
      let s = length-append (type_name kind) (32 ∷ (decimal (length body) ++ 0 ∷ body)) in
      let t = length-append (decimal (length body)) (0 ∷ body) in
      omega (arith, n, s, t)

  pub other_length : (digits left : List ℕ) → All (λ b. b ≢ 0) digits → after ≡ digits ++ 0 ∷ left → length text < 2 ^ 64 → ¬ (digits ≡ decimal (length left))
      → (kind : ObjectType) (body : List ℕ) → ¬ (text ≡ object_text kind body)
  other_length digits left whole cut short none kind body is =
      let own = digits_clean (length body) (short_body kind body short is) in
      let both = cut_once 0 digits (decimal (length body)) left body whole own (sym cut ∙ (head_is kind body is).1) in
      none (both.0 ∙ ap (λ l. decimal (length l)) (sym both.1))
