-- A text encodes at most one list of events.
use Rattle.std.proofs.Common.{◌≡◌, ◌∙◌, inl, inr, ℕ, ◌<◌, ◌^◌, List, [], ◌∷◌, Ok, Err, refl, sym, ap₂, subst, arith}
use Rattle.std.proofs.lemmas.Fmt.{decimal_injective, decimal_is_IsNumeral}
use Rattle.std.specs.List.{AllZip}
use Rattle.std.specs.Prelude.{codes, decimal}
use Rattle.std.specs.Str.Parse.{IsNumeral}
use Rattle.hex.specs.Hex.{decode_of}
use Rattle.hex.specs.declared.error.FromHexError.TheVariants.{OddLength}
use Rattle.gname.specs.Ids.{IsIdText}
use Rattle.gname.specs.Laws.{TextsSpellOneId}
use Rattle.gobject.specs.Objects.{entry_of, node_of}
use Rattle.gobject.specs.PlainPackText.{ids_of, letter}
use Rattle.gobject.specs.declared.node.Entry.{Entry}
use Rattle.gobject.specs.declared.node.Kind.{Kind}
use Rattle.gobject.specs.declared.node.Kind.TheVariants.{Commit, Tag}
use Rattle.grefs.specs.Refspecs.{IsSpec, OneReading}
use Rattle.gscenario.specs.Laws.{IsSame}
use Rattle.gscenario.specs.ScenarioText.{AreArguments, AreBytes, AreNumberAndCount, AreOneBytes, IsCount, IsEntry}
use Rattle.gscenario.specs.ScenarioText.{IsNumber, IsOneNumber, IsRef, IsLineOf, IsScenario, command_of, command_text}
use Rattle.gscenario.specs.ScenarioText.{words_of}
use Rattle.gscenario.specs.declared.event.Event.{Event}
use Rattle.gscenario.specs.declared.event.Event.TheVariants as event
use Rattle.gscenario.proofs.ArgumentLemmas.{first_same, one_same, two_same}
use Rattle.gscenario.proofs.LineLemmas.{same_command, same_lines, unended_none}

-- ---- single words

number_one : (text : List ℕ) (m n : ℕ) → IsNumber text m → IsNumber text n → m ≡ n
number_one text m n h k = decimal_injective m n (omega (arith, h.1)) (omega (arith, k.1)) (sym h.0 ∙ k.0)

-- the word `all` is not a decimal number
all_no_number : (n : ℕ) → n < 2 ^ 63 → codes "all" ≡ decimal n → ⊥
all_no_number n few is =
    let digits = subst (IsNumeral 10) (sym is) (decimal_is_IsNumeral n (omega (arith, few))).0 in
    let first : 10 < 10 = digits.1.0 in
    absurd (omega (arith, first))

count_one : (text : List ℕ) (m n : ℕ) → IsCount text m → IsCount text n → m ≡ n
count_one text m n (inl h) (inl k) = number_one text m n h k
count_one text m n (inl h) (inr k) = absurd (all_no_number m h.1 (sym k.0 ∙ h.0))
count_one text m n (inr h) (inl k) = absurd (all_no_number n k.1 (sym h.0 ∙ k.0))
count_one text m n (inr h) (inr k) = h.1 ∙ sym k.1

-- the text `-` does not encode bytes in hexadecimal
dash_no_bytes : (text bytes : List ℕ) → text ≡ codes "-" → decode_of text ≡ Ok bytes → ⊥
dash_no_bytes text bytes dash is =
    let odd : Err OddLength ≡ Ok bytes = subst (λ (t : List ℕ). decode_of t ≡ Ok bytes) dash is in
    cc

bytes_one : (text a b : List ℕ) → AreBytes text a → AreBytes text b → a ≡ b
bytes_one text a b (inl h) (inl k) = h.1 ∙ sym k.1
bytes_one text a b (inl h) (inr k) = absurd (dash_no_bytes text b h.0 k.1)
bytes_one text a b (inr h) (inl k) = absurd (dash_no_bytes text a k.0 h.1)
bytes_one text a b (inr h) (inr k) = cc

letter_one : (a b : Kind) → letter a ≡ letter b → a ≡ b
letter_one Commit Commit same = refl
letter_one Tag Tag same = refl
letter_one Commit Tag same = absurd (omega arith)
letter_one Tag Commit same = absurd (omega arith)

-- ---- several words

zip_one : {Y : Type 0} (R : List ℕ → Y → Type 0) → ((x : List ℕ) (y z : Y) → R x y → R x z → y ≡ z)
    → (words : List (List ℕ)) (ys zs : List Y) → AllZip R words ys → AllZip R words zs → ys ≡ zs
zip_one R one [] [] [] h k = refl
zip_one R one [] [] (z ∷ zs) h k = absurd k
zip_one R one [] (y ∷ ys) zs h k = absurd h
zip_one R one (x ∷ words) [] zs h k = absurd h
zip_one R one (x ∷ words) (y ∷ ys) [] h k = absurd k
zip_one {Y} R one (x ∷ words) (y ∷ ys) (z ∷ zs) h k =
    ap₂ (λ (v : Y) (vs : List Y). v ∷ vs) (one x y z h.0 k.0) (zip_one R one words ys zs h.1 k.1)

one_number : (words : List (List ℕ)) (m n : ℕ) → IsOneNumber words m → IsOneNumber words n → m ≡ n
one_number words m n h k =
    number_one h.0 m n h.2 (subst (λ (t : List ℕ). IsNumber t n) (one_same k.0 h.0 words k.1 h.1) k.2)

one_bytes : (words : List (List ℕ)) (a b : List ℕ) → AreOneBytes words a → AreOneBytes words b → a ≡ b
one_bytes words a b h k =
    bytes_one h.0 a b h.2 (subst (λ (t : List ℕ). AreBytes t b) (one_same k.0 h.0 words k.1 h.1) k.2)

number_and_count_one : (words : List (List ℕ)) (m n c d : ℕ) → AreNumberAndCount words m c → AreNumberAndCount words n d
    → (m ≡ n) × (c ≡ d)
number_and_count_one words m n c d h k =
    let same = two_same k.0 k.1 h.0 h.1 words k.2 h.2 in
    let number : m ≡ n = number_one h.0 m n h.3 (subst (λ (t : List ℕ). IsNumber t n) same.0 k.3) in
    let count : c ≡ d = count_one h.1 c d h.4 (subst (λ (t : List ℕ). IsCount t d) same.1 k.4) in
    (number, count)

module _ (specs_law : OneReading) (ids_law : TextsSpellOneId) where
  entry_one : {A : Type 0} (words : List (List ℕ)) (a b : Entry A) → IsEntry words a → IsEntry words b → a ≡ b
  entry_one {A} words a b h k =
      let same = first_same (letter b.node.kind ∷ []) (letter a.node.kind ∷ []) k.0 h.0 words k.1 h.1 in
      let kinds = letter_one b.node.kind a.node.kind (let l : letter b.node.kind ≡ letter a.node.kind = cc in l) in
      let lists : ids_of a ≡ ids_of b =
      zip_one IsIdText ids_law h.0 (ids_of a) (ids_of b) h.2
      (subst (λ (ids : List (List ℕ)). AllZip IsIdText ids (ids_of b)) same.1 k.2) in
      let ids : a.id ≡ b.id = cc in
      let parents : a.node.parents ≡ b.node.parents = cc in
      ap₂ entry_of ids (ap₂ node_of (sym kinds) parents)

  ref_one : (words : List (List ℕ)) (name other a b : List ℕ) → IsRef words name a → IsRef words other b
      → (name ≡ other) × (a ≡ b)
  ref_one words name other a b h k =
      let same = two_same k.0 other h.0 name words k.1 h.1 in
      let ids : a ≡ b = ids_law h.0 a b h.2 (subst (λ (t : List ℕ). IsIdText t b) same.0 k.2) in
      (sym same.1, ids)

  -- ---- lines

  module _ {A : Type 0} where
    arguments_one : (words : List (List ℕ)) (e f : Event A) → command_of e ≡ command_of f → AreArguments e words
        → AreArguments f words → IsSame e f
    arguments_one words (event.Begin a) (event.Begin b) of h k = zip_one IsSpec specs_law words a.items b.items h.1 k.1
    arguments_one words event.Ask event.Ask of h k = tt
    arguments_one words (event.Serve m) (event.Serve n) of h k = one_number words m n h k
    arguments_one words (event.Deliver m c) (event.Deliver n d) of h k = number_and_count_one words m n c d h k
    arguments_one words (event.Forge a) (event.Forge b) of h k = one_bytes words a.items b.items h k
    arguments_one words (event.StrangeRequest a) (event.StrangeRequest b) of h k = one_bytes words a.items b.items h k
    arguments_one words event.Settle event.Settle of h k = tt
    arguments_one words event.RestartClient event.RestartClient of h k = tt
    arguments_one words event.RestartServer event.RestartServer of h k = tt
    arguments_one words (event.ServerAdd a) (event.ServerAdd b) of h k = entry_one words a b h k
    arguments_one words (event.ServerRef name a) (event.ServerRef other b) of h k = ref_one words name other a b h k
    arguments_one words (event.ClientAdd a) (event.ClientAdd b) of h k = entry_one words a b h k
    arguments_one words (event.ClientRef name a) (event.ClientRef other b) of h k = ref_one words name other a b h k
    arguments_one words _ _ of h k = cc

    line_one : (line : List ℕ) (e f : Event A) → IsLineOf line e → IsLineOf line f → IsSame e f
    line_one line e f h k =
        let same = first_same (command_text (command_of e)) (command_text (command_of f)) h.0 k.0 (words_of line) h.1
        k.1 in
        arguments_one h.0 e f (same_command (command_of e) (command_of f) same.0) h.2
        (subst (AreArguments f) (sym same.1) k.2)

    pub scenario_one : (text : List ℕ) (a b : List (Event A)) → IsScenario text a → IsScenario text b
        → AllZip IsSame a b
    scenario_one text [] [] h k = tt
    scenario_one text [] (f ∷ b) h k = absurd (unended_none k.0 k.1 (sym h ∙ k.2))
    scenario_one text (e ∷ a) [] h k = absurd (unended_none h.0 h.1 (sym k ∙ h.2))
    scenario_one text (e ∷ a) (f ∷ b) h k =
        let same = same_lines h.0 k.0 h.1 k.1 h.3 k.3 (sym h.2 ∙ k.2) in (
          line_one h.0 e f h.4 (subst (λ (l : List ℕ). IsLineOf l f) (sym same.0) k.4),
          scenario_one h.1 a b h.5 (subst (λ (t : List ℕ). IsScenario t b) (sym same.1) k.5),
        )
