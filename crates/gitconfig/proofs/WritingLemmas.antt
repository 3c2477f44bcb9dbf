-- Writing a configuration part by part.
use Rattle.std.proofs.Common.{◌≡◌, ℕ, ◌<◌, ◌≤◌, ◌==◌, ◌||◌, Bool, true, false, inl, inr, List, [], ◌∷◌, ◌++◌, All, Some, codes, map, refl, ap, sym, subst, ◌∙◌, append_assoc, append-nil, arith}
use Rattle.std.specs.Char.{is_ascii_alphabetic, is_ascii_lowercase, to_ascii_lowercase}
use Rattle.std.specs.List.{list_all}
use Rattle.std.specs.Str.{str_to_ascii_lowercase}
use Rattle.std.proofs.lemmas.Bool.{and_parts, leb-true, or_left, or_right}
use Rattle.std.proofs.lemmas.List.{map-append}
use Rattle.std.proofs.lemmas.List.Elements.{All-cons, All-head, All-nil, All-tail}
use Rattle.std.proofs.lemmas.Str.Ascii.{lowercase_is}
use Rattle.gitconfig.specs.Bytes.{EndsValue, is_blank, is_name_byte, is_section_byte, is_space}
use Rattle.gitconfig.specs.Configs.{Begins, BeginsWithHeader, BeginsWithLetter, BeginsWithVariable, HasItems, HasQuoted, IsConfig, Item, Nothing, Sets, bare_settings, settings_of}
use Rattle.gitconfig.specs.Values.{BeginsWithPiece, BeginsWithValue, HasPieces, IsTrimmed, is_marked, is_special, mark_pieces}
use Rattle.gitconfig.specs.declared.pieces.Piece.{Piece}
use Rattle.gitconfig.specs.declared.pieces.Piece.TheVariants.{Byte, Blank, Quote}
use Rattle.gitconfig.specs.steps.Writing.{AddsByte, AddsItems, AddsQuoted, AddsValue, HoldsItems, is_word}
use Rattle.gitconfig.proofs.ValueLemmas.{marked_append}

-- ---- concatenated parts

holds_both : (a b : List Item) (s t : List ℕ) → HoldsItems a s → HoldsItems b t → HoldsItems (a ++ b) (s ++ t)
holds_both a b s t one two = λ rest more has.
    subst (λ l. HasItems l (a ++ b ++ more)) (sym (append_assoc s t rest))
    (subst (λ l. HasItems (s ++ (t ++ rest)) l) (sym (append_assoc a b more)) (one (t ++ rest) (b ++ more) (two rest more has)))

pub adds_both : (a b : List Item) (x y z : List ℕ) → AddsItems a x y → AddsItems b y z → AddsItems (a ++ b) x z
adds_both a b x y z one two = record {
  text = one.text ++ two.text;
  after = two.after ∙ ap (λ l. l ++ two.text) one.after ∙ append_assoc x one.text two.text;
  holds = holds_both a b one.text two.text one.holds two.holds;
}

-- ---- words

lower_in : (b : ℕ) → is_ascii_lowercase b ≡ true → 97 ≤ b
lower_in b is = leb-true 97 b (and_parts _ _ is).0

each_of : (p q : ℕ → Bool) → ((b : ℕ) → p b ≡ true → q b ≡ true) → (xs : List ℕ) → list_all p xs ≡ true → All (λ b. q b ≡ true) xs
each_of p q leads [] all = All-nil (λ b. q b ≡ true)
each_of p q leads (b ∷ xs) all =
    let both : (p b ≡ true) × (list_all p xs ≡ true) = and_parts (p b) (list_all p xs) all in
    All-cons (λ b. q b ≡ true) b xs (leads b both.0) (each_of p q leads xs both.1)

is_name : (b : ℕ) → is_ascii_lowercase b ≡ true → is_name_byte b ≡ true
unfolding is_name_byte
is_name b is = or_left _ (b == 45) (or_right _ (is_ascii_lowercase b) is)

is_section : (b : ℕ) → is_ascii_lowercase b ≡ true → is_section_byte b ≡ true
unfolding is_section_byte
is_section b is = or_left _ (b == 46) (is_name b is)

lower_stays : (word : List ℕ) → list_all is_ascii_lowercase word ≡ true → str_to_ascii_lowercase word ≡ word
lower_stays [] all = refl
lower_stays (b ∷ word) all =
    let both : (is_ascii_lowercase b ≡ true) × (list_all is_ascii_lowercase word ≡ true) = and_parts (is_ascii_lowercase b) (list_all is_ascii_lowercase word) all in
    let high : 97 ≤ b = lower_in b both.0 in
    let first : to_ascii_lowercase b ≡ b = (lowercase_is b).2 (omega arith) in
    let rest : str_to_ascii_lowercase word ≡ word = lower_stays word both.1 in
    cc

all_lower : (word : List ℕ) → is_word word ≡ true → list_all is_ascii_lowercase word ≡ true
all_lower [] is = refl
all_lower (b ∷ word) is = is

some_word : (word : List ℕ) → is_word word ≡ true → word ≡ [] → ⊥
some_word [] is none = absurd (cc)
some_word (b ∷ word) is none = cc

letter_first : (word : List ℕ) → is_word word ≡ true → BeginsWithLetter word
letter_first [] is = absurd (cc)
letter_first (b ∷ word) is =
    let both : (is_ascii_lowercase b ≡ true) × (list_all is_ascii_lowercase word ≡ true) = and_parts (is_ascii_lowercase b) (list_all is_ascii_lowercase word) is in
    (b, word, refl, or_right _ (is_ascii_lowercase b) both.0)

-- ---- headers

header_of : (word rest : List ℕ) → is_word word ≡ true → BeginsWithHeader (91 ∷ (word ++ 93 ∷ rest)) word rest
header_of word rest is = record {
  name = word;
  after = 93 ∷ rest;
  parts = refl;
  named = some_word word is;
  each = each_of is_ascii_lowercase is_section_byte is_section word (all_lower word is);
  ends = inl (refl, sym (lower_stays word (all_lower word is)));
}

quoted_of : (word rest : List ℕ) → list_all is_ascii_lowercase word ≡ true → HasQuoted (word ++ 34 ∷ rest) word rest
quoted_of [] rest all = refl
quoted_of (b ∷ word) rest all =
    let both : (is_ascii_lowercase b ≡ true) × (list_all is_ascii_lowercase word ≡ true) = and_parts (is_ascii_lowercase b) (list_all is_ascii_lowercase word) all in
    let high : 97 ≤ b = lower_in b both.0 in
    (word ++ 34 ∷ rest, ((λ same. omega (arith, same)), inl (refl, (λ same. omega (arith, same)), (λ same. omega (arith, same)))), quoted_of word rest both.1)

subheader_of : (word sub rest : List ℕ) → is_word word ≡ true → is_word sub ≡ true → BeginsWithHeader (91 ∷ (word ++ 32 ∷ 34 ∷ (sub ++ 34 ∷ 93 ∷ rest))) (word ++ 46 ∷ sub) rest
subheader_of word sub rest is subis = record {
  name = word;
  after = 32 ∷ 34 ∷ (sub ++ 34 ∷ 93 ∷ rest);
  parts = refl;
  named = some_word word is;
  each = each_of is_ascii_lowercase is_section_byte is_section word (all_lower word is);
  ends = inr (
    sub,
    record {
      blanks = 32 ∷ [];
      quoted = sub ++ 34 ∷ 93 ∷ rest;
      parts = refl;
      some = λ none. cc;
      blank = All-cons (λ b. is_blank b ≡ true) 32 [] refl (All-nil (λ b. is_blank b ≡ true));
      has = quoted_of sub (93 ∷ rest) (all_lower sub subis);
    },
    ap (λ l. l ++ 46 ∷ sub) (sym (lower_stays word (all_lower word is))),
  );
}

-- a byte of white space is an item
space_item : (b : ℕ) (rest : List ℕ) (more : List Item) → is_space b ≡ true → HasItems rest more → HasItems (b ∷ rest) (Nothing ∷ more)
space_item b rest more space has = (rest, inl (b, refl, space), has)

pub adds_section : (word old new : List ℕ) → is_word word ≡ true → new ≡ old ++ 91 ∷ [] ++ word ++ 93 ∷ 10 ∷ [] → AddsItems (Begins word ∷ Nothing ∷ []) old new
adds_section word old new is same = record {
  text = 91 ∷ [] ++ word ++ 93 ∷ 10 ∷ [];
  after = same ∙ append_assoc (old ++ 91 ∷ []) word (93 ∷ 10 ∷ []) ∙ append_assoc old (91 ∷ []) (word ++ 93 ∷ 10 ∷ []);
  holds = λ rest more has. (
    10 ∷ rest,
    subst (λ l. BeginsWithHeader (91 ∷ l) word (10 ∷ rest)) (sym (append_assoc word (93 ∷ 10 ∷ []) rest)) (header_of word (10 ∷ rest) is),
    space_item 10 rest more refl has,
  );
}

pub adds_subsection : (word sub old new : List ℕ) → is_word word ≡ true → is_word sub ≡ true → new ≡ old ++ 91 ∷ [] ++ word ++ 32 ∷ 34 ∷ [] ++ sub ++ 34 ∷ 93 ∷ 10 ∷ [] → AddsItems (Begins (word ++ 46 ∷ sub) ∷ Nothing ∷ []) old new
adds_subsection word sub old new is subis same =
    let text : List ℕ = 91 ∷ (word ++ 32 ∷ 34 ∷ (sub ++ 34 ∷ 93 ∷ 10 ∷ [])) in record {
      text = text;
      after = same ∙ simp append_assoc;
      holds = λ rest more has. (
        10 ∷ rest,
        subst (λ l. BeginsWithHeader l (word ++ 46 ∷ sub) (10 ∷ rest))
            (ap (λ l. 91 ∷ l) (ap (λ l. word ++ 32 ∷ 34 ∷ l) (sym (append_assoc sub (34 ∷ 93 ∷ 10 ∷ []) rest)) ∙ sym (append_assoc word (32 ∷ 34 ∷ (sub ++ 34 ∷ 93 ∷ 10 ∷ [])) rest)))
            (subheader_of word sub (10 ∷ rest) is subis),
        space_item 10 rest more refl has,
      );
    }

-- ---- values

-- the bytes of a value, none of which is marked as an unquoted blank
plain_marks : List ℕ → List (ℕ × Bool)
plain_marks value = map (λ b. (b, false)) value

plain_first : (value : List ℕ) (b : ℕ × Bool) (more : List (ℕ × Bool)) → plain_marks value ≡ b ∷ more → b.1 ≡ false
unfolding plain_marks
plain_first [] b more is = cc
plain_first (x ∷ value) b more is = let same : (x, false) ≡ b = cc in subst (λ y. y.1 ≡ false) same refl

plain_each : (value : List ℕ) → All (λ (b : ℕ × Bool). b.1 ≡ false) (plain_marks value)
unfolding plain_marks
plain_each [] = All-nil (λ (b : ℕ × Bool). b.1 ≡ false)
plain_each (x ∷ value) = All-cons (λ (b : ℕ × Bool). b.1 ≡ false) (x, false) (plain_marks value) refl (plain_each value)

each_last : {X : Type 0} (P : X → Type 0) (more : List X) (b : X) → All P (more ++ b ∷ []) → P b
each_last P [] b each = All-head P b [] each
each_last P (x ∷ more) b each = each_last P more b (All-tail P x (more ++ b ∷ []) each)

plain_bytes : (value : List ℕ) → value ≡ map (λ (b : ℕ × Bool). b.0) (plain_marks value)
unfolding plain_marks
plain_bytes [] = refl
plain_bytes (x ∷ value) = ap (λ l. x ∷ l) (plain_bytes value)

trimmed : (value : List ℕ) → IsTrimmed ((32, true) ∷ plain_marks value) value
trimmed value = record {
  before = (32, true) ∷ [];
  kept = plain_marks value;
  after = [];
  parts = ap (λ l. (32, true) ∷ l) (sym (append-nil (plain_marks value)));
  blank_before = All-cons is_marked (32, true) [] refl (All-nil is_marked);
  blank_after = All-nil is_marked;
  first = plain_first value;
  last = λ b more is. each_last (λ (x : ℕ × Bool). x.1 ≡ false) more b (subst (All (λ (x : ℕ × Bool). x.1 ≡ false)) is (plain_each value));
  is = plain_bytes value;
}

byte_marks : (value : List ℕ) → mark_pieces (map Byte value) ≡ plain_marks value
unfolding plain_marks
byte_marks [] = refl
byte_marks (b ∷ value) = ap (λ l. (b, false) ∷ l) (byte_marks value)

-- a value without special bytes, written unchanged
plain_pieces : (value rest : List ℕ) → All (λ b. is_special false b ≡ false) value → EndsValue rest → HasPieces false (value ++ rest) (map Byte value) rest
plain_pieces [] rest each ends = (refl, refl, ends)
plain_pieces (b ∷ value) rest each ends =
    (value ++ rest, inl (refl, All-head (λ c. is_special false c ≡ false) b value each), plain_pieces value rest (All-tail (λ c. is_special false c ≡ false) b value each) ends)

pub adds_plain : (value old new : List ℕ) → All (λ b. is_special false b ≡ false) value → new ≡ old ++ value → AddsValue value old new
adds_plain value old new each is = (
  value,
  is,
  λ rest ends. (
    Blank 32 ∷ map Byte value,
    (value ++ rest, (refl, refl, refl), plain_pieces value rest each ends),
    subst (λ m. IsTrimmed ((32, true) ∷ m) value) (sym (byte_marks value)) (trimmed value),
  ),
)

-- a value written in quotes
pub adds_in_quotes : (value old between new : List ℕ) → AddsQuoted value (old ++ 34 ∷ []) between → new ≡ between ++ 34 ∷ [] → AddsValue value old new
adds_in_quotes value old between new quoted is =
    let text : List ℕ = 34 ∷ (quoted.0 ++ 34 ∷ []) in (
      text,
      is ∙ ap (λ l. l ++ 34 ∷ []) quoted.1 ∙ append_assoc (old ++ 34 ∷ []) quoted.0 (34 ∷ []) ∙ append_assoc old (34 ∷ []) (quoted.0 ++ 34 ∷ []),
      λ rest ends.
          let pieces : List Piece = map Byte value ++ Quote ∷ [] in
          let has : HasPieces true (quoted.0 ++ 34 ∷ rest) pieces rest = quoted.2 (34 ∷ rest) (Quote ∷ []) rest (rest, refl, (refl, refl, ends)) in
          let marks : mark_pieces pieces ≡ plain_marks value = marked_append (map Byte value) (Quote ∷ []) ∙ append-nil (mark_pieces (map Byte value)) ∙ byte_marks value in (
            Blank 32 ∷ Quote ∷ pieces,
            (34 ∷ (quoted.0 ++ 34 ∷ [] ++ rest), (refl, refl, refl), (quoted.0 ++ 34 ∷ [] ++ rest, refl, subst (λ l. HasPieces true l pieces rest) (sym (append_assoc quoted.0 (34 ∷ []) rest)) has)),
            subst (λ m. IsTrimmed ((32, true) ∷ m) value) (sym marks) (trimmed value),
          ),
    )

pub quoted_none : (text : List ℕ) → AddsQuoted [] text text
quoted_none text = ([], sym (append-nil text), λ rest more end has. has)

pub quoted_more : (done : List ℕ) (b : ℕ) (old between new : List ℕ) → AddsQuoted done old between → AddsByte b between new → AddsQuoted (done ++ b ∷ []) old new
quoted_more done b old between new adds byte = (
  adds.0 ++ byte.0,
  byte.1 ∙ ap (λ l. l ++ byte.0) adds.1 ∙ append_assoc old adds.0 byte.0,
  λ rest more end has.
      subst (λ l. HasPieces true l (map Byte (done ++ b ∷ []) ++ more) end) (sym (append_assoc adds.0 byte.0 rest))
      (subst (λ p. HasPieces true (adds.0 ++ (byte.0 ++ rest)) p end)
      (sym (ap (λ l. l ++ more) (map-append Byte done (b ∷ [])) ∙ append_assoc (map Byte done) (Byte b ∷ []) more))
      (adds.2 (byte.0 ++ rest) (Byte b ∷ more) end (rest, byte.2 rest, has))),
)

-- ---- variables

variable_of : (name value text rest : List ℕ) → is_word name ≡ true → ((after : List ℕ) → EndsValue after → BeginsWithValue (32 ∷ text ++ after) value after) → BeginsWithVariable (name ++ 32 ∷ 61 ∷ 32 ∷ (text ++ 10 ∷ rest)) name (Some value) (10 ∷ rest)
variable_of name value text rest is valued = record {
  spelt = name;
  blanks = 32 ∷ [];
  after = 61 ∷ 32 ∷ (text ++ 10 ∷ rest);
  parts = refl;
  letter = letter_first name is;
  each = each_of is_ascii_lowercase is_name_byte is_name name (all_lower name is);
  named = sym (lower_stays name (all_lower name is));
  blank = All-cons (λ b. is_blank b ≡ true) 32 [] refl (All-nil (λ b. is_blank b ≡ true));
  has = (32 ∷ (text ++ 10 ∷ rest), refl, valued (10 ∷ rest) refl);
}

pub adds_setting : (name value old between new : List ℕ) → is_word name ≡ true → AddsValue value (old ++ 9 ∷ [] ++ name ++ 32 ∷ 61 ∷ 32 ∷ []) between → new ≡ between ++ 10 ∷ [] → AddsItems (Nothing ∷ Sets name (Some value) ∷ Nothing ∷ []) old new
adds_setting name value old between new is adds same =
    let t : List ℕ = adds.0 in
    let text : List ℕ = 9 ∷ (name ++ 32 ∷ 61 ∷ 32 ∷ (t ++ 10 ∷ [])) in record {
      text = text;
      after = same ∙ ap (λ l. l ++ 10 ∷ []) adds.1 ∙ simp append_assoc;
      holds = λ rest more has. (
        name ++ 32 ∷ 61 ∷ 32 ∷ (t ++ 10 ∷ []) ++ rest,
        inl (9, refl, refl),
        (
          10 ∷ rest,
          subst (λ l. BeginsWithVariable l name (Some value) (10 ∷ rest))
              (ap (λ l. name ++ 32 ∷ 61 ∷ 32 ∷ l) (sym (append_assoc t (10 ∷ []) rest)) ∙ sym (append_assoc name (32 ∷ 61 ∷ 32 ∷ (t ++ 10 ∷ [])) rest))
              (variable_of name value t rest is adds.2),
          space_item 10 rest more refl has,
        ),
      );
    }

-- ---- the whole configuration

pub is_config : (items : List Item) (text : List ℕ) → AddsItems items [] text → IsConfig text (settings_of [] items)
is_config items text adds = record {
  items = items;
  has = subst (λ l. HasItems l items) (sym adds.after) (subst (λ l. HasItems l items) (append-nil adds.text) (subst (HasItems (adds.text ++ [])) (append-nil items) (adds.holds [] [] refl)));
  is = refl;
}
