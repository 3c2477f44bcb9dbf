-- Reading a value piece by piece.
use Rattle.std.proofs.Common.{◌≡◌, ◌⊎◌, inl, inr, ℕ, ◌+◌, ◌<◌, ◌≤◌, Bool, true, false, List, [], ◌∷◌, ◌++◌, All, length, map, take, refl, ap, sym, subst, ◌∙◌, append_assoc, append-nil, arith, length-append}
use Rattle.std.proofs.lemmas.List.{length-map, map-append}
use Rattle.std.proofs.lemmas.List.Elements.{All-nil, All-push}
use Rattle.gitconfig.specs.Values.{BeginsWithPiece, HasPieces, IsTrimmed, is_marked, is_quoted_after, mark_pieces}
use Rattle.gitconfig.specs.Bytes.{EndsValue}
use Rattle.gitconfig.specs.declared.pieces.Piece.{Piece}
use Rattle.gitconfig.specs.declared.pieces.Piece.TheVariants.{Byte, Blank, Quote, Continuation}
use Rattle.gitconfig.specs.declared.reading.ValueText.{ValueText}
use Rattle.gitconfig.specs.steps.Readings.{IsValueSoFar, Pushes}

-- ---- lists

some_last : {X : Type 0} (xs : List X) (x : X) → [] ≡ xs ++ x ∷ [] → ⊥
some_last [] x is = cc
some_last (y ∷ xs) x is = cc

-- a list has only one last element
pub last_once : {X : Type 0} (xs ys : List X) (a b : X) → xs ++ a ∷ [] ≡ ys ++ b ∷ [] → a ≡ b
last_once [] [] a b is = cc
last_once [] (y ∷ ys) a b is = let rest : [] ≡ ys ++ b ∷ [] = cc in absurd (some_last ys b rest)
last_once (x ∷ xs) [] a b is = let rest : [] ≡ xs ++ a ∷ [] = cc in absurd (some_last xs a rest)
last_once (x ∷ xs) (y ∷ ys) a b is = let rest : xs ++ a ∷ [] ≡ ys ++ b ∷ [] = cc in last_once xs ys a b rest

-- the marked bytes of concatenated lists of pieces are the concatenated marked bytes
pub marked_append : (pieces more : List Piece) → mark_pieces (pieces ++ more) ≡ mark_pieces pieces ++ mark_pieces more
marked_append [] more = refl
marked_append (Byte b ∷ pieces) more = ap (λ l. (b, false) ∷ l) (marked_append pieces more)
marked_append (Blank b ∷ pieces) more = ap (λ l. (b, true) ∷ l) (marked_append pieces more)
marked_append (Quote ∷ pieces) more = marked_append pieces more
marked_append (Continuation ∷ pieces) more = marked_append pieces more

-- ---- pieces

pub pieces_more : (quoted : Bool) (text rest next after : List ℕ) (done more : List Piece) (piece : Piece) → ((later : List Piece) (end : List ℕ) → HasPieces quoted rest later end → HasPieces false text (done ++ later) end) → BeginsWithPiece quoted rest piece next → HasPieces (is_quoted_after quoted piece) next more after → HasPieces false text ((done ++ piece ∷ []) ++ more) after
pieces_more quoted text rest next after done more piece so_far begins has =
    subst (λ l. HasPieces false text l after) (sym (append_assoc done (piece ∷ []) more)) (so_far (piece ∷ more) after (next, begins, has))

pub pieces_end : (quoted : Bool) (text rest : List ℕ) (done : List Piece) → ((later : List Piece) (end : List ℕ) → HasPieces quoted rest later end → HasPieces false text (done ++ later) end) → quoted ≡ false → EndsValue rest → HasPieces false text done rest
pieces_end quoted text rest done so_far out ends =
    subst (λ l. HasPieces false text l rest) (append-nil done) (so_far [] rest (refl, out, ends))

-- ---- a partly read value

abbrev bytes_of : List (ℕ × Bool) → List ℕ
bytes_of marks = map (λ b. b.0) marks

-- the marked bytes of a partly read value can be replaced by an equal list
reshaped : {A : Type 0} (marks more : List (ℕ × Bool)) (new : ValueText A) → marks ≡ more → IsValueSoFar more new → IsValueSoFar marks new
reshaped marks more new is has = subst (λ m. IsValueSoFar m new) (sym is) has

-- the start of a value: no bytes have been read
pub value_start : {A : Type 0} (value : ValueText A) → value.bytes.items ≡ [] → value.kept ≡ 0 → IsValueSoFar [] value
value_start value none zero = record {
  before = [];
  kept = [];
  after = [];
  parts = refl;
  blank_before = All-nil is_marked;
  blank_after = All-nil is_marked;
  first = λ b more is. cc;
  last = λ b more is. absurd (some_last more b is);
  started = λ is. refl;
  has = none;
  count = zero;
}

-- after one more byte, the value still does not begin with an unquoted blank
first_stays : (kept after : List (ℕ × Bool)) (b : ℕ) → ((x : ℕ × Bool) (more : List (ℕ × Bool)) → kept ≡ x ∷ more → x.1 ≡ false) → (kept ≡ [] → after ≡ []) → (x : ℕ × Bool) (more : List (ℕ × Bool)) → kept ++ after ++ (b, false) ∷ [] ≡ x ∷ more → x.1 ≡ false
first_stays [] after b first started x more is =
    let none : after ≡ [] = started refl in
    let same : (b, false) ∷ [] ≡ x ∷ more = sym (ap (λ l. l ++ (b, false) ∷ []) none) ∙ is in
    let one : (b, false) ≡ x = cc in
    subst (λ y. y.1 ≡ false) one refl
first_stays (y ∷ kept) after b first started x more is =
    let one : y ≡ x = cc in
    subst (λ z. z.1 ≡ false) one (first y kept refl)

push_byte : {A : Type 0} (marks : List (ℕ × Bool)) (b : ℕ) (old new : ValueText A) → new.bytes.items ≡ old.bytes.items ++ b ∷ [] → new.kept ≡ length new.bytes.items → IsValueSoFar marks old → IsValueSoFar (marks ++ (b, false) ∷ []) new
push_byte marks b old new bytes count has =
    let one : List (ℕ × Bool) = (b, false) ∷ [] in
    let all : List (ℕ × Bool) = has.kept ++ has.after ++ one in
    let is : new.bytes.items ≡ bytes_of all = bytes ∙ ap (λ l. l ++ b ∷ []) has.has ∙ sym (map-append (λ (x : ℕ × Bool). x.0) (has.kept ++ has.after) one) in
    record {
      before = has.before;
      kept = all;
      after = [];
      parts = ap (λ l. l ++ one) has.parts ∙ append_assoc has.before (has.kept ++ has.after) one ∙ ap (λ l. has.before ++ l) (sym (append-nil all));
      blank_before = has.blank_before;
      blank_after = All-nil is_marked;
      first = first_stays has.kept has.after b has.first has.started;
      last = λ x more same. subst (λ y. y.1 ≡ false) (last_once (has.kept ++ has.after) more (b, false) x same) refl;
      started = λ none. refl;
      has = is ∙ ap bytes_of (sym (append-nil all));
      count = count ∙ ap length is ∙ length-map all (λ (x : ℕ × Bool). x.0);
    }

-- if the value has no bytes, both `kept` and `after` are empty
none_kept : (kept after : List (ℕ × Bool)) → [] ≡ bytes_of (kept ++ after) → (kept ≡ []) × (after ≡ [])
none_kept [] [] is = (refl, refl)
none_kept [] (x ∷ after) is = cc
none_kept (x ∷ kept) after is = cc

push_first_blank : {A : Type 0} (marks : List (ℕ × Bool)) (b : ℕ) (value : ValueText A) → value.bytes.items ≡ [] → IsValueSoFar marks value → IsValueSoFar (marks ++ (b, true) ∷ []) value
push_first_blank marks b value none has =
    let one : List (ℕ × Bool) = (b, true) ∷ [] in
    let no : (has.kept ≡ []) × (has.after ≡ []) = none_kept has.kept has.after (sym none ∙ has.has) in
    let is : marks ≡ has.before = has.parts ∙ ap (λ l. has.before ++ (l ++ has.after)) no.0 ∙ ap (λ l. has.before ++ l) no.1 ∙ append-nil has.before in
    record {
      before = has.before ++ one;
      kept = [];
      after = [];
      parts = ap (λ l. l ++ one) is ∙ sym (append-nil (has.before ++ one));
      blank_before = All-push is_marked has.before (b, true) has.blank_before refl;
      blank_after = All-nil is_marked;
      first = λ x more same. cc;
      last = λ x more same. absurd (some_last more x same);
      started = λ same. refl;
      has = none;
      count = has.count ∙ ap length no.0;
    }

push_blank : {A : Type 0} (marks : List (ℕ × Bool)) (b : ℕ) (old new : ValueText A) → (old.bytes.items ≡ [] → ⊥) → new.bytes.items ≡ old.bytes.items ++ b ∷ [] → new.kept ≡ old.kept → IsValueSoFar marks old → IsValueSoFar (marks ++ (b, true) ∷ []) new
push_blank marks b old new some bytes count has =
    let one : List (ℕ × Bool) = (b, true) ∷ [] in
    record {
      before = has.before;
      kept = has.kept;
      after = has.after ++ one;
      parts = ap (λ l. l ++ one) has.parts ∙ append_assoc has.before (has.kept ++ has.after) one ∙ ap (λ l. has.before ++ l) (append_assoc has.kept has.after one);
      blank_before = has.blank_before;
      blank_after = All-push is_marked has.after (b, true) has.blank_after refl;
      first = has.first;
      last = has.last;
      started = λ none. absurd (some (has.has ∙ ap (λ l. bytes_of (l ++ has.after)) none ∙ ap bytes_of (has.started none)));
      has = bytes ∙ ap (λ l. l ++ b ∷ []) has.has ∙ sym (map-append (λ (x : ℕ × Bool). x.0) (has.kept ++ has.after) one) ∙ ap bytes_of (append_assoc has.kept has.after one);
      count = count ∙ has.count;
    }

push_none : {A : Type 0} (marks : List (ℕ × Bool)) (old new : ValueText A) → new.bytes.items ≡ old.bytes.items → new.kept ≡ old.kept → IsValueSoFar marks old → IsValueSoFar marks new
push_none marks old new bytes count has = record {
  before = has.before;
  kept = has.kept;
  after = has.after;
  parts = has.parts;
  blank_before = has.blank_before;
  blank_after = has.blank_after;
  first = has.first;
  last = has.last;
  started = has.started;
  has = bytes ∙ has.has;
  count = count ∙ has.count;
}

-- the value after one more piece
pub pushed : {A : Type 0} (pieces : List Piece) (piece : Piece) (old new : ValueText A) → Pushes piece old new → IsValueSoFar (mark_pieces pieces) old → IsValueSoFar (mark_pieces (pieces ++ piece ∷ [])) new
pushed pieces (Byte b) old new adds has = reshaped (mark_pieces (pieces ++ Byte b ∷ [])) (mark_pieces pieces ++ (b, false) ∷ []) new (marked_append pieces (Byte b ∷ [])) (push_byte (mark_pieces pieces) b old new adds.0 adds.1 has)
pushed pieces (Blank b) old new (kept, inl none) has = reshaped (mark_pieces (pieces ++ Blank b ∷ [])) (mark_pieces pieces ++ (b, true) ∷ []) new (marked_append pieces (Blank b ∷ [])) (push_none (mark_pieces pieces ++ (b, true) ∷ []) old new (none.1 ∙ sym none.0) kept (push_first_blank (mark_pieces pieces) b old none.0 has))
pushed pieces (Blank b) old new (kept, inr some) has = reshaped (mark_pieces (pieces ++ Blank b ∷ [])) (mark_pieces pieces ++ (b, true) ∷ []) new (marked_append pieces (Blank b ∷ [])) (push_blank (mark_pieces pieces) b old new some.0 some.1 kept has)
pushed pieces Quote old new same has = reshaped (mark_pieces (pieces ++ Quote ∷ [])) (mark_pieces pieces) new (marked_append pieces (Quote ∷ []) ∙ append-nil (mark_pieces pieces)) (push_none (mark_pieces pieces) old new same.1 same.0 has)
pushed pieces Continuation old new same has = reshaped (mark_pieces (pieces ++ Continuation ∷ [])) (mark_pieces pieces) new (marked_append pieces (Continuation ∷ []) ∙ append-nil (mark_pieces pieces)) (push_none (mark_pieces pieces) old new same.1 same.0 has)

-- the first `length kept` bytes of a value are the bytes of `kept`
took : (kept after : List (ℕ × Bool)) → take (length kept) (bytes_of (kept ++ after)) ≡ bytes_of kept
took [] after = refl
took (x ∷ kept) after = ap (λ l. x.0 ∷ l) (took kept after)

pub value_end : {A : Type 0} (marks : List (ℕ × Bool)) (value : ValueText A) (text : List ℕ) → IsValueSoFar marks value → text ≡ take value.kept value.bytes.items → IsTrimmed marks text
value_end marks value text has is = record {
  before = has.before;
  kept = has.kept;
  after = has.after;
  parts = has.parts;
  blank_before = has.blank_before;
  blank_after = has.blank_after;
  first = has.first;
  last = has.last;
  is = is ∙ ap (λ n. take n value.bytes.items) has.count ∙ ap (λ l. take (length has.kept) l) has.has ∙ took has.kept has.after;
}
