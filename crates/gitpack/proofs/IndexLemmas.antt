-- The pack index, and the header and trailer of a pack.
use Rattle.std.proofs.Common.{◌≡◌, ℕ, zero, suc, ◌+◌, ◌-◌, ◌<◌, ◌≤◌, ◌≢◌, Bool, true, false, cond, refl, set, eq-eqb, eqb-true, List, [], ◌∷◌, ◌++◌, length, take, drop, get_or, nat_eq, nat_le, sym, ap, subst, ◌∙◌, append_assoc, add-one, arith}
use Rattle.std.specs.Int.{w32, to_be_bytes, from_be_bytes}
use Rattle.std.specs.Cmp.Lexicographic.{pointwise}
use Rattle.std.specs.Prelude.{count_by, slice_index}
use Rattle.std.proofs.lemmas.Bool.{false≢true}
use Rattle.std.proofs.lemmas.Bool.Decides.{nat_tests}
use Rattle.std.proofs.lemmas.List.{get_or-set_same, get_or-set_other, length-take}
use Rattle.std.proofs.lemmas.List.Sums.{count_by-le-length, count_by_more_no, count_by_more_yes, sum_by-cons}
use Rattle.std.proofs.lemmas.Slice.Eq.{bytes_eq-Decides}
use Rattle.std.proofs.lemmas.Nat.{be_bytes_4}
use Rattle.std.proofs.Math.Seq.{take-add}
use Rattle.std.proofs.lemmas.List.{append-nil, length-append, take-append-drop, take-append-le}
use Rattle.gname.specs.Ids.{Id}
use Rattle.gitpack.specs.Indexes.{begins_within, fan_out, ids_within, index_body}
use Rattle.gitpack.specs.declared.index.IndexEntry.{IndexEntry}
use Rattle.gitpack.specs.steps.FirstBytes.{begins_with, ids_below, ids_beginning}

-- ---- the header and trailer of a pack

pub cut_at : (n : ℕ) (bytes front back : List ℕ) → front ≡ take n bytes → back ≡ drop n bytes → bytes ≡ front ++ back
cut_at n bytes front back is rest = sym (take-append-drop n bytes) ∙ ap (λ l. l ++ drop n bytes) (sym is) ∙ ap (λ l. front ++ l) (sym rest)

-- after a piece arrives, hashing `to - from` more bytes extends the hashed bytes to all bytes except the last twenty
pub hashed_more : (old piece new : List ℕ) (from to : ℕ) → new ≡ old ++ piece → from ≡ length old - 20 → to ≡ length new - 20
    → take from old ++ take (to - from) (drop from new) ≡ take to new
hashed_more old piece new from to all is end =
    let count = ap length all ∙ length-append old piece in
    let front : take from old ≡ take from new = sym (ap (take from) all ∙ take-append-le from old piece (omega (arith, is))) in
    let sum : from + (to - from) ≡ to = omega (arith, is, end, count) in
    ap (λ l. l ++ take (to - from) (drop from new)) front ∙ sym (take-add from (to - from) new) ∙ ap (λ n. take n new) sum

below_take : (n : ℕ) (l : List ℕ) → ((i : ℕ) → get_or l i 0 < 256) → (i : ℕ) → get_or (take n l) i 0 < 256
below_take zero l h i = omega arith
below_take (suc n) [] h i = omega arith
below_take (suc n) (b ∷ l) h zero = h zero
below_take (suc n) (b ∷ l) h (suc i) = below_take n l (λ j. h (suc j)) i

below_drop : (n : ℕ) (l : List ℕ) → ((i : ℕ) → get_or l i 0 < 256) → (i : ℕ) → get_or (drop n l) i 0 < 256
below_drop zero l h i = h i
below_drop (suc n) [] h i = omega arith
below_drop (suc n) (b ∷ l) h i = below_drop n l (λ j. h (suc j)) i

pub header_read : (sign pack after count rest : List ℕ) (n : ℕ) → pointwise nat_eq (take 8 pack) sign ≡ true → after ≡ drop 8 pack → count ≡ take 4 after → rest ≡ drop 4 after
    → length count ≡ 4 → ((i : ℕ) → get_or pack i 0 < 256) → n ≡ from_be_bytes w32 count → pack ≡ sign ++ (to_be_bytes w32 n ++ rest)
header_read sign pack after count rest n signed tail four other long below value =
    let front = (bytes_eq-Decides (take 8 pack) sign).0 signed in
    let whole = cut_at 8 pack sign after (sym front) tail in
    let inner = cut_at 4 after count rest four other in
    let small : (i : ℕ) → get_or count i 0 < 256 = λ i. subst (λ l. get_or l i 0 < 256) (sym (four ∙ ap (take 4) tail)) (below_take 4 (drop 8 pack) (below_drop 8 pack below) i) in
    let bytes = be_bytes_4 count n long small value in
    whole ∙ ap (λ l. sign ++ l) (inner ∙ ap (λ l. l ++ rest) (sym bytes))

-- ---- the fan-out table

pub fan_out-none : (out : List ℕ) (entries : List IndexEntry) → out ≡ out ++ fan_out 0 entries
unfolding fan_out
fan_out-none out entries = sym (append-nil out)

pub fan_out-more : (start out new : List ℕ) (byte count : ℕ) (entries : List IndexEntry) → out ≡ start ++ fan_out byte entries → count ≡ ids_within byte entries
    → new ≡ out ++ to_be_bytes w32 count → new ≡ start ++ fan_out (byte + 1) entries
unfolding fan_out
fan_out-more start out new byte count entries is counted grown =
    let one : fan_out (suc byte) entries ≡ fan_out (byte + 1) entries = ap (λ n. fan_out n entries) (sym (add-one byte)) in
    grown ∙ ap (λ l. l ++ to_be_bytes w32 count) is ∙ append_assoc start (fan_out byte entries) (to_be_bytes w32 count)
    ∙ ap (λ n. start ++ (fan_out byte entries ++ to_be_bytes w32 n)) counted ∙ ap (λ l. start ++ l) one

one_more : (x byte : ℕ) → cond (nat_le x byte) 1 0 + cond (nat_eq x (suc byte)) 1 0 ≡ cond (nat_le x (suc byte)) 1 0
one_more x byte = grind (arith, nat_tests)

least : (x : ℕ) → ◌≡◌ {A = ℕ} (cond (nat_eq x 0) 1 0) (cond (nat_le x 0) 1 0)
least x = grind (arith, nat_tests)

-- the number of entries that satisfy a test, one entry at a time
pub counted-cons : (test : IndexEntry → Bool) (e : IndexEntry) (entries : List IndexEntry) → count_by test (e ∷ entries) ≡ cond (test e) 1 0 + count_by test entries
counted-cons test e entries = sum_by-cons (λ x. cond (test x) 1 0) e entries

with_least : (entries : List IndexEntry) → ids_beginning 0 entries ≡ ids_within 0 entries
with_least [] = refl
with_least (e ∷ entries) =
    omega (arith, counted-cons (begins_with 0) e entries, counted-cons (begins_within 0) e entries, least (slice_index e.id 0), with_least entries)

with_next : (byte : ℕ) (entries : List IndexEntry) → ids_within byte entries + ids_beginning (suc byte) entries ≡ ids_within (suc byte) entries
with_next byte [] = refl
with_next byte (e ∷ entries) =
    omega (arith, counted-cons (begins_within byte) e entries, counted-cons (begins_with (suc byte)) e entries, counted-cons (begins_within (suc byte)) e entries, one_more (slice_index e.id 0) byte, with_next byte entries)

-- the ids that begin with a lower byte or with this byte are the ids whose first byte is at most this byte
pub ids_up_to : (byte : ℕ) (entries : List IndexEntry) → ids_below byte entries + ids_beginning byte entries ≡ ids_within byte entries
ids_up_to zero entries = omega (arith, with_least entries)
ids_up_to (suc byte) entries = with_next byte entries

pub ids_below-next : (byte : ℕ) (entries : List IndexEntry) → ids_below (byte + 1) entries ≡ ids_within byte entries
ids_below-next byte entries = ap (λ n. ids_below n entries) (add-one byte)

-- each count is at most the number of entries
pub ids_beginning-few : (byte i : ℕ) (entries : List IndexEntry) → ids_beginning byte (take i entries) ≤ length entries
ids_beginning-few byte i entries = omega (arith, count_by-le-length (begins_with byte) (take i entries), length-take i entries)

pub ids_within-few : (byte : ℕ) (entries : List IndexEntry) → ids_within byte entries ≤ length entries
ids_within-few byte entries = count_by-le-length (begins_within byte) entries

-- the counts after one more entry
module _ (counts : List ℕ) (entries : List IndexEntry) (i first byte : ℕ) (e : IndexEntry) (room : first < length counts) (inside : i < length entries) (at : e ≡ get_or entries i e) (is : first ≡ slice_index e.id 0) where
  grown : List ℕ
  grown = set counts first (get_or counts first 0 + 1)

  counted-by : (b : Bool) → nat_eq first byte ≡ b → get_or counts byte 0 ≡ ids_beginning byte (take i entries) → get_or grown byte 0 ≡ ids_beginning byte (take (i + 1) entries)
  unfolding grown
  counted-by true h counted =
      let same : first ≡ byte = eqb-true first byte h in
      let begins : begins_with byte (get_or entries i e) ≡ true = ap (begins_with byte) (sym at) ∙ ap (λ n. nat_eq n byte) (sym is) ∙ h in
      let here : get_or grown byte 0 ≡ get_or counts first 0 + 1 = ap (λ n. get_or grown n 0) (sym same) ∙ get_or-set_same counts first (get_or counts first 0 + 1) 0 room in
      here ∙ ap (λ n. get_or counts n 0 + 1) same ∙ ap (λ n. n + 1) counted ∙ sym (count_by_more_yes (begins_with byte) entries i e inside begins)
  counted-by false h counted =
      let begins : begins_with byte (get_or entries i e) ≡ false = ap (begins_with byte) (sym at) ∙ ap (λ n. nat_eq n byte) (sym is) ∙ h in
      let differ : byte ≢ first = λ same. false≢true (sym h ∙ eq-eqb first byte (sym same)) in
      get_or-set_other counts first byte (get_or counts first 0 + 1) 0 differ ∙ counted ∙ sym (count_by_more_no (begins_with byte) entries i e inside begins)

  pub counted-more : get_or counts byte 0 ≡ ids_beginning byte (take i entries) → get_or (set counts first (get_or counts first 0 + 1)) byte 0 ≡ ids_beginning byte (take (i + 1) entries)
  unfolding grown
  counted-more counted = counted-by (nat_eq first byte) refl counted

-- ---- the text of an index

abbrev pub body_at : List IndexEntry → Id → List ℕ
body_at entries checksum = index_body (record { entries = entries; checksum = checksum })
