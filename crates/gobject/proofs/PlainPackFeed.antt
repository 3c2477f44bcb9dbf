-- Feeding a plain pack piece by piece.
use Rattle.std.proofs.Common.{◌≡◌, true, eqb, ℕ, ◌+◌, ◌≤◌, List, [], ◌∷◌, ◌++◌, length, length-append, Vec, MatchResult, arith, Ok, Err, Result, refl, ap, sym, subst, ◌∙◌, append_assoc}
use Rattle.std.proofs.lemmas.Bool.{eqb-true}
use Rattle.std.proofs.lemmas.List.{append-nil}
use Rattle.gobject.specs.declared.fault.IndexFault.{IndexFault}
use Rattle.gobject.specs.declared.node.Entry.{Entry}
use Rattle.gobject.specs.declared.plain_pack.feed.PlainFeed.{PlainFeed}
use Rattle.gname.specs.Laws.{IdTextsAreDigits}
use Rattle.gobject.specs.PlainPackText.{IsPack, IsBadLine, IndexRefuses}
use Rattle.gobject.specs.declared.plain_pack.read.Separator.{Separator}
use Rattle.gobject.specs.declared.plain_pack.read.Next.TheVariants.{Header}
use Rattle.gobject.specs.PlainPackReading.{IsPart, HasRead, Fed}
use Rattle.gobject.specs.steps.PlainPackReading.{separator_byte, line_number, Reads, Finishes, Feeds}
use Rattle.gobject.proofs.PlainPackLines.{IsPart-nil, IsPart-append}
use Rattle.gobject.proofs.PlainPackReading.{IsBadLine-long}

-- a piece that is fed after the bytes `x`
pub feeds_then : {A : Type 0} (a b c : PlainFeed A) (x y : List ℕ) (result : Result (Unit {0}) IndexFault)
    → ((given : List ℕ) → Fed a given → Fed b (given ++ x)) → Feeds b c result y → Feeds a c result (x ++ y)
feeds_then {A} a b c x y (Ok u) h k = λ given fed.
    rw (← append_assoc given x y) (k (given ++ x) (h given fed))
feeds_then {A} a b c x y (Err fault) h k = λ given more fed.
    rw (← append_assoc given x y) (k (given ++ x) more (h given fed))

-- a refused piece is refused with any further bytes
pub feeds_more : {A : Type 0} (a b c : PlainFeed A) (x y : List ℕ) (fault : IndexFault) → Feeds a b (Err fault) x → Feeds a c (Err fault) (x ++ y)
feeds_more {A} a b c x y fault h = λ given more fed.
    let same : (given ++ x) ++ (y ++ more) ≡ (given ++ (x ++ y)) ++ more = simp append_assoc in
    rw (← same) (h given (y ++ more) fed)

-- a text of length 0 is empty
pub nil-of_empty : (text : List ℕ) → eqb (length text) 0 ≡ true → text ≡ []
nil-of_empty [] h = refl
nil-of_empty (byte ∷ text) h = absurd (omega (arith, eqb-true (length (byte ∷ text)) 0 h))

-- a new feed was fed no bytes
pub fed_new : {A : Type 0} (feed : PlainFeed A) → feed.lines.next ≡ Header → feed.lines.entries.items ≡ [] → feed.part.items ≡ [] → Fed feed []
fed_new feed next entries part =
    let nothing : HasRead feed.lines.next feed.lines.entries.items [] =
    rw (next, entries) (record { front = []; opening = []; parts = refl; lines = (refl, refl); opens = refl }) in
    record { before = []; parts = sym part; read = nothing; part = subst IsPart (sym part) IsPart-nil }

-- storing the bytes of an unfinished part in the feed
pub fed_keep : {A : Type 0} (old new : PlainFeed A) (text given : List ℕ) → IsPart text → new.lines ≡ old.lines
    → new.part.items ≡ old.part.items ++ text → Fed old given → Fed new (given ++ text)
fed_keep old new text given is same longer h = record {
  before = h.before;
  parts = ap (λ (b : List ℕ). b ++ text) h.parts ∙ append_assoc h.before old.part.items text ∙ ap (λ (b : List ℕ). h.before ++ b) (sym longer);
  read = rw same h.read;
  part = subst IsPart (sym longer) (IsPart-append old.part.items text h.part is);
}

joined : (before given kept text part : List ℕ) (byte : ℕ) → given ≡ before ++ kept → kept ++ text ≡ part
    → before ++ (part ++ byte ∷ []) ≡ given ++ (text ++ byte ∷ [])
joined before given kept text part byte parts whole =
    let moved : before ++ ((kept ++ text) ++ byte ∷ []) ≡ (before ++ kept) ++ (text ++ byte ∷ []) = simp append_assoc in
    ap (λ (p : List ℕ). before ++ (p ++ byte ∷ [])) (sym whole) ∙ moved ∙ ap (λ (b : List ℕ). b ++ (text ++ byte ∷ [])) (sym parts)

-- reading the stored part, completed by `text`, and its separator
pub feeds_part : {A : Type 0} (old new : PlainFeed A) (text part : List ℕ) (end : Separator) (result : Result (Unit {0}) IndexFault)
    → IsPart text → old.part.items ++ text ≡ part → new.part.items ≡ [] → Reads old.lines new.lines result part end
    → Feeds old new result (text ++ separator_byte end ∷ [])
feeds_part {A} old new text part end (Ok u) is whole none reads = λ given h.
    let read = h.before ++ (part ++ separator_byte end ∷ []) in
    let bytes : read ≡ given ++ (text ++ separator_byte end ∷ []) = joined h.before given old.part.items text part (separator_byte end) h.parts whole in
    record {
      before = read;
      parts = sym bytes ∙ sym (append-nil read) ∙ ap (λ (b : List ℕ). read ++ b) (sym none);
      read = reads h.before (subst IsPart whole (IsPart-append old.part.items text h.part is)) h.read;
      part = subst IsPart (sym none) IsPart-nil;
    }
feeds_part {A} old new text part end (Err fault) is whole none reads = λ given more h.
    let bytes = joined h.before given old.part.items text part (separator_byte end) h.parts whole in
    rw (← bytes) (reads h.before more (subst IsPart whole (IsPart-append old.part.items text h.part is)) h.read)

-- the bytes that were fed are a pack of the returned entries, or they are refused
pub fed_finish : {A : Type 0} (feed : PlainFeed A) (part : List ℕ) (result : Result (Vec (Entry A) A) IndexFault) → part ≡ feed.part.items
    → Finishes feed.lines result part
    → MatchResult result (λ entries. (given : List ℕ) → Fed feed given → IsPack given entries.items)
    (λ fault. (given : List ℕ) → Fed feed given → IndexRefuses A given fault)
fed_finish {A} feed part (Ok entries) whole finishes = λ given h.
    rw (h.parts, ← whole) (finishes h.before (subst IsPart (sym whole) h.part) h.read)
fed_finish {A} feed part (Err fault) whole finishes = λ given h.
    rw (h.parts, ← whole) (finishes h.before (subst IsPart (sym whole) h.part) h.read)

-- a part of more than 64 bytes makes its line bad
pub bad_line_kept : {A : Type 0} → IdTextsAreDigits → (old : PlainFeed A) (text given more : List ℕ) → IsPart text
    → (length old.part.items + length text ≤ 64 → ⊥) → Fed old given
    → IsBadLine A ((given ++ text) ++ more) (line_number old.lines.next (length old.lines.entries.items))
bad_line_kept {A} law old text given more is over h =
    let part = old.part.items ++ text in
    let same : h.before ++ part ≡ given ++ text = sym (append_assoc h.before old.part.items text) ∙ ap (λ (b : List ℕ). b ++ text) (sym h.parts) in
    rw (← same) (IsBadLine-long law old.lines.next old.lines.entries.items h.before part more h.read
    (IsPart-append old.part.items text h.part is) (omega (arith, over, length-append old.part.items text)))

-- ---- the parts of a piece

-- the feed was fed all bytes of the piece before `rest`
pub record FedUpTo {A : Type 0} (old new : PlainFeed A) (piece rest : List ℕ) : Type 0 where
  pub used : List ℕ
  pub parts : piece ≡ used ++ rest
  pub feeds : (given : List ℕ) → Fed old given → Fed new (given ++ used)

next_parts : (piece used rest text after : List ℕ) (byte : ℕ) → piece ≡ used ++ rest → rest ≡ text ++ byte ∷ after
    → piece ≡ (used ++ (text ++ byte ∷ [])) ++ after
next_parts piece used rest text after byte parts split =
    let moved : used ++ (text ++ byte ∷ after) ≡ (used ++ (text ++ byte ∷ [])) ++ after = simp append_assoc in
    parts ∙ ap (λ (r : List ℕ). used ++ r) split ∙ moved

-- feeding one more part and its separator
pub fed_up_to_part : {A : Type 0} (a b c : PlainFeed A) (piece rest text after : List ℕ) (byte : ℕ) (u : Unit {0}) → FedUpTo a b piece rest
    → rest ≡ text ++ byte ∷ after → Feeds b c (Ok u) (text ++ byte ∷ []) → FedUpTo a c piece after
fed_up_to_part a b c piece rest text after byte u h split fed = record {
  used = h.used ++ (text ++ byte ∷ []);
  parts = next_parts piece h.used rest text after byte h.parts split;
  feeds = feeds_then a b c h.used (text ++ byte ∷ []) (Ok u) h.feeds fed;
}

-- if a part is refused, the piece is refused
pub feeds_refused : {A : Type 0} (a b c : PlainFeed A) (piece rest text after : List ℕ) (byte : ℕ) (fault : IndexFault) → FedUpTo a b piece rest
    → rest ≡ text ++ byte ∷ after → Feeds b c (Err fault) (text ++ byte ∷ []) → Feeds a c (Err fault) piece
feeds_refused {A} a b c piece rest text after byte fault h split fed =
    let whole : Feeds a c (Err fault) (h.used ++ (text ++ byte ∷ [])) = feeds_then a b c h.used (text ++ byte ∷ []) (Err fault) h.feeds fed in
    rw (next_parts piece h.used rest text after byte h.parts split) (feeds_more a c c (h.used ++ (text ++ byte ∷ [])) after fault whole)

-- feeding the rest of a piece
pub feeds_rest : {A : Type 0} (a b c : PlainFeed A) (piece rest : List ℕ) (result : Result (Unit {0}) IndexFault) → FedUpTo a b piece rest
    → Feeds b c result rest → Feeds a c result piece
feeds_rest {A} a b c piece rest result h fed =
    rw h.parts (feeds_then a b c h.used rest result h.feeds fed)
