-- The returned bytes of a pack, and the bytes that remain.
use Rattle.std.proofs.Common.{◌≡◌, ℕ, ◌+◌, ◌≤◌, true, false, IsTrue, List, [], ◌++◌, length, take, drop, refl, ap, subst, sym, ◌∙◌, arith, rules}
use Rattle.std.proofs.lemmas.List.{append_assoc, append-nil, drop_all, take-append-drop, take-append-le, take-take, length-take-le, length-append, drop-drop}
use Rattle.std.proofs.Math.Seq.{take-append-add}
use Rattle.sha1.specs.Sha1.{Holds, sha1}
use Rattle.gitpack.specs.Packs.{AddsEntry, pack_header}
use Rattle.gitpack.specs.declared.entry.EntryForm.{EntryForm}
use Rattle.gitrepository.specs.Packs.{HasPut, IsWholePack}
use Rattle.gitrepository.specs.Parts.{GoesOn, IsGoing, IsGivenWhole}
use Rattle.gitrepository.specs.declared.outgoing.Outgoing.{Outgoing}
use Rattle.gitrepository.proofs.PutLemmas.{HasPut_more, HasPut_none, IsWholePack_of}

none_left : (given : ℕ) (bytes before text : List ℕ) → length bytes ≤ given → before ++ drop given bytes ≡ text → before ≡ text
none_left given bytes before text h e = sym (append-nil before) ∙ ap (λ l. before ++ l) (sym (drop_all given bytes h)) ∙ e

-- a new pack: the header is built, and no bytes are returned
pub going_new : {A : Type 0} (count : ℕ) (pack : Outgoing A) → pack.count ≡ count → IsTrue pack.is_between_entries → pack.has_trailer ≡ false → pack.given ≡ 0 → pack.put ≡ 0
    → pack.bytes.items ≡ pack_header count → Holds pack.sum pack.bytes.items → IsGoing count pack []
going_new count pack counted whole running none zero header holds =
    record {
      counted = counted;
      whole = whole;
      text = pack.bytes.items;
      entries = subst (λ n. HasPut count n pack.bytes.items) (sym zero) (HasPut_none count pack.bytes.items header);
      going = λ _. (holds, ap (λ n. drop n pack.bytes.items) none);
      over = λ is. absurd (search (is, running, rules));
    }

-- once all built bytes are returned, adding an entry preserves `IsGoing` for the same returned bytes
pub going_put : {A : Type 0} (old new : Outgoing A) (form : EntryForm) (size : ℕ) (stream start hashed : List ℕ) → old.has_trailer ≡ false
    → length old.bytes.items ≤ old.given → IsTrue new.is_between_entries → new.has_trailer ≡ false → new.given ≡ 0 → new.count ≡ old.count
    → new.put ≡ old.put + 1 → start ≡ [] → AddsEntry form size stream start new.bytes.items
    → hashed ≡ new.bytes.items → ((m : List ℕ) → Holds old.sum m → Holds new.sum (m ++ hashed)) → GoesOn old new
going_put old new form size stream start hashed running none whole still zero count put fresh adds same sums = λ total given is.
    let parts = is.going running in
    let all = none_left old.given old.bytes.items given is.text none parts.1 in
    let added : AddsEntry form size stream is.text (is.text ++ new.bytes.items) =
    record { text = adds.text; entry = adds.entry; after = ap (λ l. is.text ++ l) (adds.after ∙ ap (λ l. l ++ adds.text) fresh) } in
    record {
      counted = count ∙ is.counted;
      whole = whole;
      text = is.text ++ new.bytes.items;
      entries = rw put (HasPut_more total old.put size form stream is.text (is.text ++ new.bytes.items) is.entries added);
      going = λ _. (subst (λ l. Holds new.sum (is.text ++ l)) same (sums is.text parts.0), rw (zero, all) refl);
      over = λ is. absurd (search (is, still, rules));
    }

-- once all built bytes are returned, adding the trailer preserves `IsGoing` for the same returned bytes
pub going_finish : {A : Type 0} (old new : Outgoing A) → old.has_trailer ≡ false → old.put ≡ old.count
    → length old.bytes.items ≤ old.given → IsTrue new.is_between_entries → new.has_trailer ≡ true → new.given ≡ 0 → new.count ≡ old.count
    → new.put ≡ old.put → ((m : List ℕ) → Holds old.sum m → new.bytes.items ≡ sha1 m) → GoesOn old new
going_finish old new running many none whole ended zero count put trailer = λ total given is.
    let parts = is.going running in
    let all = none_left old.given old.bytes.items given is.text none parts.1 in
    record {
      counted = count ∙ is.counted;
      whole = whole;
      text = is.text;
      entries = rw put is.entries;
      going = λ is. absurd (search (is, ended, rules));
      over = λ _. (put ∙ many ∙ is.counted, rw (zero, all, trailer is.text parts.0) refl);
    }

given_more : (given count : ℕ) (bytes before out : List ℕ) → out ≡ take count (drop given bytes)
    → (before ++ out) ++ drop (given + count) bytes ≡ before ++ drop given bytes
given_more given count bytes before out e =
    append_assoc before out (drop (given + count) bytes)
    ∙ ap (λ l. before ++ (l ++ drop (given + count) bytes)) e
    ∙ ap (λ l. before ++ (take count (drop given bytes) ++ l)) (sym (drop-drop count given bytes))
    ∙ ap (λ l. before ++ l) (take-append-drop count (drop given bytes))

-- after `count` bytes are copied to the front of a buffer, the first `count` bytes of the buffer are these bytes
pub front : (count : ℕ) (copied bytes others : List ℕ) → length copied ≡ count → copied ≡ take count bytes → take count (copied ++ others) ≡ take count bytes
front count copied bytes others long same =
    take-append-le count copied others (omega (arith, long)) ∙ ap (take count) same ∙ take-take count count bytes (omega arith)

-- if the next `count` bytes are returned as `out`, the returned bytes are `before ++ out`
pub going_given : {A : Type 0} (old new : Outgoing A) (count : ℕ) (out : List ℕ) → new.is_between_entries ≡ old.is_between_entries → new.has_trailer ≡ old.has_trailer
    → new.count ≡ old.count → new.put ≡ old.put → new.sum ≡ old.sum → new.bytes.items ≡ old.bytes.items
    → new.given ≡ old.given + count → out ≡ take count (drop old.given old.bytes.items)
    → (total : ℕ) (before : List ℕ) → IsGoing total old before → IsGoing total new (before ++ out)
going_given old new count out whole over many put sum bytes given e total before is =
    let rest : (before ++ out) ++ drop new.given new.bytes.items ≡ before ++ drop old.given old.bytes.items =
    rw (bytes, given) (given_more old.given count old.bytes.items before out e) in
    record {
      counted = many ∙ is.counted;
      whole = rw whole is.whole;
      text = is.text;
      entries = rw put is.entries;
      going = λ running. let parts = is.going (sym over ∙ running) in (rw sum parts.0, rest ∙ parts.1);
      over = λ ended. let parts = is.over (sym over ∙ ended) in (rw put parts.0, rest ∙ parts.1);
    }

-- if the whole pack was returned, the returned bytes are a whole pack
pub whole_given : {A : Type 0} (pack : Outgoing A) (count : ℕ) (before : List ℕ) → IsGivenWhole pack → IsGoing count pack before
    → IsWholePack count before
whole_given pack count before none is =
    let parts = is.over none.0 in
    IsWholePack_of count pack.put is.text before parts.0 is.entries (none_left pack.given pack.bytes.items before _ none.1 parts.1)

-- copying `count` bytes of `more` to a buffer, after its first `filled` bytes, adds them to the returned bytes
pub given_step : (filled count : ℕ) (out more post before : List ℕ) → filled ≤ length out → count ≤ length more
    → (before ++ take filled out) ++ take count more ≡ before ++ take (filled + count) (take filled out ++ (more ++ post))
given_step filled count out more post before h fits =
    let long : length (take filled out) ≡ filled = length-take-le filled out h in
    append_assoc before (take filled out) (take count more)
    ∙ ap (λ l. before ++ (take filled out ++ l)) (sym (take-append-le count more post fits))
    ∙ ap (λ l. before ++ l) (sym (take-append-add (take filled out) (more ++ post) count) ∙ ap (λ n. take (n + count) (take filled out ++ (more ++ post))) long)

pub long_enough : (filled count : ℕ) (out more post : List ℕ) → filled ≤ length out → count ≤ length more
    → filled + count ≤ length (take filled out ++ (more ++ post))
long_enough filled count out more post h fits =
    omega (arith, length-append (take filled out) (more ++ post), length-append more post, length-take-le filled out h, fits)

-- if the whole pack was returned, and the last call returned no bytes, the bytes returned before are a whole pack
pub ended : {A : Type 0} (pack : Outgoing A) (total count : ℕ) (before out : List ℕ) → count ≡ 0 → IsGivenWhole pack
    → IsGoing total pack (before ++ take count out) → IsWholePack total before
ended pack total count before out zero none is =
    subst (IsWholePack total) (ap (λ n. before ++ take n out) zero ∙ append-nil before)
    (whole_given pack total (before ++ take count out) none is)
