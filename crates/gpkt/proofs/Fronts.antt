-- Reading a packet: the bytes determine the outcome, and nonempty bytes begin with a packet or are rejected.
use Rattle.std.proofs.Common.{◌≡◌, ℕ, zero, suc, ◌+◌, ◌<◌, ◌≤◌, ◌⊎◌, List, [], ◌∷◌, ◌++◌, length, take, drop, Option, Some, None, Result, Ok, Err, refl, sym, ap, ◌∙◌, inl, inr, arith, length-append, length-take-le, take-append-drop, append_assoc}
use Rattle.gpkt.specs.Laws.{IsOfBytes, OneFault, OneOutcome, SpellsAtFront, EveryFront}
use Rattle.gpkt.specs.PacketReading.{NoPacket, Gives}
use Rattle.gpkt.specs.Packets.{Packet, Data, Flush, Delim, ResponseEnd, number_of, max_packet}
use Rattle.gpkt.specs.declared.fault.PacketFault.{PacketFault}
use Rattle.gpkt.specs.declared.fault.PacketFault.TheVariants.{BadDigits, Reserved, TooLong, Truncated, Io, Failed, Memory}
use Rattle.gpkt.proofs.Readings.{one_reading_lem, refused_lem, has_four_bytes_lem, some_value}

-- ---- one outcome

-- two numbers that the same digits encode are equal
same_number : (digits : List ℕ) (a b : ℕ) → number_of digits ≡ Some a → number_of digits ≡ Some b → a ≡ b
same_number digits a b p q = some_value a b (sym p ∙ q)

no_number : {X : Type 0} (digits : List ℕ) (n : ℕ) → number_of digits ≡ None → number_of digits ≡ Some n → X
no_number digits n p q = cc (p, q)

-- the bytes that remain unread after a fault that the bytes cause
abbrev rest_after : PacketFault → List ℕ → List ℕ
rest_after Truncated old = []
rest_after _ old = drop 4 old

fault_of_bytes : (fault : PacketFault) (old new : List ℕ) → Gives old new (Err fault) → IsOfBytes (Err fault)
    → NoPacket fault old × (new ≡ rest_after fault old)
fault_of_bytes Io old new h fits = absurd (fits.0 refl)
fault_of_bytes Failed old new h fits = absurd (fits.1 refl)
fault_of_bytes Memory old new h fits = absurd h
fault_of_bytes _ old new h fits = h

some_bytes : (fault : PacketFault) (bytes : List ℕ) → NoPacket fault bytes → 0 < length bytes
some_bytes BadDigits bytes h = omega (arith, h.0)
some_bytes Reserved bytes h = omega (arith, h.0)
some_bytes TooLong bytes h = omega (arith, h.1.0)
some_bytes Truncated bytes h = h.0
some_bytes _ bytes h = absurd h

no_bytes : {X : Type 0} (bytes : List ℕ) → 0 < length bytes → bytes ≡ [] → X
no_bytes bytes some none = let len : length bytes ≡ 0 = ap length none in absurd (omega arith)

line_has_bytes : (line : Packet) (old front new : List ℕ) → old ≡ front ++ new → 4 ≤ length front → 0 < length old
line_has_bytes line old front new split four =
    let all : length old ≡ length front + length new = ap length split ∙ length-append front new in omega arith

-- if bytes with four valid digits are truncated, the digits announce more bytes than there are, but not too many for a
-- packet
cut_number : (bytes : List ℕ) (n : ℕ) → NoPacket Truncated bytes → 4 ≤ length bytes → number_of (take 4 bytes) ≡ Some n
    → (n ≤ max_packet) × (length bytes < n)
cut_number bytes n h four number =
    elim h.1 as (λ _. (n ≤ max_packet) × (length bytes < n)) [
      | inl few ↦ absurd (omega arith)
      | inr cut ↦
          let same : n ≡ cut.0 = same_number (take 4 bytes) n cut.0 number cut.1.1 in
          let fits = cut.2 in
          let short = cut.3 in (omega arith, omega arith)
    ]

cut_digits : {X : Type 0} (bytes : List ℕ) → NoPacket Truncated bytes → 4 ≤ length bytes → number_of (take 4 bytes) ≡ None → X
cut_digits {X} bytes h four none =
    elim h.1 as (λ _. X) [
      | inl few ↦ absurd (omega arith)
      | inr cut ↦ no_number (take 4 bytes) cut.0 none cut.1.1
    ]

cut_reserved : {X : Type 0} (bytes : List ℕ) → NoPacket Truncated bytes → NoPacket Reserved bytes → X
cut_reserved bytes h k = let p = cut_number bytes 3 h k.0 k.1 in let short = p.1 in let four = k.0 in absurd (omega arith)

cut_too_long : {X : Type 0} (bytes : List ℕ) → NoPacket Truncated bytes → NoPacket TooLong bytes → X
cut_too_long bytes h k = let p = cut_number bytes k.0 h k.1.0 k.1.1 in let fits = p.0 in let over = k.2 in absurd (omega arith)

reserved_too_long : {X : Type 0} (bytes : List ℕ) → NoPacket Reserved bytes → NoPacket TooLong bytes → X
reserved_too_long bytes h k =
    let same : 3 ≡ k.0 = same_number (take 4 bytes) 3 k.0 h.1 k.1.1 in
    let over = k.2 in absurd (omega arith)

pub one_fault_lem : OneFault
one_fault_lem Io other bytes h k = absurd h
one_fault_lem Failed other bytes h k = absurd h
one_fault_lem Memory other bytes h k = absurd h
one_fault_lem BadDigits BadDigits bytes h k = refl
one_fault_lem BadDigits Reserved bytes h k = no_number (take 4 bytes) 3 h.1 k.1
one_fault_lem BadDigits TooLong bytes h k = no_number (take 4 bytes) k.0 h.1 k.1.1
one_fault_lem BadDigits Truncated bytes h k = cut_digits bytes k h.0 h.1
one_fault_lem Reserved BadDigits bytes h k = no_number (take 4 bytes) 3 k.1 h.1
one_fault_lem Reserved Reserved bytes h k = refl
one_fault_lem Reserved TooLong bytes h k = reserved_too_long bytes h k
one_fault_lem Reserved Truncated bytes h k = cut_reserved bytes k h
one_fault_lem TooLong BadDigits bytes h k = no_number (take 4 bytes) h.0 k.1 h.1.1
one_fault_lem TooLong Reserved bytes h k = reserved_too_long bytes k h
one_fault_lem TooLong TooLong bytes h k = refl
one_fault_lem TooLong Truncated bytes h k = cut_too_long bytes k h
one_fault_lem Truncated BadDigits bytes h k = cut_digits bytes h k.0 k.1
one_fault_lem Truncated Reserved bytes h k = cut_reserved bytes h k
one_fault_lem Truncated TooLong bytes h k = cut_too_long bytes h k
one_fault_lem Truncated Truncated bytes h k = refl
one_fault_lem _ _ bytes h k = absurd k

abbrev refused : PacketFault → Result (Option Packet) PacketFault
refused fault = Err fault

same_fault : (old new after : List ℕ) (fault other : PacketFault) → fault ≡ other → new ≡ rest_after fault old → after ≡ rest_after other old
    → (refused fault ≡ refused other) × (new ≡ after)
same_fault old new after fault other same left right = (ap refused same, left ∙ ap (λ f. rest_after f old) same ∙ sym right)

pub one_outcome_lem : OneOutcome
one_outcome_lem old new after (Ok (Some line)) (Ok (Some other)) (front, split, spelt) (next, parted, read) fits also =
    let same = one_reading_lem line other front next new after spelt read (sym split ∙ parted) in
    (ap (λ l. Ok (Some l)) same.0, same.2)
one_outcome_lem old new after (Ok (Some line)) (Ok None) (front, split, spelt) h fits also =
    no_bytes old (line_has_bytes line old front new split (has_four_bytes_lem line front spelt)) h.0
one_outcome_lem old new after (Ok (Some line)) (Err fault) (front, split, spelt) h fits also =
    absurd (refused_lem fault line old front new (fault_of_bytes fault old after h also).0 (sym split) spelt)
one_outcome_lem old new after (Ok None) (Ok (Some line)) h (front, split, spelt) fits also =
    no_bytes old (line_has_bytes line old front after split (has_four_bytes_lem line front spelt)) h.0
one_outcome_lem old new after (Ok None) (Ok None) h k fits also = (refl, h.1 ∙ sym k.1)
one_outcome_lem old new after (Ok None) (Err fault) h k fits also =
    no_bytes old (some_bytes fault old (fault_of_bytes fault old after k also).0) h.0
one_outcome_lem old new after (Err fault) (Ok (Some line)) h (front, split, spelt) fits also =
    absurd (refused_lem fault line old front after (fault_of_bytes fault old new h fits).0 (sym split) spelt)
one_outcome_lem old new after (Err fault) (Ok None) h k fits also =
    no_bytes old (some_bytes fault old (fault_of_bytes fault old new h fits).0) k.0
one_outcome_lem old new after (Err fault) (Err other) h k fits also =
    let p = fault_of_bytes fault old new h fits in
    let q = fault_of_bytes other old after k also in
    same_fault old new after fault other (one_fault_lem fault other old p.0 q.0) p.1 q.1

-- ---- the front of every byte sequence

below_or_not : (a b : ℕ) → (a < b) ⊎ (b ≤ a)
below_or_not a zero = inr (omega arith)
below_or_not zero (suc b) = inl (omega arith)
below_or_not (suc a) (suc b) = elim (below_or_not a b) [ inl p ↦ inl (omega arith) | inr p ↦ inr (omega arith) ]

abbrev Front : List ℕ → Type 0
Front bytes = SpellsAtFront bytes ⊎ ((fault : PacketFault) × NoPacket fault bytes)

-- bytes begin with a data packet if they have at least the length that their digits announce
data_packet : (bytes : List ℕ) (len : ℕ) → number_of (take 4 bytes) ≡ Some (len + 4) → len + 4 ≤ max_packet → len + 4 ≤ length bytes
    → SpellsAtFront bytes
data_packet bytes len number fits all =
    let digits = take 4 bytes in
    let after = drop 4 bytes in
    let payload = take len after in
    let whole : bytes ≡ digits ++ after = sym (take-append-drop 4 bytes) in
    let four : length digits ≡ 4 = length-take-le 4 bytes (omega arith) in
    let both : length bytes ≡ length digits + length after = ap length whole ∙ length-append digits after in
    let sized : length payload ≡ len = length-take-le len after (omega arith) in
    let rest = drop len after in
    let parted : after ≡ payload ++ rest = sym (take-append-drop len after) in (
      Data payload,
      digits ++ payload,
      rest,
      whole ∙ ap (λ l. digits ++ l) parted ∙ sym (append_assoc digits payload rest),
      (digits, refl, number ∙ ap (λ n. Some (n + 4)) (sym sized), omega arith),
    )

announced_front : (bytes : List ℕ) (number : ℕ) → 4 ≤ length bytes → number_of (take 4 bytes) ≡ Some number → Front bytes
announced_front bytes zero four h = inl (Flush, take 4 bytes, drop 4 bytes, sym (take-append-drop 4 bytes), h)
announced_front bytes (suc zero) four h = inl (Delim, take 4 bytes, drop 4 bytes, sym (take-append-drop 4 bytes), h)
announced_front bytes (suc (suc zero)) four h = inl (ResponseEnd, take 4 bytes, drop 4 bytes, sym (take-append-drop 4 bytes), h)
announced_front bytes (suc (suc (suc zero))) four h = inr (Reserved, (four, h))
announced_front bytes (suc (suc (suc (suc len)))) four h =
    let number : number_of (take 4 bytes) ≡ Some (len + 4) = h ∙ ap Some (omega arith) in
    elim (below_or_not max_packet (len + 4)) [
      | inl over ↦ inr (TooLong, (len + 4, (four, number), over))
      | inr fits ↦ elim (below_or_not (length bytes) (len + 4)) [
        | inl short ↦ inr (Truncated, (omega arith, inr (len + 4, (four, number), fits, short)))
        | inr all ↦ inl (data_packet bytes len number fits all)
      ]
    ]

digits_front : (bytes : List ℕ) (number : Option ℕ) → 4 ≤ length bytes → number_of (take 4 bytes) ≡ number → Front bytes
digits_front bytes None four h = inr (BadDigits, (four, h))
digits_front bytes (Some number) four h = announced_front bytes number four h

pub every_front_lem : EveryFront
every_front_lem [] = inl refl
every_front_lem (byte ∷ bytes) =
    elim (below_or_not (length (byte ∷ bytes)) 4) [
      | inl few ↦ inr (inr (Truncated, (omega arith, inl few)))
      | inr four ↦ inr (digits_front (byte ∷ bytes) (number_of (take 4 (byte ∷ bytes))) four refl)
    ]
