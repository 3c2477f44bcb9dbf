-- The packets that bytes encode: bytes begin with at most one encoded packet.
use Rattle.std.proofs.Common.{◌≡◌, ℕ, zero, suc, ◌+◌, ◌-◌, ◌<◌, ◌≤◌, List, [], ◌∷◌, ◌++◌, length, take, drop, Some, Result, Ok, Err, refl, sym, ap, ◌∙◌, subst, inl, inr, arith, append_assoc, append-nil, length-append}
use Rattle.std.proofs.lemmas.List.Elements.{All-head, All-tail}
use Rattle.std.specs.Int.{w16, to_be_bytes}
use lib.Seq.{take_at, drop_at}
use Rattle.hex.specs.Hex.{decode_of, IsBytes}
use Rattle.hex.specs.declared.error.FromHexError.{FromHexError}
use Rattle.hex.proofs.HexLemmas.{decode_of-ok, decode_of-encode_lower}
use Rattle.hex.proofs.OnLiterals.{hex_on_literals}
use Rattle.gpkt.specs.Packets.{Packet, Data, Flush, Delim, ResponseEnd, Spells, SpellsAll, number_in, number_of, digits_of, canonical, canonical_all, payload_of, max_payload}
use Rattle.gpkt.specs.Laws.{OneReading, RefusedIsNoPacket, HasFourBytes, Fits, CanonicalSpells, CanonicalSpellsAll, CanonicalJoins, SpellingsJoin, SpellingsSplit, BeginsWith, OneBegins}
use Rattle.gpkt.specs.PacketReading.{NoPacket}
use Rattle.gpkt.specs.declared.fault.PacketFault.{PacketFault}
use Rattle.gpkt.specs.declared.fault.PacketFault.TheVariants.{BadDigits, Reserved, TooLong, Truncated}

-- ---- lists

same_fronts : (xs ys rest after : List ℕ) → length xs ≡ length ys → xs ++ rest ≡ ys ++ after → (xs ≡ ys) × (rest ≡ after)
same_fronts xs ys rest after len same = (
  sym (take_at xs rest (length xs) refl) ∙ ap (take (length xs)) same ∙ take_at ys after (length xs) (sym len),
  sym (drop_at xs rest (length xs) refl) ∙ ap (drop (length xs)) same ∙ drop_at ys after (length xs) (sym len),
)

-- ---- digits

number_in-two_bytes : (r : Result (List ℕ) FromHexError) (n : ℕ) → number_in r ≡ Some n → (high : ℕ) × (low : ℕ) × (r ≡ Ok (high ∷ low ∷ []))
number_in-two_bytes (Ok []) n h = cc h
number_in-two_bytes (Ok (a ∷ [])) n h = cc h
number_in-two_bytes (Ok (a ∷ b ∷ [])) n h = (a, b, refl)
number_in-two_bytes (Ok (a ∷ b ∷ c ∷ rest)) n h = cc h
number_in-two_bytes (Err e) n h = cc h

pub number_of-four : (digits : List ℕ) (n : ℕ) → number_of digits ≡ Some n → length digits ≡ 4
unfolding number_of
number_of-four digits n h =
    let (high, low, found) = number_in-two_bytes (decode_of digits) n h in
    (decode_of-ok digits (high ∷ low ∷ []) found).2

two_bytes : (n : ℕ) → IsBytes (to_be_bytes w16 n)
two_bytes n zero = omega arith
two_bytes n (suc zero) = omega arith
two_bytes n (suc (suc i)) = omega arith

pub number_of-digits_of : (n : ℕ) → n < 65536 → number_of (digits_of n) ≡ Some n
unfolding number_of digits_of
number_of-digits_of n fits = ap number_in (decode_of-encode_lower (to_be_bytes w16 n) (two_bytes n)) ∙ ap Some (omega arith)

-- ---- the parts of a packet

abbrev announced : Packet → ℕ
announced (Data payload) = length payload + 4
announced Flush = 0
announced Delim = 1
announced ResponseEnd = 2

-- the packet whose digits encode the number, with this payload if it is a data packet
abbrev packet_from : ℕ → List ℕ → Packet
packet_from zero payload = Flush
packet_from (suc zero) payload = Delim
packet_from (suc (suc zero)) payload = ResponseEnd
packet_from (suc (suc (suc n))) payload = Data payload

packet_from-announced : (line : Packet) → packet_from (announced line) (payload_of line) ≡ line
packet_from-announced (Data payload) =
    let split : length payload + 4 ≡ suc (suc (suc (suc (length payload)))) = omega arith in
    ap (λ n. packet_from n payload) split
packet_from-announced _ = refl

announced-less_four : (line : Packet) → announced line - 4 ≡ length (payload_of line)
announced-less_four (Data payload) = omega arith
announced-less_four _ = refl

announced-at_most : (line : Packet) → announced line ≤ length (payload_of line) + 4
announced-at_most (Data payload) = omega arith
announced-at_most _ = omega arith

announced-not_three : (line : Packet) → announced line ≡ 3 → ⊥
announced-not_three (Data payload) h = omega arith
announced-not_three _ h = omega arith

-- the two parts of an encoded packet: its four digits, and its payload
record Parts (line : Packet) (bytes : List ℕ) : Type 0 where
  digits : List ℕ
  split : bytes ≡ digits ++ payload_of line
  four : length digits ≡ 4
  number : number_of digits ≡ Some (announced line)
  fits : length (payload_of line) ≤ max_payload

parts_of : (line : Packet) (bytes : List ℕ) → Spells line bytes → Parts line bytes
parts_of (Data payload) bytes (digits, split, number, fits) = record { digits = digits; split = split; four = number_of-four digits _ number; number = number; fits = fits }
parts_of line bytes h =
    let four = number_of-four bytes (announced line) h in
    record { digits = bytes; split = sym (append-nil bytes); four = four; number = h; fits = omega arith }

pub some_value : (a b : ℕ) → Some a ≡ Some b → a ≡ b
some_value a b h = cc

-- ---- at most one packet at the front

parts_same : (line other : Packet) (front next rest after : List ℕ) → Parts line front → Parts other next → front ++ rest ≡ next ++ after
    → (line ≡ other) × (front ≡ next) × (rest ≡ after)
parts_same line other front next rest after p q same =
    let whole : p.digits ++ (payload_of line ++ rest) ≡ q.digits ++ (payload_of other ++ after) =
    sym (ap (λ l. l ++ rest) p.split ∙ append_assoc p.digits (payload_of line) rest) ∙ same ∙ ap (λ l. l ++ after) q.split ∙ append_assoc q.digits (payload_of other) after in
    let outer = same_fronts p.digits q.digits _ _ (p.four ∙ sym q.four) whole in
    let number : announced line ≡ announced other = some_value _ _ (sym p.number ∙ ap number_of outer.0 ∙ q.number) in
    let len : length (payload_of line) ≡ length (payload_of other) = sym (announced-less_four line) ∙ ap (λ n. n - 4) number ∙ announced-less_four other in
    let inner = same_fronts (payload_of line) (payload_of other) rest after len outer.1 in (
      sym (packet_from-announced line) ∙ ap (λ n. packet_from n (payload_of line)) number ∙ ap (packet_from (announced other)) inner.0 ∙ packet_from-announced other,
      p.split ∙ ap (λ l. l ++ payload_of line) outer.0 ∙ ap (λ l. q.digits ++ l) inner.0 ∙ sym q.split,
      inner.1,
    )

pub one_reading_lem : OneReading
one_reading_lem line other front next rest after s t same = parts_same line other front next rest after (parts_of line front s) (parts_of other next t) same

pub has_four_bytes_lem : HasFourBytes
has_four_bytes_lem line bytes s =
    let p = parts_of line bytes s in
    let len : length bytes ≡ length p.digits + length (payload_of line) = ap length p.split ∙ length-append p.digits (payload_of line) in
    let four = p.four in omega arith

-- ---- rejected bytes

front_number : (line : Packet) (bytes front rest : List ℕ) → Parts line front → front ++ rest ≡ bytes → number_of (take 4 bytes) ≡ Some (announced line)
front_number line bytes front rest p same =
    let whole : bytes ≡ p.digits ++ (payload_of line ++ rest) = sym same ∙ ap (λ l. l ++ rest) p.split ∙ append_assoc p.digits (payload_of line) rest in
    ap (λ l. number_of (take 4 l)) whole ∙ ap number_of (take_at p.digits (payload_of line ++ rest) 4 p.four) ∙ p.number

front_length : (line : Packet) (bytes front rest : List ℕ) → Parts line front → front ++ rest ≡ bytes → 4 + length (payload_of line) ≤ length bytes
front_length line bytes front rest p same =
    let all : length bytes ≡ length front + length rest = sym (ap length same) ∙ length-append front rest in
    let len : length front ≡ length p.digits + length (payload_of line) = ap length p.split ∙ length-append p.digits (payload_of line) in
    let four = p.four in omega arith

refused_parts : (fault : PacketFault) (line : Packet) (bytes front rest : List ℕ) → NoPacket fault bytes → front ++ rest ≡ bytes → Parts line front → ⊥
refused_parts BadDigits line bytes front rest h same p = let n = front_number line bytes front rest p same in cc (h.1, n)
refused_parts Reserved line bytes front rest h same p =
    announced-not_three line (some_value _ _ (sym (front_number line bytes front rest p same) ∙ h.1))
refused_parts TooLong line bytes front rest h same p =
    let number : announced line ≡ h.0 = some_value _ _ (sym (front_number line bytes front rest p same) ∙ h.1.1) in
    let over = h.2 in
    let fits = p.fits in
    let most = announced-at_most line in omega arith
refused_parts Truncated line bytes front rest h same p =
    let long = front_length line bytes front rest p same in
    elim h.1 as (λ _. ⊥) [
      | inl few ↦ omega arith
      | inr cut ↦
          let number : announced line ≡ cut.0 = some_value _ _ (sym (front_number line bytes front rest p same) ∙ cut.1.1) in
          let short = cut.3 in
          let most = announced-at_most line in omega arith
    ]
refused_parts _ line bytes front rest h same p = absurd h

pub refused_lem : RefusedIsNoPacket
refused_lem fault line bytes front rest h same s = refused_parts fault line bytes front rest h same (parts_of line front s)

-- ---- the canonical encoding

pub canonical_spells_lem : CanonicalSpells
unfolding number_of hex_on_literals
canonical_spells_lem (Data payload) fits = (digits_of (length payload + 4), refl, number_of-digits_of (length payload + 4) (omega arith), fits)
canonical_spells_lem _ fits = refl

pub canonical_spells_all_lem : CanonicalSpellsAll
canonical_spells_all_lem [] fits = refl
canonical_spells_all_lem (line ∷ lines) fits =
    let first = All-head Fits line lines fits in
    let others = All-tail Fits line lines fits in
    (canonical line, canonical_all lines, refl, canonical_spells_lem line first, canonical_spells_all_lem lines others)

pub canonical_joins_lem : CanonicalJoins
canonical_joins_lem [] more = refl
canonical_joins_lem (line ∷ lines) more =
    ap (λ l. canonical line ++ l) (canonical_joins_lem lines more) ∙ sym (append_assoc (canonical line) (canonical_all lines) (canonical_all more))

-- ---- several packets

pub spellings_join_lem : SpellingsJoin
spellings_join_lem [] more front rest s t = subst (λ l. SpellsAll more (l ++ rest)) (sym s) t
spellings_join_lem (line ∷ lines) more front rest (head, tail, split, first, others) t =
    (head, tail ++ rest, ap (λ l. l ++ rest) split ∙ append_assoc head tail rest, first, spellings_join_lem lines more tail rest others t)

pub spellings_split_lem : SpellingsSplit
spellings_split_lem [] more bytes s = ([], bytes, refl, refl, s)
spellings_split_lem (line ∷ lines) more bytes (head, tail, split, first, others) =
    let (front, rest, parted, before, follow) = spellings_split_lem lines more tail others in
    (head ++ front, rest, split ∙ ap (λ l. head ++ l) parted ∙ sym (append_assoc head front rest), (head, front, refl, first, before), follow)

begins_more : (line other : Packet) (lines longer : List Packet) (rest after : List ℕ) → line ≡ other → BeginsWith lines longer rest after
    → BeginsWith (line ∷ lines) (other ∷ longer) rest after
begins_more line other lines longer rest after same (more, bytes, joined, spelt, follow) = (more, bytes, cc, spelt, follow)

pub one_begins_lem : OneBegins
one_begins_lem [] others front next rest after s t same =
    inl (others, next, refl, t, ap (λ l. l ++ rest) (sym s) ∙ same)
one_begins_lem (line ∷ lines) [] front next rest after s t same =
    inr (line ∷ lines, front, refl, s, ap (λ l. l ++ after) (sym t) ∙ sym same)
one_begins_lem (line ∷ lines) (other ∷ others) front next rest after (head, tail, split, first, follow) (head2, tail2, split2, first2, follow2) same =
    let whole : head ++ (tail ++ rest) ≡ head2 ++ (tail2 ++ after) =
    sym (ap (λ l. l ++ rest) split ∙ append_assoc head tail rest) ∙ same ∙ ap (λ l. l ++ after) split2 ∙ append_assoc head2 tail2 after in
    let read = one_reading_lem line other head head2 (tail ++ rest) (tail2 ++ after) first first2 whole in
    elim (one_begins_lem lines others tail tail2 rest after follow follow2 read.2) [
      | inl b ↦ inl (begins_more line other lines others rest after read.0 b)
      | inr b ↦ inr (begins_more other line others lines after rest (sym read.0) b)
    ]
