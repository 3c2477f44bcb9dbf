-- The received bytes of an incomplete packet.
use Rattle.std.proofs.Common.{◌≡◌, ℕ, zero, suc, ◌+◌, ◌-◌, ◌<◌, ◌≤◌, [], ◌++◌, length, take, drop, Some, None, inl, inr, sym, ap, ◌∙◌, subst, arith, length-append, append-nil, take-append-drop, length-drop}
use Rattle.std.proofs.lemmas.List.{take-append-le, nil_from_length}
use Rattle.gpkt.specs.Packets.{Bytes, Data, Spells, digit_count, max_packet, number_of}
use Rattle.gpkt.specs.PacketReading.{AnnouncesAtFront, IsPartialPacket}
use Rattle.gtalk.specs.Partial.{IsWithinPacket, Lacks}

some_value : (a b : ℕ) → Some a ≡ Some b → a ≡ b
some_value a b same = cc same

-- the digits at the front of the bytes announce only one number
one_number : (bytes : Bytes) (a b : ℕ) → AnnouncesAtFront bytes a → AnnouncesAtFront bytes b → a ≡ b
one_number bytes a b p q = some_value a b (sym p.1 ∙ q.1)

-- appended bytes do not change the number that the digits announce
announces_more : (bytes more : Bytes) (n : ℕ) → AnnouncesAtFront bytes n → AnnouncesAtFront (bytes ++ more) n
announces_more bytes more n (long, number) =
    (omega (arith, long, length-append bytes more), ap number_of (take-append-le digit_count bytes more long) ∙ number)

pub short_packet : (bytes : Bytes) (n : ℕ) → IsWithinPacket bytes → AnnouncesAtFront bytes n → n ≤ digit_count → length bytes ≡ digit_count
short_packet bytes n within announced few =
    let long = announced.0 in
    elim within as (λ _. length bytes ≡ digit_count) [
      | inl h ↦ omega (arith, h, long)
      | inr h ↦ let same = one_number bytes n h.0 announced h.1 in let most = h.2 in omega (arith, same, most, long, few)
    ]

pub whole_packet : (bytes : Bytes) (n : ℕ) → IsWithinPacket bytes → AnnouncesAtFront bytes n → digit_count ≤ n → n ≤ length bytes → length bytes ≡ n
whole_packet bytes n within announced long all =
    elim within as (λ _. length bytes ≡ n) [
      | inl h ↦ omega (arith, h, long, all)
      | inr h ↦ let same = one_number bytes n h.0 announced h.1 in let most = h.2 in omega (arith, same, most, all)
    ]

-- if all announced bytes have arrived, the bytes encode a data packet
pub whole_data : (bytes : Bytes) (n : ℕ) → IsWithinPacket bytes → AnnouncesAtFront bytes n → digit_count ≤ n → n ≤ max_packet
    → n ≤ length bytes → Spells (Data (drop digit_count bytes)) bytes
whole_data bytes n within announced long short all =
    let len = whole_packet bytes n within announced long all in
    let rest : length (drop digit_count bytes) ≡ length bytes - digit_count = length-drop digit_count bytes in (
      take digit_count bytes,
      sym (take-append-drop digit_count bytes),
      announced.1 ∙ ap Some (omega (arith, len, rest, long)),
      omega (arith, len, rest, short, long),
    )

pub lacks_digits : (bytes : Bytes) (n : ℕ) → length bytes < digit_count → n ≡ digit_count - length bytes → Lacks bytes n
lacks_digits bytes n few is = record {
  within = λ more h. inl (omega (arith, few, is, h, length-append bytes more));
  room = omega (arith, few, is);
}

pub lacks_none : (bytes : Bytes) → IsWithinPacket bytes → Lacks bytes 0
lacks_none bytes within = record {
  within = λ more h.
      let none : more ≡ [] = nil_from_length more (omega (arith, h)) in
      subst IsWithinPacket (sym (append-nil bytes) ∙ ap (λ m. bytes ++ m) (sym none)) within;
  room = elim within as (λ _. length bytes + 0 ≤ max_packet) [
    | inl h ↦ omega (arith, h)
    | inr h ↦ let a = h.2 in let b = h.3 in omega (arith, a, b)
  ];
}

pub lacks_payload : (bytes : Bytes) (n announced : ℕ) → IsWithinPacket bytes → AnnouncesAtFront bytes announced → announced ≤ max_packet
    → n ≡ announced - length bytes → Lacks bytes n
lacks_payload bytes zero announced within there fits is = lacks_none bytes within
lacks_payload bytes (suc k) announced within there fits is = record {
  within = λ more h. inr (announced, announces_more bytes more announced there, omega (arith, is, h, length-append bytes more), fits);
  room = omega (arith, is, fits);
}

-- appending at most the missing bytes does not go beyond the packet
pub within_after : (bytes more new : Bytes) (n : ℕ) → Lacks bytes n → length more ≤ n → new ≡ bytes ++ more → IsWithinPacket new
within_after bytes more new n lacking few is = subst IsWithinPacket (sym is) (lacking.within more few)

-- if `n` more bytes do not go beyond the packet, fewer bytes do not either
pub lacks_fewer : (bytes some : Bytes) (n : ℕ) → Lacks bytes n → length some ≤ n → Lacks bytes (length some)
lacks_fewer bytes some n lacking few = record {
  within = λ more h. let fewer = few in lacking.within more (omega (arith, h, fewer));
  room = let all = lacking.room in omega (arith, all, few);
}

-- ---- the missing bytes of an incomplete packet

pub partial_none : (bytes : Bytes) (n : ℕ) → digit_count ≤ length bytes → number_of (take digit_count bytes) ≡ None → IsPartialPacket bytes → 0 < n
partial_none bytes n long none part =
    elim part as (λ _. 0 < n) [
      | inl h ↦ absurd (omega (arith, h, long))
      | inr h ↦ let some = h.1.1 in cc (none, some)
    ]

pub partial_long : (bytes : Bytes) (n announced : ℕ) → AnnouncesAtFront bytes announced → max_packet < announced → IsPartialPacket bytes → 0 < n
partial_long bytes n announced there long part =
    let all = there.0 in
    elim part as (λ _. 0 < n) [
      | inl h ↦ absurd (omega (arith, h, all))
      | inr h ↦ let same = one_number bytes announced h.0 there h.1 in let fits = h.2 in absurd (omega (arith, same, fits, long))
    ]

pub partial_more : (bytes : Bytes) (n announced : ℕ) → AnnouncesAtFront bytes announced → n ≡ announced - length bytes → IsPartialPacket bytes → 0 < n
partial_more bytes n announced there is part =
    let all = there.0 in
    elim part as (λ _. 0 < n) [
      | inl h ↦ absurd (omega (arith, h, all))
      | inr h ↦ let same = one_number bytes announced h.0 there h.1 in let short = h.3 in omega (arith, same, short, is)
    ]
