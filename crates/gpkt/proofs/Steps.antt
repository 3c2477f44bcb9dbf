-- The result of reading a packet, from the results of reading its digits and its payload.
use Rattle.std.proofs.Common.{◌≡◌, ℕ, ◌+◌, ◌<◌, ◌≤◌, List, ◌++◌, length, take, drop, Option, Some, None, Ok, Err, refl, sym, ap, ◌∙◌, inl, inr, append_assoc, append-nil, arith, subst, length-append}
use lib.Seq.{drop_at, take_at}
use Rattle.gpkt.specs.Change.{Change}
use Rattle.gpkt.specs.PacketReading.{Gives, Reads, IsPartialPacket}
use Rattle.gpkt.specs.Packets.{Data, Spells, max_packet, max_payload, number_of}
use Rattle.gpkt.specs.declared.fault.PacketFault.{PacketFault}
use Rattle.gpkt.specs.declared.fault.PacketFault.TheVariants.{BadDigits, Reserved, TooLong, Truncated, Io, Failed, Memory}
use Rattle.gpkt.specs.steps.Heads.{ReadsHead, ReadsPayload}
use Rattle.gpkt.specs.declared.head.Head.TheVariants as head

abbrev pub change : Option (List ℕ) → Option (List ℕ) → Change
change old new = record { old = old; new = new }

-- ---- the four digits

-- a fact about the number that the consumed digits encode is true for the first four bytes of the input
digits_known : (P : Option ℕ → Type 0) (old new : List ℕ) → (digits : List ℕ) × (old ≡ digits ++ new) × (length digits ≡ 4) × P (number_of digits)
    → (4 ≤ length old) × P (number_of (take 4 old)) × (new ≡ drop 4 old)
digits_known P old new (digits, front, len, holds) =
    let first : take 4 old ≡ digits = ap (take 4) front ∙ take_at digits new 4 len in
    let all : length old ≡ length digits + length new = ap length front ∙ length-append digits new in (
      omega arith,
      subst (λ l. P (number_of l)) (sym first) holds,
      sym (ap (drop 4) front ∙ drop_at digits new 4 len),
    )

-- ---- a read that fails at the digits

refused_known : (old new : List ℕ) (fault : PacketFault) → ReadsHead (change (Some old) (Some new)) (Err fault) → Gives old new (Err fault)
refused_known old new BadDigits h = let r = digits_known (λ n. n ≡ None) old new h in ((r.0, r.1), r.2)
refused_known old new Reserved h = let r = digits_known (λ n. n ≡ Some 3) old new h in ((r.0, r.1), r.2)
refused_known old new TooLong h =
    let r = digits_known (λ n. (announced : ℕ) × (n ≡ Some announced) × (max_packet < announced)) old new h in
    let (announced, number, over) = r.1 in ((announced, (r.0, number), over), r.2)
refused_known old new Truncated (bytes, front, some, few, end) =
    let all : old ≡ bytes = front ∙ ap (λ l. bytes ++ l) end ∙ append-nil bytes in
    let len : length old ≡ length bytes = ap length all in
    ((omega arith, inl (omega arith)), end)
refused_known old new Io (front, same, few) = (front, same, inl few)
refused_known old new Failed h = absurd h.3
refused_known old new Memory h = absurd h.3

refused_lost : (old : List ℕ) (fault : PacketFault) → ReadsHead (change (Some old) None) (Err fault) → ⊥
refused_lost old Failed h = h.3
refused_lost old Memory h = h.3
refused_lost old _ h = h.1

pub Reads-from_refused : (old new : Option (List ℕ)) (fault : PacketFault) → ReadsHead (change old new) (Err fault) → Reads (change old new) (Err fault)
Reads-from_refused None new fault h = tt
Reads-from_refused (Some old) None fault h = refused_lost old fault h
Reads-from_refused (Some old) (Some new) fault h = refused_known old new fault h

-- ---- a read that reaches the payload

module _ (len : ℕ) (payload : List ℕ) (sized : length payload ≡ len) where
  IsPartialPacket-payload : (digits bytes : List ℕ) → length digits ≡ 4 → number_of digits ≡ Some (len + 4) → len ≤ max_payload → length bytes < len → IsPartialPacket (digits ++ bytes)
  IsPartialPacket-payload digits bytes four announced fits few =
      let all = length-append digits bytes in
      inr (len + 4, (omega arith, ap number_of (take_at digits bytes 4 four) ∙ announced), omega arith, omega arith)

  payload_known : (old mid new : List ℕ) (fault : PacketFault) → ReadsHead (change (Some old) (Some mid)) (Ok (Some (head.Data len)))
      → ReadsPayload (change (Some mid) (Some new)) (Err fault) payload → Gives old new (Err fault)
  payload_known old mid new Truncated (digits, front, four, (announced, fits)) (bytes, next, few, end) =
      let whole : old ≡ (digits ++ bytes) ++ new = front ∙ ap (λ l. digits ++ l) next ∙ sym (append_assoc digits bytes new) in
      let all : old ≡ digits ++ bytes = whole ∙ ap (λ l. (digits ++ bytes) ++ l) end ∙ append-nil (digits ++ bytes) in
      let long : length old ≡ length digits + length bytes = ap length all ∙ length-append digits bytes in
      ((omega arith, subst IsPartialPacket (sym all) (IsPartialPacket-payload digits bytes four announced fits (omega arith))), end)
  payload_known old mid new Io (digits, front, four, (announced, fits)) (bytes, next, few) =
      let whole : old ≡ (digits ++ bytes) ++ new = front ∙ ap (λ l. digits ++ l) next ∙ sym (append_assoc digits bytes new) in
      (digits ++ bytes, whole, IsPartialPacket-payload digits bytes four announced fits (omega arith))
  payload_known old mid new _ head h = absurd h

  payload_lost : (mid : List ℕ) (fault : PacketFault) → ReadsPayload (change (Some mid) None) (Err fault) payload → ⊥
  payload_lost mid Truncated h = h.1
  payload_lost mid Io h = h.1
  payload_lost mid _ h = h

  pub Reads-from_cut : (old mid new : Option (List ℕ)) (fault : PacketFault) → ReadsHead (change old mid) (Ok (Some (head.Data len)))
      → ReadsPayload (change mid new) (Err fault) payload → Reads (change old new) (Err fault)
  Reads-from_cut None mid new fault head h = tt
  Reads-from_cut (Some old) None new fault head h = absurd head.1
  Reads-from_cut (Some old) (Some mid) None fault head h = payload_lost mid fault h
  Reads-from_cut (Some old) (Some mid) (Some new) fault head h = payload_known old mid new fault head h

  Spells-payload : (digits : List ℕ) → number_of digits ≡ Some (len + 4) → len ≤ max_payload → Spells (Data payload) (digits ++ payload)
  Spells-payload digits announced fits = (digits, refl, announced ∙ ap (λ n. Some (n + 4)) (sym sized), omega arith)

  -- after the digits and the payload are read, the payload is at the front of the buffer
  pub Reads-from_payload : (old mid new : Option (List ℕ)) (rest : List ℕ) → ReadsHead (change old mid) (Ok (Some (head.Data len)))
      → ReadsPayload (change mid new) (Ok tt) payload → Reads (change old new) (Ok (Some (Data (take len (payload ++ rest)))))
  Reads-from_payload None mid new rest head h = tt
  Reads-from_payload (Some old) None new rest head h = absurd head.1
  Reads-from_payload (Some old) (Some mid) None rest head h = absurd h
  Reads-from_payload (Some old) (Some mid) (Some new) rest (digits, front, four, (announced, fits)) next =
      let whole : old ≡ (digits ++ payload) ++ new = front ∙ ap (λ l. digits ++ l) next ∙ sym (append_assoc digits payload new) in
      let same : payload ≡ take len (payload ++ rest) = sym (take_at payload rest len sized) in
      (digits ++ payload, whole, subst (λ l. Spells (Data l) (digits ++ payload)) same (Spells-payload digits announced fits))
