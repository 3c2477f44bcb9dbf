-- Reading a message of any kind, by the meaning of its packets.
use Rattle.std.proofs.Common.{◌≡◌, ℕ, Bool, List, ◌++◌, Option, Some, None, Result, Ok, Err, refl, subst, ap, ◌∙◌}
use Rattle.std.specs.Prelude.{IfErr}
use Rattle.gpkt.specs.Packets.{Packet, canonical_all}
use Rattle.gpkt.specs.Laws.{CanonicalSpellsAll}
use Rattle.ggrammar.specs.Grammar.{Judge}
use Rattle.ggrammar.specs.MessageBytes.{known_bytes, IsOfBytes, LawsOfBytes}
use Rattle.ggrammar.specs.Kinds.{Meaning, OneMeaning, SaysWhole, CanonicalSays, ReadsMessage, ReadsOrRefuses, ReadsIfAny, SaysAtFront, ReadsExactly, ReadsBack, ReadsExactlyIfAny, ReadsBackIfAny}
use Rattle.ggrammar.specs.declared.fault.MessageFault.{MessageFault}

module _ {M : Type 0} (judge : Judge) (brings : List Packet → Packet → Bool) (Says : Meaning M) (laws : LawsOfBytes judge)
    (says_whole : SaysWhole judge Says) (one_meaning : OneMeaning Says) where
  -- the message that is read is the message that the packets at the front of the bytes encode
  read_is_said : (bytes new rest : List ℕ) (message other : M) (read : ReadsMessage judge Says (known_bytes bytes new) message)
      → SaysAtFront Says bytes rest other → (message ≡ other) × (new ≡ rest)
  read_is_said bytes new rest message other read (lines, at, says) =
      let whole = (says_whole lines).1 (other, says) in
      let same = laws.no_other lines read.lines bytes rest new whole at read.read in
      (one_meaning lines message other (subst (λ (ls : List Packet). Says ls message) same.0 read.says) says, same.1)

  said_at_front : (bytes new rest : List ℕ) (message : M) → ReadsMessage judge Says (known_bytes bytes new) message
      → new ≡ rest → SaysAtFront Says bytes rest message
  said_at_front bytes new rest message read same =
      let at = read.read.bytes in
      (read.lines, record { front = at.0; parts = at.1 ∙ ap (λ xs. at.0 ++ xs) same; spelt = at.2 }, read.says)

  answers : (bytes new rest : List ℕ) (result : Result M MessageFault) (message : M) → ReadsOrRefuses judge brings Says (known_bytes bytes new) result
      → IfErr result (λ fault. IsOfBytes fault.why) → SaysAtFront Says bytes rest message → (result ≡ Ok message) × (new ≡ rest)
  answers bytes new rest (Ok other) message read certain at =
      let same = read_is_said bytes new rest other message read at in (ap Ok same.0, same.1)
  answers bytes new rest (Err fault) message refused certain (lines, at, says) =
      absurd (laws.refused brings refused.0 lines bytes new rest fault refused.1 certain at ((says_whole lines).1 (message, says)))

  pub reads_exactly : ReadsExactly judge brings Says
  reads_exactly bytes new rest result message read certain = (
    λ same. said_at_front bytes new rest message (subst (ReadsOrRefuses judge brings Says _) same.0 read) same.1,
    answers bytes new rest result message read certain,
  )

  pub reads_back : CanonicalSpellsAll → (IsValue : M → Type 0) (IsCanonical : Meaning M) → CanonicalSays Says IsValue IsCanonical
      → ReadsBack judge brings Says IsValue IsCanonical
  reads_back spells IsValue IsCanonical canonical_says lines rest new result message value canonical read certain =
      let h = canonical_says lines message value canonical in
      answers (canonical_all lines ++ rest) new rest result message read certain
      (lines, record { front = canonical_all lines; parts = refl; spelt = spells lines h.1 }, h.0)

  -- ---- an input that may end before the message

  answers_if_any : (bytes new rest : List ℕ) (result : Result (Option M) MessageFault) (message : M)
      → ReadsIfAny judge brings Says (known_bytes bytes new) result → IfErr result (λ fault. IsOfBytes fault.why)
      → SaysAtFront Says bytes rest message → (result ≡ Ok (Some message)) × (new ≡ rest)
  answers_if_any bytes new rest (Ok (Some other)) message read certain at =
      let same = read_is_said bytes new rest other message read at in (ap (λ (m : M). Ok (Some m)) same.0, same.1)
  answers_if_any bytes new rest (Ok None) message read certain (lines, at, says) =
      absurd (laws.ended lines bytes new rest read at ((says_whole lines).1 (message, says)))
  answers_if_any bytes new rest (Err fault) message refused certain (lines, at, says) =
      absurd (laws.refused brings refused.0 lines bytes new rest fault refused.1 certain at ((says_whole lines).1 (message, says)))

  pub reads_exactly_if_any : ReadsExactlyIfAny judge brings Says
  reads_exactly_if_any bytes new rest result message read certain = (
    λ same. said_at_front bytes new rest message (subst (ReadsIfAny judge brings Says _) same.0 read) same.1,
    answers_if_any bytes new rest result message read certain,
  )

  pub reads_back_if_any : CanonicalSpellsAll → (IsValue : M → Type 0) (IsCanonical : Meaning M) → CanonicalSays Says IsValue IsCanonical
      → ReadsBackIfAny judge brings Says IsValue IsCanonical
  reads_back_if_any spells IsValue IsCanonical canonical_says lines rest new result message value canonical read certain =
      let h = canonical_says lines message value canonical in
      answers_if_any (canonical_all lines ++ rest) new rest result message read certain
      (lines, record { front = canonical_all lines; parts = refl; spelt = spells lines h.1 }, h.0)
