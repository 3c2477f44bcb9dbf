-- The requests that a server reads are those that the client wrote.
use Rattle.std.proofs.Common.{◌++◌, ◌≡◌, ℕ, List, refl, sym, subst}
use Rattle.gname.specs.declared.formats.Format.{Format}
use Rattle.gpkt.specs.Laws.{CanonicalSpellsAll}
use Rattle.gpkt.specs.Packets.{Packet, SpellsAll, canonical_all}
use Rattle.ggrammar.specs.Kinds.{CanonicalSays, OneMeaning}
use Rattle.ggrammar.specs.Limits.{profile}
use Rattle.ggrammar.specs.MessageBytes.{ReadsNoOther}
use Rattle.grequest.specs.Asked.{Asked}
use Rattle.grequest.specs.Requests.{Says, judge}
use Rattle.grequest.specs.RequestWriting.{IsCanonicalRequest, canonical_request}
use Rattle.grequest.specs.WellFormed.{IsAsked}
use Rattle.gjoined.proofs.Bytes.{one_front}

-- the laws of requests
pub record RequestLaws : Type 0 where
  pub spells : CanonicalSpellsAll
  pub says : (format : Format)
      → CanonicalSays (Says profile format) (IsAsked profile format) (IsCanonicalRequest format)
  pub once : (format : Format) → OneMeaning (Says profile format)
  pub ends : (format : Format) → ReadsNoOther (judge profile format)

-- a request that is read from the bytes of a well-formed request is that request, and the bytes after it remain
pub one_request : RequestLaws → (format : Format) (asked told : Asked) (lines : List Packet) (next rest after : List ℕ)
    → IsAsked profile format asked → Says profile format lines told → SpellsAll lines next
    → next ++ after ≡ canonical_all (canonical_request format asked) ++ rest → (told ≡ asked) × (after ≡ rest)
one_request laws format asked told lines next rest after is says spelt same =
    let written = canonical_request format asked in
    let well = laws.says format written asked is refl in
    let one = one_front (laws.ends format) written lines (canonical_all written) next rest after well.0.whole says.whole
    (laws.spells written well.1) spelt (sym same) in (
      laws.once format lines told asked says
          (subst (λ (l : List Packet). Says profile format l asked) (sym one.0) well.0),
      one.1,
    )
