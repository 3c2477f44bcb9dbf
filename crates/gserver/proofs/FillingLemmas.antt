-- Filling a packet with the next bytes of a pack.
use Rattle.std.specs.Prelude.{MatchResult, Result, Ok, Err}
use Rattle.std.proofs.Common.{◌≡◌, ◌<◌, ◌≤◌, ◌+◌, ◌-◌, ℕ, List, [], ◌∷◌, ◌++◌, length, take, drop, map, Some, None, refl, sym, ap, ◌∙◌, subst, arith, append-nil, append_assoc, length-append, length-drop}
use Rattle.std.proofs.lemmas.Grind.{common_steps}
use Rattle.std.proofs.lemmas.List.{nil_from_length, length-take-le}
use Rattle.std.proofs.lemmas.Slice.{take-put_mid}
use Rattle.std.proofs.Math.Seq.{take-append-add}
use borrow.Rule.Slice.PartMut.{put_mid, same_len_mid}
use Rattle.gobject.specs.declared.fault.PackFault.{PackFault}
use Rattle.gparts.specs.Parts.{Gives, GivesPart}
use Rattle.gpkt.specs.Bands.{max_band}
use Rattle.gpkt.specs.Packets.{Data, canonical, canonical_all}
use Rattle.gfetchreply.specs.FetchReplies.{data_packet, pieces}
use Rattle.gfetchreply.proofs.CanonicalLemmas.{pieces_next, pieces_none}
use Rattle.gserver.specs.steps.Filling.{Fills, IsFilled, PutsPart, SaysPiece}
use Rattle.gserver.specs.declared.filling.Piece.TheVariants as piece

take_all : (l : List ℕ) (n : ℕ) → n ≡ length l → take n l ≡ l
take_all l n is = grind (arith, common_steps)

-- ---- one part of a pack

-- writing the end of a buffer keeps its first `from` bytes
behind : (out sub : List ℕ) (from : ℕ) → from < length out → length sub ≡ length out - from
    → put_mid from (length out - from) out sub ≡ take from out ++ sub
behind out sub from room size =
    let long : length (put_mid from (length out - from) out sub) ≡ length out =
    same_len_mid from (length out - from) out sub (size ∙ sym (length-take-le (length out - from) (drop from out) (omega (arith, length-drop from out)))) in
    sym (take_all (put_mid from (length out - from) out sub) (from + length sub) (omega (arith, long, size, room)))
    ∙ take-put_mid from (length out - from) out sub (from + length sub) refl (omega (arith, room))

pub puts_part : (old : Gives) (most_old : ℕ) (new : Gives) (most_new : ℕ) (from count : ℕ) (before sub : List ℕ)
    → from < length before → length sub ≡ length before - from → GivesPart old most_old new most_new count sub
    → PutsPart old most_old new most_new from count before (put_mid from (length before - from) before sub)
puts_part old most_old new most_new from count before sub room size given =
    let is = behind before sub from room size in
    let front : length (take from before) ≡ from = length-take-le from before (omega (arith, room)) in
    let long : length (put_mid from (length before - from) before sub) ≡ length (take from before) + length sub =
    ap length is ∙ length-append (take from before) sub in
    record {
      part = take count sub;
      size = length-take-le count sub given.fits;
      fits = omega (arith, long, front, given.fits);
      put = ap (take (from + count)) is
          ∙ subst (λ n. take (n + count) (take from before ++ sub) ≡ take from before ++ take count sub) front (take-append-add (take from before) sub count);
      more = given.part;
      few = given.few;
      whole = given.whole;
    }

pub puts_result : (old : Gives) (most_old : ℕ) (new : Gives) (most_new : ℕ) (from : ℕ) (before sub : List ℕ)
    (result : Result ℕ PackFault) → from < length before → length sub ≡ length before - from
    → MatchResult result (λ count. GivesPart old most_old new most_new count sub) (λ fault. old [] (Some fault))
    → MatchResult result
    (λ count. PutsPart old most_old new most_new from count before (put_mid from (length before - from) before sub))
    (λ fault. old [] (Some fault))
puts_result old most_old new most_new from before sub (Ok count) room size given =
    puts_part old most_old new most_new from count before sub room size given
puts_result old most_old new most_new from before sub (Err fault) room size given = given

-- ---- the whole buffer

pub none_filled : (gives : Gives) (most : ℕ) (out : List ℕ) → IsFilled gives most gives most 0 out
none_filled gives most out = record {
  fits = omega arith;
  more = λ rest end h. h;
  few = omega arith;
}

pub more_filled : (first : Gives) (most_first : ℕ) (old : Gives) (most_old : ℕ) (new : Gives) (most_new : ℕ)
    (count given : ℕ) (before out : List ℕ)
    → IsFilled first most_first old most_old count before → PutsPart old most_old new most_new count given before out
    → 0 < given → IsFilled first most_first new most_new (count + given) out
more_filled first most_first old most_old new most_new count given before out filled puts some = record {
  fits = puts.fits;
  more = λ rest end h.
      subst (λ l. first l end) (sym (append_assoc (take count before) puts.part rest) ∙ ap (λ l. l ++ rest) (sym puts.put))
      (filled.more (puts.part ++ rest) end (puts.more rest end some h));
  few = omega (arith, filled.few, puts.few some);
}

-- the pack ended before the buffer was full
pub whole_filled : (first : Gives) (most_first : ℕ) (old : Gives) (most_old : ℕ) (new : Gives) (most_new : ℕ)
    (count given : ℕ) (before out : List ℕ)
    → IsFilled first most_first old most_old count before → PutsPart old most_old new most_new count given before out
    → given ≡ 0 → count < length out → Fills first most_first new most_new count out
whole_filled first most_first old most_old new most_new count given before out filled puts none short =
    let empty : puts.part ≡ [] = nil_from_length puts.part (puts.size ∙ none) in
    let same : take count out ≡ take count before =
    subst (λ n. take n out ≡ take count before) (grind (arith, common_steps)) (puts.put ∙ ap (λ l. take count before ++ l) empty ∙ append-nil (take count before)) in
    record {
      fits = omega (arith, short);
      full = λ is. absurd (omega (arith, is, short));
      whole = λ less. subst (λ l. first l None) (append-nil (take count before) ∙ sym same) (filled.more [] None (puts.whole none));
    }

pub full_filled : (first : Gives) (most_first : ℕ) (new : Gives) (most_new : ℕ) (count : ℕ) (out : List ℕ)
    → IsFilled first most_first new most_new count out → length out ≤ count → Fills first most_first new most_new count out
full_filled first most_first new most_new count out filled full = record {
  fits = filled.fits;
  full = λ is. filled;
  whole = λ less. absurd (omega (arith, less, full));
}

-- ---- one piece of a pack

module _ (old : Gives) (most_old : ℕ) (new : Gives) (most_new : ℕ) (buffer out put : List ℕ) where
  pub none_said : (count : ℕ) → Fills old most_old new most_new count buffer → count ≡ 0 → length buffer ≡ max_band
      → SaysPiece old most_old new most_new out out piece.Whole
  none_said count fills none size = (
    [],
    sym (append-nil out),
    record {
      sent = [];
      lost = [];
      given = subst (λ n. old (take n buffer) None) none (fills.whole (omega (arith, none, size)));
      pieces = sym (ap (map data_packet) (pieces_none [] refl));
      all = λ h. refl;
    },
  )

  -- the piece consists of the first `count` bytes of the buffer
  spelt : (count : ℕ) → put ≡ out ++ canonical (Data ((1 ∷ []) ++ take count buffer))
      → put ≡ out ++ canonical_all (data_packet (take count buffer) ∷ [])
  spelt count is = is ∙ ap (λ l. out ++ l) (sym (append-nil (canonical (data_packet (take count buffer)))))

  pub last_said : (count : ℕ) → Fills old most_old new most_new count buffer → 0 < count → count < length buffer
      → length buffer ≡ max_band → put ≡ out ++ canonical (Data ((1 ∷ []) ++ take count buffer))
      → SaysPiece old most_old new most_new out put piece.Whole
  last_said count fills some less size is =
      let sent = take count buffer in
      let long : length sent ≡ count = length-take-le count buffer fills.fits in
      let one : pieces sent ≡ sent ∷ pieces [] =
      pieces_next sent sent [] (sym (append-nil sent)) (omega (arith, long, less, size)) (omega (arith, long, some)) in (
        data_packet sent ∷ [],
        spelt count is,
        record {
          sent = sent;
          lost = [];
          given = subst (λ l. old l None) (sym (append-nil sent)) (fills.whole less);
          pieces = sym (ap (map data_packet) (one ∙ ap (λ l. sent ∷ l) (pieces_none [] refl)));
          all = λ h. refl;
        },
      )

  pub more_said : (count : ℕ) → Fills old most_old new most_new count buffer → count ≡ max_band
      → length buffer ≡ max_band → put ≡ out ++ canonical (Data ((1 ∷ []) ++ take count buffer))
      → SaysPiece old most_old new most_new out put piece.More
  more_said count fills full size is =
      let sent = take count buffer in
      let filled = fills.full (full ∙ sym size) in
      let long : length sent ≡ count = length-take-le count buffer fills.fits in (
        sent,
        spelt count is,
        omega (arith, filled.few, full),
        λ packets end says. record {
          sent = sent ++ says.sent;
          lost = says.lost;
          given = subst (λ l. old l end) (sym (append_assoc sent says.sent says.lost)) (filled.more (says.sent ++ says.lost) end says.given);
          pieces = ap (λ l. data_packet sent ∷ l) says.pieces
              ∙ sym (ap (map data_packet) (pieces_next (sent ++ says.sent) sent says.sent refl
              (omega (arith, long, full, length-append sent says.sent)) (omega (arith, long, full, length-append sent says.sent))));
          all = says.all;
        },
      )

  pub fault_said : (fault : PackFault) → ((bytes : List ℕ) × old bytes (Some fault))
      → SaysPiece old most_old new most_new out out (piece.Failed fault)
  fault_said fault given = (
    refl,
    record {
      sent = [];
      lost = given.0;
      given = given.1;
      pieces = sym (ap (map data_packet) (pieces_none [] refl));
      all = λ h. cc h;
    },
  )
