use Rattle.std.proofs.Common.{◌≡◌, ℕ, ◌≤◌, [], ◌∷◌, List, length, map, min, Ok, Err, sym, ap, subst, ◌∙◌, arith}
use Rattle.std.specs.Slice.Iter.{chunks_rest, chunks_size}
use Rattle.gpkt.specs.Bands.{max_band}
use Rattle.ggrammar.specs.Writing.{IsWriting}
use Rattle.gfetchreply.specs.FetchReplies.{data_packet, pieces}
use Rattle.gfetchreply.proofs.CanonicalLemmas.{pieces_next, pieces_none}
use Rattle.gfetchreply.proofs.WritingLemmas.{fits_band}
use Rattle.gfetchreply.proofs.write.write_pieces.Goals as goal

pub loop-piece-init : goal.loop-piece-init
loop-piece-init g c =
    let same = c.into_iter-piece-iterator.ensures.into_iter_gives in
    let pack = c.args.pack.now in
    let start = c.args.writer.now in
    record {
      size = ap chunks_size same ∙ c.in_pieces-piece-items.ensures.size;
      coming = subst
          (λ (xs : List ℕ). IsWriting g.W.Sink.contents g.W.Sink.passed_on g.W.Sink.is_down g.W.Sink.loans start start (map data_packet (pieces pack)) (map data_packet (pieces xs)))
          (sym (ap chunks_rest same ∙ c.in_pieces-piece-items.ensures.rest)) (c.writes_packets.ensures.starts start (map data_packet (pieces pack)));
    }

pub returns-in_err-put_band : goal.returns-in_err-put_band
returns-in_err-put_band g c =
    let law = c.writes_packets.ensures in
    let all = map data_packet (pieces c.args.pack.now) in
    let rest = chunks_rest c.loop-piece.piece-iterator in
    let after = chunks_rest c.next.new.self in
    let piece = c.in-Some.piece.now in
    let steps = c.in-Some.ensures.steps in
    let size : length piece ≡ min max_band (length rest) = steps.1.1 ∙ ap (λ (n : ℕ). min n (length rest)) c.loop-piece.invariant.size in
    let short : length piece ≤ max_band = omega arith in
    let band = c.in_err-put_band.ensures in
    law.part _ _ _ all
    (law.fails _ _ _ all (map data_packet (pieces rest)) (data_packet piece ∷ []) (map data_packet (pieces after)) _ _ c.loop-piece.invariant.coming
    (ap (map data_packet) (pieces_next rest piece after steps.1.0 size steps.1.2))
    (law.line _ _ (Err _) (data_packet piece) band.written (fits_band (Err _) piece band.too_long short)) c.from_residual.ensures.1)

pub loop-piece-preserved : goal.loop-piece-preserved
loop-piece-preserved g c =
    let law = c.writes_packets.ensures in
    let all = map data_packet (pieces c.args.pack.now) in
    let rest = chunks_rest c.loop-piece.piece-iterator in
    let after = chunks_rest c.next.new.self in
    let piece = c.in-Some.piece.now in
    let steps = c.in-Some.ensures.steps in
    let size : length piece ≡ min max_band (length rest) = steps.1.1 ∙ ap (λ (n : ℕ). min n (length rest)) c.loop-piece.invariant.size in
    let short : length piece ≤ max_band = omega arith in
    let band = c.in_ok-put_band.ensures in
    record {
      size = steps.0 ∙ c.loop-piece.invariant.size;
      coming = law.goes_on _ _ _ all (map data_packet (pieces rest)) (data_packet piece ∷ []) (map data_packet (pieces after)) c.loop-piece.invariant.coming
          (ap (map data_packet) (pieces_next rest piece after steps.1.0 size steps.1.2))
          (law.line _ _ (Ok tt) (data_packet piece) band.written (fits_band (Ok tt) piece band.too_long short));
    }

pub returns : goal.returns
returns g c =
    let rest = chunks_rest c.loop-piece.piece-iterator in
    let pack = c.args.pack.now in
    subst
    (λ (ps : List (List ℕ)). IsWriting g.W.Sink.contents g.W.Sink.passed_on g.W.Sink.is_down g.W.Sink.loans c.args.writer.now c.loop-piece.writer (map data_packet (pieces pack)) (map data_packet ps))
    (pieces_none rest c.in-None.ensures.steps.1.0) c.loop-piece.invariant.coming
