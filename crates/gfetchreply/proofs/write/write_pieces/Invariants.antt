use Rattle.std.proofs.Common.{◌≡◌, map}
use Rattle.std.specs.Slice.Iter.{chunks_rest, chunks_size}
use Rattle.gpkt.specs.Bands.{max_band}
use Rattle.ggrammar.specs.Writing.{IsWriting}
use Rattle.gfetchreply.specs.FetchReplies.{data_packet, pieces}
use Rattle.gfetchreply.proofs.write.write_pieces.Given as goal

-- the pieces of the rest of the pack remain to be written
abbrev pub invariant-loop-piece : goal.invariant-loop-piece
invariant-loop-piece g l = record {
  size : chunks_size l.piece-iterator ≡ max_band;
  coming : IsWriting g.W.Sink.contents g.W.Sink.passed_on g.W.Sink.is_down g.W.Sink.loans l.initial.writer l.writer (map data_packet (pieces l.pack))
      (map data_packet (pieces (chunks_rest l.piece-iterator)));
}
