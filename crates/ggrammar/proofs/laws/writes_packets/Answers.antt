use Rattle.ggrammar.proofs.WritingLemmas.{writes_packet, writes_fitting, packets_are_part, starts_writing}
use Rattle.ggrammar.proofs.WritingLemmas.{goes_on_writing, goes_on_after_part, fails_writing, ends_writing}
use Rattle.ggrammar.proofs.laws.writes_packets.Goals as goal

pub returns : goal.returns
returns g c = record {
  line = writes_packet _ _ _ _;
  fitting = writes_fitting _ _ _ _;
  part = packets_are_part _ _ _ _ c.canonical_spells.ensures.joins c.writes_join.ensures.join;
  starts = starts_writing _ _ _ _;
  goes_on = goes_on_writing _ _ _ _ c.canonical_spells.ensures.joins c.writes_join.ensures.join;
  after_part = goes_on_after_part _ _ _ _;
  fails = fails_writing _ _ _ _ c.canonical_spells.ensures.joins c.writes_join.ensures.failed;
  ends = ends_writing _ _ _ _;
}
