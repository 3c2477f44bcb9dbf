use Rattle.std.proofs.Common.{ℕ, arith, ◌∙◌}
use Rattle.std.proofs.lemmas.List.{get_or-replicate, length-replicate, length-set}
use Rattle.gitpack.proofs.IndexLemmas.{counted-more}
use Rattle.gitpack.proofs.index_writing.count_by_first.Goals as goal

pub loop-entry-init : goal.loop-entry-init
loop-entry-init c = record { long = length-replicate {A = ℕ} 256 0; counted = λ byte below. get_or-replicate 256 byte 0 0 below }

pub loop-entry-preserved : goal.loop-entry-preserved
loop-entry-preserved c = record {
  long = length-set c.loop-entry.counts _ _ ∙ c.loop-entry.invariant.long;
  counted = λ byte below.
      counted-more c.loop-entry.counts c.args.entries.now c.loop-entry.entry-index c.first_byte-byte.result byte c.entry-item.result
      (omega arith) (omega arith) c.entry-item.is c.first_byte-byte.ensures.value (c.loop-entry.invariant.counted byte below);
}
