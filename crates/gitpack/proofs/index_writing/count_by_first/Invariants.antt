use Rattle.std.proofs.Common.{◌≡◌, ℕ, ◌<◌, length, get_or, take}
use Rattle.gitpack.specs.steps.FirstBytes.{ids_beginning}
use Rattle.gitpack.proofs.index_writing.count_by_first.Given as goal

abbrev pub invariant-loop-entry : goal.invariant-loop-entry
invariant-loop-entry l = record {
  long : length l.counts ≡ 256;
  counted : (byte : ℕ) → byte < 256 → get_or l.counts byte 0 ≡ ids_beginning byte (take l.entry-index l.entries);
}
