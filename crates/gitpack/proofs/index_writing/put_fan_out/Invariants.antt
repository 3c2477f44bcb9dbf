use Rattle.std.proofs.Common.{◌≡◌, ◌++◌}
use Rattle.gitpack.specs.Indexes.{fan_out}
use Rattle.gitpack.specs.steps.FirstBytes.{ids_below}
use Rattle.gitpack.proofs.index_writing.put_fan_out.Given as goal

abbrev pub invariant-loop-byte : goal.invariant-loop-byte
invariant-loop-byte g l = record {
  put : l.out.items ≡ l.initial.out.items ++ fan_out l.byte l.entries;
  counted : l.total ≡ ids_below l.byte l.entries;
}
