use Rattle.std.proofs.Common.{◌≡◌, length, take}
use Rattle.gwalk.specs.steps.Passes.{MarksTags}
use Rattle.gwalk.proofs.ordered.tags.tags_of.Given as goal

abbrev pub invariant-loop-tip : goal.invariant-loop-tip
invariant-loop-tip g l = record {
  marks : MarksTags l.graph.entries (take l.tip-index l.tips) l.pass.wanted.items l.pass.known.items l.tagged.items;
  long : length l.tagged.items ≡ length l.initial.tagged.items;
}
