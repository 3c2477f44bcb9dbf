use Rattle.std.proofs.Common.{take}
use Rattle.std.specs.List.{AllZip}
use Rattle.gitcommitgraph.specs.Chains.{IsLine}
use Rattle.gitcommitgraph.proofs.chain.parse_chain.Given as goal

abbrev pub invariant-loop-line : goal.invariant-loop-line
invariant-loop-line g l = AllZip IsLine l.ids.items (take l.line-index l.lines)
