use Rattle.std.proofs.Common.{take}
use Rattle.gitconfig.specs.steps.Writing.{AddsQuoted}
use Rattle.gitconfig.proofs.writing.push_quoted.Given as goal

abbrev pub invariant-loop-byte : goal.invariant-loop-byte
invariant-loop-byte g l = AddsQuoted (take l.byte-index l.value) l.initial.text.items l.text.items
