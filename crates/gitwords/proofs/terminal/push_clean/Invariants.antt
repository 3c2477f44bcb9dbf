use Rattle.std.proofs.Common.{◌≡◌, ◌++◌, take}
use Rattle.gitwords.specs.Clean.{clean_text}
use Rattle.gitwords.proofs.terminal.push_clean.Given as goal

abbrev pub invariant-loop-byte : goal.invariant-loop-byte
invariant-loop-byte g l = l.text.items ≡ l.initial.text.items ++ clean_text l.shown (take l.byte-index l.bytes)
