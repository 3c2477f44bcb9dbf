use Rattle.std.proofs.Common.{◌≡◌, ◌++◌, take, map}
use Rattle.gobject.specs.PlainPackText.{text_of}
use Rattle.ggraph.specs.RepositoryText.{ref_line}
use Rattle.ggraph.proofs.text.saving.put_refs.Given as goal

abbrev pub invariant-loop-pair : goal.invariant-loop-pair
invariant-loop-pair g l = l.text.items ≡ l.initial.text.items ++ text_of (map ref_line (take l.pair-index l.refs))
