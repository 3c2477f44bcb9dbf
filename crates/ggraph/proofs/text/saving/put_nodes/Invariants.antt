use Rattle.std.proofs.Common.{◌≡◌, ◌++◌, take, map}
use Rattle.gobject.specs.PlainPackText.{node_text, text_of}
use Rattle.ggraph.proofs.text.saving.put_nodes.Given as goal

abbrev pub invariant-loop-place : goal.invariant-loop-place
invariant-loop-place g l = l.text.items ≡ l.initial.text.items ++ text_of (map node_text (take l.place l.graph.entries))
