use Rattle.gwalk.proofs.Marking.{AreJoined, less}
use Rattle.gwalk.proofs.sending.new_marks.Given as goal

abbrev pub invariant-loop-position : goal.invariant-loop-position
invariant-loop-position g l = AreJoined less l.wanted.marks.items l.known.marks.items l.marks.items l.position
