use Rattle.std.proofs.Common.{All}
use Rattle.gitpack.specs.Indexes.{IsLine, line_of}
use Rattle.gitpack.proofs.resolving.list_objects.Given as goal

abbrev pub invariant-loop-scanned : goal.invariant-loop-scanned
invariant-loop-scanned g l = All (λ e. IsLine (line_of e)) l.objects.items
