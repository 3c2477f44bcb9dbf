use Rattle.std.proofs.lemmas.List.Elements.{All-push, All-same}
use Rattle.std.proofs.Common.{[], ◌∷◌, ◌++◌}
use Rattle.gitpack.specs.Indexes.{IsLine, line_of}
use Rattle.gitpack.specs.declared.indexing.IndexedEntry.{IndexedEntry}
use Rattle.gitpack.proofs.resolving.list_objects.Goals as goal

pub loop-scanned-preserved : goal.loop-scanned-preserved
loop-scanned-preserved g c =
    let P : IndexedEntry → Type 0 = λ e. IsLine (line_of e) in
    let object : IndexedEntry = record { entry = c.line_of-entry.result; kind = c.in-Some.object.kind } in
    All-same P c.push.new.self.items (c.loop-scanned.objects.items ++ object ∷ []) c.in_ok-push.ensures.items (All-push P c.loop-scanned.objects.items object c.loop-scanned.invariant c.line_of-entry.ensures)
