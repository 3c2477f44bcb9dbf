use Rattle.std.proofs.Common.{[], ◌∷◌, ◌++◌, ◌∙◌}
use Rattle.gcomplete.proofs.Kept.{keeps_more}
use Rattle.gitobject.specs.Entries.{entry_of}
use Rattle.gitobject.proofs.EntryLemmas.{entries_more, tree_more}
use Rattle.gitrepository.proofs.LinkLemmas.{entries_needed, tree_needed}
use Rattle.gitrepository.proofs.needs.Needs.note_entries.Goals as goal

pub loop-rest-preserved : goal.loop-rest-preserved
loop-rest-preserved g c =
    let inv = c.loop-rest.invariant in
    let parts = c.in-Some.parts in
    let begins = c.in-Some.ensures.entry in
    let old = c.loop-rest.self in let new = c.note_some.new.self in let keeps = c.note_some.ensures.keeps in (
      inv.0 ++ entry_of parts.0 ∷ [],
      entries_more inv.0 (entry_of parts.0) inv.1 begins.is,
      tree_more c.args.body.now c.loop-rest.rest.now parts.1.now inv.0 (entry_of parts.0) inv.2 begins.parts,
      entries_needed old new keeps inv.0 (entry_of parts.0) c.link.result (c.link.ensures ∙ c.in-Some.ensures.link) inv.3
          c.in_default-note_some.ensures.noted,
      keeps_more c.args.self.now old new inv.4 keeps,
    )

pub returns-clause-noted : goal.returns-clause-noted
returns-clause-noted g c =
    let inv = c.loop-rest.invariant in
    tree_needed c.loop-rest.self c.args.body.now c.loop-rest.rest.now inv.0 inv.1 inv.2 (c.is_over.ensures.0 c.loop-rest-test.false) inv.3

pub returns-clause-keeps : goal.returns-clause-keeps
returns-clause-keeps g c = c.loop-rest.invariant.4
