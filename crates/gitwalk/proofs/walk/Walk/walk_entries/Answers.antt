use Rattle.std.proofs.Common.{[], ◌∷◌, ◌++◌, ◌∙◌}
use Rattle.gitobject.specs.Entries.{entry_of}
use Rattle.gitobject.proofs.EntryLemmas.{entries_more, tree_more}
use Rattle.gitwalk.specs.Gathering.{is_sent}
use Rattle.gitwalk.proofs.WalkLemmas.{notes_entry, notes_tree_body}
use Rattle.gitwalk.proofs.walk.Walk.walk_entries.Goals as goal

pub loop-rest-preserved : goal.loop-rest-preserved
loop-rest-preserved g c =
    let inv = c.loop-rest.invariant in
    let parts = c.in-Some.parts in
    let begins = c.in-Some.ensures.entry in
    let new = c.settle_some.new.self in (
      inv.0 ++ entry_of parts.0 ∷ [],
      entries_more inv.0 (entry_of parts.0) inv.1 begins.is,
      tree_more c.args.body.now c.loop-rest.rest.now parts.1.now inv.0 (entry_of parts.0) inv.2 begins.parts,
      notes_entry g.S.WalkedStore.located c.args.self.now c.loop-rest.self new inv.0 (entry_of parts.0) c.link.result (is_sent c.args.fate) (is_sent c.of_entry.result)
          (c.link.ensures ∙ c.in-Some.ensures.link) c.of_entry.ensures inv.3 c.in_ok-settle_some.ensures,
    )

pub returns : goal.returns
returns g c =
    let inv = c.loop-rest.invariant in
    notes_tree_body g.S.WalkedStore.located c.args.self.now c.loop-rest.self c.args.body.now c.loop-rest.rest.now inv.0 (is_sent c.args.fate) inv.1 inv.2
    (c.is_over.ensures.0 c.loop-rest-test.false) inv.3
