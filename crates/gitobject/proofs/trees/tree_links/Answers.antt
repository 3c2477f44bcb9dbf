use Rattle.std.proofs.Common.{[], ◌∷◌, ◌++◌, ◌∙◌, sym}
use Rattle.std.proofs.lemmas.Bool.{false≢true}
use Rattle.gitobject.specs.Entries.{entry_of}
use Rattle.gitobject.proofs.EntryLemmas.{entries_more, links_more, no_tree, tree_more}
use Rattle.gitobject.proofs.trees.tree_links.Goals as goal

pub returns-in_default : goal.returns-in_default
returns-in_default g c has =
    let inv = c.loop-rest.invariant in
    no_tree c.args.body.now c.loop-rest.rest.now inv.0 inv.1 inv.2 (λ e. false≢true (sym c.loop-rest-test.true ∙ c.is_over.ensures.1 e))
    c.in_default.ensures.entry has.1.0 has.1.1

pub loop-rest-preserved : goal.loop-rest-preserved
loop-rest-preserved g c =
    let inv = c.loop-rest.invariant in
    let parts = c.in-Some.parts in
    let begins = c.in-Some.ensures.entry in (
      inv.0 ++ entry_of parts.0 ∷ [],
      entries_more inv.0 (entry_of parts.0) inv.1 begins.is,
      tree_more c.args.body.now c.loop-rest.rest.now parts.1.now inv.0 (entry_of parts.0) inv.2 begins.parts,
      links_more inv.0 (entry_of parts.0) c.link.result c.loop-rest.links.items c.push_some.new.links.items inv.3
          (c.link.ensures ∙ c.in-Some.ensures.link) c.in_default-push_some.ensures,
    )
