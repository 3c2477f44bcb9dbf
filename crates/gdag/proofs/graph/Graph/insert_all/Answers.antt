use Rattle.std.proofs.Common.{◌∙◌, ◌≡◌, ◌↔◌, ◌++◌, ◌∷◌, inl, List, [], length, take, IsTrue, sym, ap, subst, arith, append_assoc}
use Rattle.std.proofs.lemmas.List.{append-nil}
use Rattle.std.specs.Vec.Iter.{into_iter_items}
use Rattle.gobject.specs.declared.node.Entry.{Entry}
use Rattle.gobject.specs.Objects.{node_at}
use Rattle.gname.specs.declared.formats.Format.{Format}
use Rattle.gdag.specs.Graphs.{IsGraph, IsOrdered}
use Rattle.gdag.specs.Insert.{ComesIn, IsCause, Inserts}
use Rattle.gdag.proofs.Growing.{inserts_more, inserts_grows, inserts_held, grows_keeps, grows_length, keeps_reaching, keeps_connected, cut_off, cut_back_again, refused}
use Rattle.gdag.proofs.Sharing.{adds_only, adds_only_parents}
use Rattle.gdag.proofs.graph.Graph.insert_all.Goals as goal

pub cut_back-requires : goal.cut_back-requires
cut_back-requires g c =
    let old = c.args.self.now in
    let front = c.loop-entry.yielded in
    let P : List (Entry g.row.A.Denot) → Type 0 = λ xs. IsTrue c.is_ordered-was_ordered.result ↔ IsOrdered xs in
    let same = ap (λ h. take c.len-before.result h.entries) c.in-Err.ensures.adds.0 in
    let back = cut_off old.format old.entries front c.loop-entry.self.entries c.len-before.result c.loop-entry.invariant.1 c.len-before.ensures.len in
    subst P (sym (same ∙ back)) c.is_ordered-was_ordered.ensures.ordered

pub returns-in-Err-clause-adds : goal.returns-in-Err-clause-adds
returns-in-Err-clause-adds g c =
    let old = c.args.self.now in
    let mid = c.loop-entry.self in
    let front = c.loop-entry.yielded in
    let entry = c.in-Some.entry in
    let i = c.loop-entry.invariant in
    let cause = subst (λ f. IsCause f mid.entries entry c.in-Err.fault) i.0 c.in-Err.ensures.adds.1 in
    let back = cut_back_again old mid c.insert.new.self c.cut_back.new.self front c.len-before.result i.0 i.1 c.in-Err.ensures.adds.0 c.len-before.ensures.len c.cut_back.ensures in
    let whole = sym c.into_iter-entry-iterator.ensures.into_iter_gives.0 ∙ sym i.2 ∙ ap (λ l. front ++ l) c.in-Some.ensures.steps.0 in
    (back, rw whole (refused old.format old.entries front entry _ mid.entries c.in-Err.fault i.1 cause))

pub loop-entry-preserved : goal.loop-entry-preserved
loop-entry-preserved g c =
    let old = c.args.self.now in
    let front = c.loop-entry.yielded in
    let mid = c.loop-entry.self in
    let entry = c.in-Some.entry in
    let i = c.loop-entry.invariant in
    let adds = c.in_default.ensures.adds in
    let comes = subst (λ f. ComesIn f mid.entries entry c.insert.new.self.entries) i.0 adds.1 in
    let more = inserts_more old.format old.entries front entry mid.entries c.insert.new.self.entries i.1 comes in
    let steps : into_iter_items c.loop-entry.entry-iterator ≡ entry ∷ into_iter_items c.next.new.self = c.in-Some.ensures.steps.0 in (
      adds.0 ∙ i.0,
      more,
      append_assoc front (entry ∷ []) _ ∙ rw (← steps) i.2,
      let was = i.3 in let gone = c.in-Some.ensures.steps.1 in let short = ap length steps in omega arith,
    )

pub returns-in-Err-clause-only : goal.returns-in-Err-clause-only
returns-in-Err-clause-only g c a node is =
    inl (ap (λ h. node_at h.entries a) (sym (returns-in-Err-clause-adds g c).0) ∙ is)

pub returns-in-Err-clause-only_parents : goal.returns-in-Err-clause-only_parents
returns-in-Err-clause-only_parents g c =
    adds_only_parents c.args.self.now.entries c.args.entries.items c.cut_back.new.self.entries
    (returns-in-Err-clause-only g c)

pub returns-in-Err-clause-grows : goal.returns-in-Err-clause-grows
returns-in-Err-clause-grows g c =
    ([], ap (λ h. h.entries) (returns-in-Err-clause-adds g c).0 ∙ sym (append-nil c.args.self.now.entries))

pub returns-in-Err-clause-keeps : goal.returns-in-Err-clause-keeps
returns-in-Err-clause-keeps g c =
    grows_keeps c.args.self.now.entries c.cut_back.new.self.entries (returns-in-Err-clause-grows g c)

pub returns-in-Err-clause-reaches : goal.returns-in-Err-clause-reaches
returns-in-Err-clause-reaches g c =
    keeps_reaching c.args.self.now.entries c.cut_back.new.self.entries (returns-in-Err-clause-keeps g c)

pub returns-in-Err-clause-connected : goal.returns-in-Err-clause-connected
returns-in-Err-clause-connected g c =
    keeps_connected c.args.self.now.entries c.cut_back.new.self.entries (returns-in-Err-clause-keeps g c)

pub returns-in-Err-clause-graph : goal.returns-in-Err-clause-graph
returns-in-Err-clause-graph g c = subst IsGraph (sym (returns-in-Err-clause-adds g c).0) c.len-before.ensures.graph

-- if no entries are left, all entries were inserted
all_in : {A : Type 0} (format : Format) (old entries front rest new : List (Entry A)) → front ++ rest ≡ entries → length rest ≡ 0 → Inserts format old front new → Inserts format old entries new
all_in format old entries front [] new is none comes =
    subst (λ l. Inserts format old l new) (sym (append-nil front) ∙ is) comes
all_in format old entries front (x ∷ rest) new is none comes = absurd (omega arith)

pub overflow_sub-result : goal.overflow_sub-result
overflow_sub-result g c =
    let old = c.args.self.now in
    let new = c.loop-entry.self.entries in
    let i = c.loop-entry.invariant in
    let all = all_in old.format old.entries c.args.entries.items c.loop-entry.yielded (into_iter_items c.loop-entry.entry-iterator) new (i.2 ∙ c.into_iter-entry-iterator.ensures.into_iter_gives.0) (sym i.3 ∙ c.in-None.ensures.steps.0) i.1 in
    let l = grows_length old.entries new (inserts_grows old.format old.entries c.args.entries.items new all) in
    let before = c.len-before.ensures.len in let after = c.len.ensures.len in
    omega arith

pub returns-clause-adds : goal.returns-clause-adds
returns-clause-adds g c =
    let old = c.args.self.now in
    let new = c.loop-entry.self.entries in
    let i = c.loop-entry.invariant in
    let all = all_in old.format old.entries c.args.entries.items c.loop-entry.yielded (into_iter_items c.loop-entry.entry-iterator) new (i.2 ∙ c.into_iter-entry-iterator.ensures.into_iter_gives.0) (sym i.3 ∙ c.in-None.ensures.steps.0) i.1 in
    let l = grows_length old.entries new (inserts_grows old.format old.entries c.args.entries.items new all) in
    let before = c.len-before.ensures.len in let after = c.len.ensures.len in
    (i.0, all, omega arith)

pub returns-clause-only : goal.returns-clause-only
returns-clause-only g c =
    let old = c.args.self.now in
    adds_only old.format old.entries c.args.entries.items c.loop-entry.self.entries (returns-clause-adds g c).1

pub returns-clause-only_parents : goal.returns-clause-only_parents
returns-clause-only_parents g c =
    adds_only_parents c.args.self.now.entries c.args.entries.items c.loop-entry.self.entries (returns-clause-only g c)

pub returns-clause-held : goal.returns-clause-held
returns-clause-held g c =
    let old = c.args.self.now in
    inserts_held old.format old.entries c.args.entries.items c.loop-entry.self.entries (returns-clause-adds g c).1

pub returns-clause-grows : goal.returns-clause-grows
returns-clause-grows g c =
    let old = c.args.self.now in
    inserts_grows old.format old.entries c.args.entries.items c.loop-entry.self.entries (returns-clause-adds g c).1

pub returns-clause-keeps : goal.returns-clause-keeps
returns-clause-keeps g c = grows_keeps c.args.self.now.entries c.loop-entry.self.entries (returns-clause-grows g c)

pub returns-clause-reaches : goal.returns-clause-reaches
returns-clause-reaches g c =
    keeps_reaching c.args.self.now.entries c.loop-entry.self.entries (returns-clause-keeps g c)

pub returns-clause-connected : goal.returns-clause-connected
returns-clause-connected g c = keeps_connected c.args.self.now.entries c.loop-entry.self.entries (returns-clause-keeps g c)
