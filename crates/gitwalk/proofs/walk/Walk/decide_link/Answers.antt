use Rattle.std.proofs.Common.{Some, true≢false, refl, subst, sym, ◌∙◌}
use Rattle.gitwalk.specs.steps.Walking.{Decides}
use Rattle.gitwalk.proofs.WalkLemmas.{notes_other, notes_tree}
use Rattle.gitwalk.specs.declared.fates.Decided.{Decided}
use Rattle.gitwalk.specs.declared.walk.PendingTree.{PendingTree}
use Rattle.gitwalk.proofs.walk.Walk.decide_link.Goals as goal

pub returns-then-not-leads_to_tree : goal.returns-then-not-leads_to_tree
returns-then-not-leads_to_tree g c =
    let old = c.args.self.now in let link = c.args.link in let said = c.in_ok-found.ensures in
    let sets = subst (λ f. Decides g.S.WalkedStore.located old link.id (Some link.kind) c.args.fate f c.decide.new.self) c.in-Some.is said.decides in
    let d : Decided = record { fate = c.args.fate; found = c.in-Some.found; kind = Some link.kind } in
    notes_other g.S.WalkedStore.located old c.decide.new.self link d said.received said.trees sets refl
    (λ is. true≢false (sym (c.leads_to_tree.ensures.1 is) ∙ c.if-not-leads_to_tree.true))

pub returns : goal.returns
returns g c =
    let old = c.args.self.now in let link = c.args.link in let said = c.in_ok-found.ensures in
    let sets = subst (λ f. Decides g.S.WalkedStore.located old link.id (Some link.kind) c.args.fate f c.decide.new.self) c.in-Some.is said.decides in
    let d : Decided = record { fate = c.args.fate; found = c.in-Some.found; kind = Some link.kind } in
    let t : PendingTree = record { id = link.id; found = c.in-Some.found; fate = c.args.fate } in
    notes_tree g.S.WalkedStore.located old _ link d t c.decide.new.self.trees.items said.received said.trees c.in_ok-push.ensures.items sets refl refl refl
