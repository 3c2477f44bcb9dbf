use Rattle.std.proofs.Common.{[], ◌∷◌}
use Rattle.std.proofs.lemmas.List.Elements.{All-head}
use Rattle.gitwalk.specs.steps.Walking.{LeadsToCovered}
use Rattle.gitwalk.proofs.LookupLemmas.{leads_more, looked_up, looks_on}
use Rattle.gitwalk.proofs.WalkLemmas.{keeps_on}
use Rattle.gitwalk.proofs.walk.Walk.send_link.Goals as goal

pub returns-clause-keeps : goal.returns-clause-keeps
returns-clause-keeps g c =
    keeps_on c.args.self.now.fates c.settle_link.new.self.fates c.walk_trees.new.self.fates c.in_ok-settle_link.ensures.keeps c.in_ok-walk_trees.ensures.keeps

pub returns-clause-looks : goal.returns-clause-looks
returns-clause-looks g c way =
    let has = g.S.WalkedStore.has in let located = g.S.WalkedStore.located in
    c.in_ok-walk_trees.ensures.looks
    (looks_on has located [] c.args.self.now c.settle_link.new.self (c.args.link ∷ []) c.in_ok-settle_link.ensures way)

pub returns-clause-leads : goal.returns-clause-leads
returns-clause-leads g c way =
    let has = g.S.WalkedStore.has in let located = g.S.WalkedStore.located in let link = c.args.link in
    let mid = c.settle_link.new.self in let notes = c.in_ok-settle_link.ensures in let walk = c.in_ok-walk_trees.ensures in
    leads_more mid c.walk_trees.new.self walk.received walk.keeps link
    (looked_up has located [] mid (looks_on has located [] c.args.self.now mid (link ∷ []) notes way) link (All-head (LeadsToCovered mid) link [] notes.each))
