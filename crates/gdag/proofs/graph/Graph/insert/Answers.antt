use Rattle.std.proofs.Common.{[], ◌∷◌, arith}
use Rattle.std.proofs.lemmas.Grind.{common_steps}
use Rattle.gdag.proofs.Growing.{comes_held, comes_grows, grows_keeps, keeps_reaching, keeps_connected}
use Rattle.gdag.proofs.Sharing.{comes_only, adds_only_parents}
use Rattle.gdag.proofs.graph.Graph.insert.Goals as goal

pub returns-clause-adds : goal.returns-clause-adds
returns-clause-adds g c = grind (arith, common_steps)

pub returns-clause-held : goal.returns-clause-held
returns-clause-held g c = comes_held _ _ _ _ (returns-clause-adds g c).1

pub returns-clause-only : goal.returns-clause-only
returns-clause-only g c a node = comes_only _ _ _ [] a node (returns-clause-adds g c).1.comes

pub returns-clause-only_parents : goal.returns-clause-only_parents
returns-clause-only_parents g c =
    adds_only_parents c.args.self.now.entries (c.args.entry ∷ []) c.if-is_new.self.entries (returns-clause-only g c)

pub returns-clause-keeps : goal.returns-clause-keeps
returns-clause-keeps g c = grows_keeps _ _ (comes_grows _ _ _ _ (returns-clause-adds g c).1)

pub returns-clause-reaches : goal.returns-clause-reaches
returns-clause-reaches g c = keeps_reaching c.args.self.now.entries c.if-is_new.self.entries (returns-clause-keeps g c)

pub returns-clause-connected : goal.returns-clause-connected
returns-clause-connected g c = keeps_connected c.args.self.now.entries c.if-is_new.self.entries (returns-clause-keeps g c)
