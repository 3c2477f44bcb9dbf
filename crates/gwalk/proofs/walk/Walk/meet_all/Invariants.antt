use Rattle.std.proofs.Common.{ℕ, List, ◌++◌, take}
use Rattle.gdag.specs.Levels.{new_ids}
use Rattle.gwalk.specs.Marks.{stop_at}
use Rattle.gwalk.specs.Walks.{HasMet}
use Rattle.gwalk.proofs.walk.Walk.meet_all.Given as goal

abbrev pub invariant-loop-id : goal.invariant-loop-id
invariant-loop-id g l =
    (before : List (List ℕ)) → HasMet (stop_at l.known l.graph.entries) before l.initial.self.marks.items l.initial.self.met.items l.initial.self.missing l.initial.self.parent_count → HasMet (stop_at l.known l.graph.entries) (before ++ new_ids before (take l.id-index l.ids)) l.self.marks.items l.self.met.items l.self.missing l.self.parent_count
