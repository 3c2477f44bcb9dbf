use Rattle.std.proofs.Common.{◌≡◌, take}
use Rattle.gwalk.specs.steps.Passes.{IsCounted, MarksAll}
use Rattle.gwalk.proofs.ordered.down.Pass.know_all.Given as goal

abbrev pub invariant-loop-id : goal.invariant-loop-id
invariant-loop-id g l = record {
  counted : IsCounted l.self.wanted.items l.self.known.items l.self.next l.self.pending;
  known : MarksAll l.graph.entries (take l.id-index l.ids) l.initial.self.known.items l.self.known.items;
  wanted : l.self.wanted.items ≡ l.initial.self.wanted.items;
  next : l.self.next ≡ l.initial.self.next;
}
