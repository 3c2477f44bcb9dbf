use Rattle.std.proofs.Common.{◌≡◌, take}
use Rattle.gwalk.specs.steps.Passes.{IsCounted, MarksAll}
use Rattle.gwalk.proofs.ordered.down.Pass.want_all.Given as goal

abbrev pub invariant-loop-id : goal.invariant-loop-id
invariant-loop-id g l = record {
  counted : IsCounted l.self.wanted.items l.self.known.items l.self.next l.self.pending;
  wanted : MarksAll l.graph.entries (take l.id-index l.ids) l.initial.self.wanted.items l.self.wanted.items;
  known : l.self.known.items ≡ l.initial.self.known.items;
  next : l.self.next ≡ l.initial.self.next;
}
