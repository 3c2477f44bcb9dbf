use Rattle.std.proofs.Common.{◌≡◌}
use Rattle.gitrepository.proofs.history.History.add.Given as goal

abbrev pub invariant-loop : goal.invariant-loop
invariant-loop g l = l.self.commits ≡ l.initial.self.commits
