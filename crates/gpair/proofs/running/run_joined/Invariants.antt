use Rattle.std.proofs.Common.{◌≡◌}
use Rattle.gpair.proofs.running.run_joined.Given as goal

-- the dialogue begins with the side that the caller passes
abbrev pub ghosts-run_begun : goal.ghosts-run_begun
ghosts-run_begun g a = record { is_first = λ side. side ≡ a.side }
