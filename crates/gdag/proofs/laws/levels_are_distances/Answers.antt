use Rattle.gdag.proofs.LevelLaws as laws
use Rattle.gdag.proofs.laws.levels_are_distances.Goals as goal

pub returns : goal.returns
returns g c = λ h tips. laws.levels_are_distances h tips
