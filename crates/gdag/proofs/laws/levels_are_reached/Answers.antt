use Rattle.gdag.proofs.LevelReach as laws
use Rattle.gdag.proofs.laws.levels_are_reached.Goals as goal

pub returns : goal.returns
returns g c = λ h tips a. laws.levels_are_reached h tips a
