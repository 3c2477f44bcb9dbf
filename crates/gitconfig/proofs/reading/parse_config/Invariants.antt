use Rattle.std.proofs.Common.{◌≡◌, ℕ, [], List, ◌++◌, length, map}
use Rattle.gitconfig.specs.Configs.{HasItems, Item, setting_of, settings_of}
use Rattle.gitconfig.proofs.reading.parse_config.Given as goal

abbrev pub invariant-loop-rest : goal.invariant-loop-rest
invariant-loop-rest g l =
    (done : List Item)
    × ((more : List Item) → HasItems l.rest more → HasItems l.text (done ++ more))
    × ((more : List Item) → settings_of [] (done ++ more)
    ≡ map setting_of l.reading.settings.items ++ settings_of l.reading.section.items more)

abbrev pub decreases-loop-rest : goal.decreases-loop-rest
decreases-loop-rest g l = length l.rest
