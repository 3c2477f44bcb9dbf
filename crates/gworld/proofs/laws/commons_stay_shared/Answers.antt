use Rattle.std.proofs.Common.{◌∙◌}
use Rattle.gworld.specs.Worlds.{tools_of}
use Rattle.gworld.specs.Promises.{AreCommonsShared}
use Rattle.gworld.proofs.Runs.{kept_on, unforged_on}
use Rattle.gworld.proofs.laws.commons_stay_shared.Goals as goal

pub returns : goal.returns
returns g c = λ k w new events outcomes unforged is none run.
    let tools = tools_of (g.P.Packer.packs k) (g.P.Packer.pack_fails k) g.I.KeepingIndexer.indexes
    g.I.KeepingIndexer.index_fails in (
      unforged_on tools w new events outcomes none run ∙ unforged,
      kept_on tools AreCommonsShared (λ v e outcome next promised. promised.commons) w new events outcomes is run,
    )
