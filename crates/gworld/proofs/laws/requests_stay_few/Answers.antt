use Rattle.gworld.specs.Worlds.{tools_of}
use Rattle.gworld.specs.Promises.{AreRequestsFew}
use Rattle.gworld.proofs.Runs.{kept_on}
use Rattle.gworld.proofs.laws.requests_stay_few.Goals as goal

pub returns : goal.returns
returns g c = λ k w new events outcomes is run.
    let tools = tools_of (g.P.Packer.packs k) (g.P.Packer.pack_fails k) g.I.KeepingIndexer.indexes
    g.I.KeepingIndexer.index_fails in
    kept_on tools AreRequestsFew (λ v e outcome next promised. promised.few) w new events outcomes is run
