use Rattle.gworld.specs.Worlds.{tools_of}
use Rattle.gworld.proofs.Connected.{step_connected}
use Rattle.gworld.proofs.laws.ends_stay_connected.Goals as goal

pub returns : goal.returns
returns g c = λ k w new event outcome ends listed.
    step_connected (tools_of (g.P.Packer.packs k) (g.P.Packer.pack_fails k) g.I.KeepingIndexer.indexes
    g.I.KeepingIndexer.index_fails)
    c.taking_only_grows.ensures c.refusals_change_nothing.ensures c.servers_grow.ensures
    (record {
      closed = c.closed_stays.ensures;
      growing = c.connected_repo_stays.ensures;
      settling = c.settling_stays_connected.ensures;
      setting = c.setting_stays_connected.ensures;
    }) w new ends listed event outcome
