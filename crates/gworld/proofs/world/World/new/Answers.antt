use Rattle.std.proofs.Common.{subst, sym}
use Rattle.gworld.specs.Sound.{IsSound}
use Rattle.gworld.specs.Worlds.{WorldState, new_world, tools_of}
use Rattle.gworld.proofs.Starting.{made_same, starts_soundly}
use Rattle.gworld.proofs.world.World.new.Goals as goal

pub invariant_of-result : goal.invariant_of-result
invariant_of-result g c =
    let tools = tools_of (g.K.Packer.packs c.args.tools) (g.K.Packer.pack_fails c.args.tools)
    g.K.Indexer.indexes g.K.Indexer.index_fails in
    subst (λ (w : WorldState g.row.A.Denot). IsSound tools w) (sym c.in_ok-parts.ensures.0)
    (starts_soundly tools c.args.server c.args.repo c.in_ok-parts.ensures.1)

pub returns : goal.returns
returns g c = (
  made_same c.args.tools c.in_ok-parts.parts (new_world c.args.server c.args.repo) c.in_ok-parts.ensures.0,
  c.in_ok-parts.ensures.1,
)
