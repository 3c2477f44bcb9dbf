use Rattle.std.proofs.Common.{ap, subst, sym}
use Rattle.gsession.specs.Keeping.{KeepsGraph}
use Rattle.gworld.specs.Sound.{IsSound}
use Rattle.gworld.specs.Worlds.{WorldState, tools_of}
use Rattle.gworld.proofs.Starting.{made_kept, starts_soundly}
use Rattle.gworld.proofs.keeping_world.KeepingWorld.new.Goals as goal

pub invariant_of-result : goal.invariant_of-result
invariant_of-result g c =
    let tools = tools_of (g.P.Packer.packs c.args.packer) (g.P.Packer.pack_fails c.args.packer)
    g.I.KeepingIndexer.indexes g.I.KeepingIndexer.index_fails in (
      subst (λ (w : WorldState g.row.A.Denot). IsSound tools w) (sym c.in_ok-parts.ensures.0)
          (starts_soundly tools c.args.server c.args.repo c.in_ok-parts.ensures.1),
      c.in-None.ensures,
    )

pub returns-in-None : goal.returns-in-None
returns-in-None g c = (
  ap (made_kept c.args.packer c.args.indexer) c.in_ok-parts.ensures.0,
  c.in_ok-parts.ensures.1,
  subst (λ (w : WorldState g.row.A.Denot). KeepsGraph (g.I.KeepingIndexer.keeps c.args.indexer) w.repo.graph.entries)
      c.in_ok-parts.ensures.0 c.in-None.ensures,
)
