use Rattle.std.proofs.Common.{refl, rules}
use Rattle.gobject.specs.Packs.{MayPack}
use Rattle.gtcp.proofs.ServingLemmas.{serves_between}
use Rattle.gtcp.proofs.serving.serve_between.Goals as goal

pub returns : goal.returns
returns g c =
    rw (← c.new.ensures.packer)
    (serves_between c.args.export.now.server.now (MayPack (g.K.Packer.packs c.new.result.packer))
    (g.K.Packer.pack_fails c.new.result.packer) c.args.export.now.path.now c.args.export.now.ends _ _ _ _
    c.serve_git.result (search rules) (search rules) refl c.new-source.ensures.down c.new-sink.ensures.down
    c.serve_git.ensures.serves)
