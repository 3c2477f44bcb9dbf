use Rattle.std.proofs.Common.{◌∷◌, ◌++◌, []}
use Rattle.gitconfig.specs.Configs.{IsConfig, setting_of}
use Rattle.gitconfig.proofs.ReadingLemmas.{items_end, items_more, settings_end, settings_more}
use Rattle.gitconfig.proofs.reading.parse_config.Goals as goal

pub loop-rest-preserved : goal.loop-rest-preserved
loop-rest-preserved g c =
    let inv = c.loop-rest.invariant in
    let read = c.in_ok-rest.ensures.item in
    let item = read.0 in (
      inv.0 ++ item ∷ [],
      items_more c.args.text.now c.loop-rest.rest.now c.in_ok-rest.rest.now inv.0 item inv.1 read.1,
      settings_more inv.0 item _ _ _ _ inv.2 read.2.0 read.2.1,
    )

pub returns : goal.returns
returns g c =
    let inv = c.loop-rest.invariant in
    record { items = inv.0; has = items_end c.args.text.now c.loop-rest.rest.now inv.0 inv.1 (c.is_over.ensures.0 c.loop-rest-test.false); is = settings_end inv.0 _ _ inv.2 }
