use Rattle.std.proofs.lemmas.Result.{on_ok_weaker}
use Rattle.gcmd.proofs.ReportLemmas.{put_standing}
use Rattle.gcmd.proofs.report.put_ask.Goals as goal

pub returns : goal.returns
returns g c =
    on_ok_weaker c.put_update.result
    (put_standing c.args.asks.now c.args.place _ _ c.args.update c.args.text.now.items c.put_update.new.text.items c.in-Some.ensures)
    c.put_update.ensures
