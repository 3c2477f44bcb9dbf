use Rattle.std.proofs.lemmas.Result.{err_from_is_err_and}
use Rattle.gcmd.proofs.LinesLemmas.{Passes-all, Passes-failed, Passes-unflushed}
use Rattle.gcmd.proofs.lines.pass_each.Goals as goal

pub returns-in_err-ended : goal.returns-in_err-ended
returns-in_err-ended g c =
    let p = err_from_is_err_and c.from_residual.result c.from_residual.ensures.1 in
    rw p.1
    (Passes-failed g.S.Source g.W.Sink c.args.reader.now.source c.show_each.new.reader.source c.args.output.now c.show_each.new.output p.0
    c.in_err-ended.ensures)

pub returns-in_err-flush : goal.returns-in_err-flush
returns-in_err-flush g c =
    let p = err_from_is_err_and c.from_residual-in_err-flush.result c.from_residual-in_err-flush.ensures.1 in
    rw p.1
    (Passes-unflushed g.S.Source g.W.Sink c.args.reader.now.source c.show_each.new.reader.source c.args.output.now c.show_each.new.output
    c.flush.new.self _ p.0 c.in_ok-ended.ensures c.in_err-flush.ensures.bytes c.in_err-flush.ensures.kept c.in_err-flush.ensures.down
    c.in_err-flush.ensures.loans)

pub returns : goal.returns
returns g c =
    Passes-all g.S.Source g.W.Sink c.args.reader.now.source c.show_each.new.reader.source c.args.output.now c.show_each.new.output
    c.flush.new.self _ c.in_ok-ended.ensures c.in_ok-flush.ensures.bytes c.in_ok-flush.ensures.passed_on c.in_ok-flush.ensures.down
    c.in_ok-flush.ensures.loans
