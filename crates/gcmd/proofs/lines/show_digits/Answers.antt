use Rattle.std.proofs.Common.{codes, sym}
use Rattle.std.proofs.lemmas.Result.{err_from_is_err_and}
use Rattle.hex.specs.Hex.{encode_lower}
use Rattle.gcmd.proofs.LinesLemmas.{digits_part-some, Puts-after, Puts-more}
use Rattle.gcmd.proofs.lines.show_digits.Goals as goal

pub returns-in_err-put : goal.returns-in_err-put
returns-in_err-put g c =
    let p = err_from_is_err_and c.from_residual.result c.from_residual.ensures.1 in
    let same = digits_part-some c.args.payload.now (sym c.if-is_empty.ensures) in
    rw (p.1, same)
    (Puts-more g.W.Sink c.args.output.now c.put.new.sink (codes " ") (encode_lower c.args.payload.now) p.0 c.in_err-put.ensures)

pub returns : goal.returns
returns g c =
    let same = digits_part-some c.args.payload.now (sym c.if-is_empty.ensures) in
    rw same
    (Puts-after g.W.Sink c.args.output.now c.put.new.sink c.put_digits.new.output (codes " ") (encode_lower c.args.payload.now)
    c.put_digits.result c.in_ok-put.ensures c.put_digits.ensures)
