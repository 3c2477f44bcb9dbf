use Rattle.std.proofs.Common.{◌++◌, ℕ, List, Ok, Err, codes, length, subst, ◌∙◌}
use Rattle.std.proofs.lemmas.Result.{err_from_is_err_and}
use Rattle.std.specs.Fmt.{decimal}
use Rattle.gcmd.specs.Lines.{digits_part}
use Rattle.gcmd.specs.steps.Outputs.{Puts}
use Rattle.gcmd.proofs.LinesLemmas.{Puts-after, Puts-more}
use Rattle.gcmd.proofs.lines.show_data.Goals as goal

pub returns-in_err-put : goal.returns-in_err-put
returns-in_err-put g c =
    let p = err_from_is_err_and c.from_residual.result c.from_residual.ensures.1 in
    let head = subst (λ (bytes : List ℕ). Puts g.W.Sink c.args.output.now c.put.new.sink (Err p.0) bytes) (c.as_slice.ensures.value ∙ c.compose_head.ensures) c.in_err-put.ensures in
    rw p.1
    (Puts-more g.W.Sink c.args.output.now c.put.new.sink (codes "data " ++ decimal (length c.args.payload.now))
    (digits_part c.args.payload.now ++ codes "\n") p.0 head)

pub returns-in_err-show_digits : goal.returns-in_err-show_digits
returns-in_err-show_digits g c =
    let p = err_from_is_err_and c.from_residual-in_err-show_digits.result c.from_residual-in_err-show_digits.ensures.1 in
    let head = subst (λ (bytes : List ℕ). Puts g.W.Sink c.args.output.now c.put.new.sink (Ok tt) bytes) (c.as_slice.ensures.value ∙ c.compose_head.ensures) c.in_ok-put.ensures in
    let more = Puts-more g.W.Sink c.put.new.sink c.show_digits.new.output (digits_part c.args.payload.now) (codes "\n") p.0 c.in_err-show_digits.ensures in
    rw p.1
    (Puts-after g.W.Sink c.args.output.now c.put.new.sink c.show_digits.new.output
    (codes "data " ++ decimal (length c.args.payload.now)) (digits_part c.args.payload.now ++ codes "\n") (Err p.0) head more)

pub returns : goal.returns
returns g c =
    let head = subst (λ (bytes : List ℕ). Puts g.W.Sink c.args.output.now c.put.new.sink (Ok tt) bytes) (c.as_slice.ensures.value ∙ c.compose_head.ensures) c.in_ok-put.ensures in
    let last = Puts-after g.W.Sink c.put.new.sink c.show_digits.new.output c.put-2.new.sink (digits_part c.args.payload.now) (codes "\n")
    c.put-2.result c.in_ok-show_digits.ensures c.put-2.ensures in
    Puts-after g.W.Sink c.args.output.now c.put.new.sink c.put-2.new.sink (codes "data " ++ decimal (length c.args.payload.now))
    (digits_part c.args.payload.now ++ codes "\n") c.put-2.result head last
