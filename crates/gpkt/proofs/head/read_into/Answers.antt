use Rattle.std.proofs.Common.{◌≤◌, length, length-take-le, Some, Ok, ap, ◌∙◌, arith}
use Rattle.std.proofs.lemmas.Result.{err_from_is_err_and}
use Rattle.gpkt.specs.Packets.{max_payload}
use Rattle.gpkt.specs.steps.Heads.{ReadsHead}
use Rattle.gpkt.specs.declared.head.Head.TheVariants as head
use Rattle.gpkt.proofs.Steps.{change, Reads-from_refused, Reads-from_cut, Reads-from_payload}
use Rattle.gpkt.proofs.head.read_into.Goals as goal

pub returns-in_err-found-clause-bytes : goal.returns-in_err-found-clause-bytes
returns-in_err-found-clause-bytes g c =
    let p = err_from_is_err_and c.from_residual.result c.from_residual.ensures.1 in
    rw (p.1, p.2) (Reads-from_refused _ _ _ c.in_err-found.ensures.bytes)

pub returns-in_err-read_payload-clause-bytes : goal.returns-in_err-read_payload-clause-bytes
returns-in_err-read_payload-clause-bytes g c =
    let p = err_from_is_err_and c.from_residual-in_err-read_payload.result c.from_residual-in_err-read_payload.ensures.1 in
    let same = c.in-Some-Data.is ∙ ap Some (rw c.in-Some-Data.is at c.in-Some-Data.field-0-is) in
    let first : ReadsHead (change (g.S.Source.remaining c.args.source.now) (g.S.Source.remaining c.read_head.new.source)) (Ok (Some (head.Data c.in-Some-Data.len))) = rw same at c.in_ok-found.ensures.bytes in
    let len = c.in-Some-Data.len in
    let fits : len ≤ max_payload = first.3.1 in
    let within : len ≤ length c.args.buffer.now = omega (arith, fits, c.requires) in
    let sized = c.read_payload.auto.payload ∙ length-take-le len c.args.buffer.now within in
    rw (p.1, p.2) (Reads-from_cut len c.read_payload.new.payload sized _ _ _ _ first c.in_err-read_payload.ensures.bytes)

pub returns-in_ok-read_payload-clause-bytes : goal.returns-in_ok-read_payload-clause-bytes
returns-in_ok-read_payload-clause-bytes g c =
    let same = c.in-Some-Data.is ∙ ap Some (rw c.in-Some-Data.is at c.in-Some-Data.field-0-is) in
    let first : ReadsHead (change (g.S.Source.remaining c.args.source.now) (g.S.Source.remaining c.read_head.new.source)) (Ok (Some (head.Data c.in-Some-Data.len))) = rw same at c.in_ok-found.ensures.bytes in
    let len = c.in-Some-Data.len in
    let fits : len ≤ max_payload = first.3.1 in
    let within : len ≤ length c.args.buffer.now = omega (arith, fits, c.requires) in
    let sized = c.read_payload.auto.payload ∙ length-take-le len c.args.buffer.now within in
    rw same (Reads-from_payload len c.read_payload.new.payload sized _ _ _ _ first c.in_ok-read_payload.ensures.bytes)
