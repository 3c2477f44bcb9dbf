use Rattle.std.proofs.Common.{◌++◌}
use Rattle.std.proofs.KnownBytes.{Appends-trans}
use Rattle.std.proofs.lemmas.Result.{err_from_is_err_and, on_err_weaker}
use Rattle.gpkt.specs.PacketWriting.{AppendsFront}
use Rattle.gpkt.proofs.Pieces.{AppendsFront-more, AppendsFront-after}
use Rattle.gpkt.proofs.Steps.{change}
use Rattle.gpkt.proofs.put.put_packet.Goals as goal

pub returns-in_err-write_all-clause-err : goal.returns-in_err-write_all-clause-err
returns-in_err-write_all-clause-err g c =
    let p = err_from_is_err_and c.from_residual.result c.from_residual.ensures.1 in
    rw p.1 (AppendsFront-more _ _ _ _ c.in_err-write_all.ensures.err)

pub returns-in_err-write_all-2-clause-err : goal.returns-in_err-write_all-2-clause-err
returns-in_err-write_all-2-clause-err g c =
    let p = err_from_is_err_and c.from_residual-in_err-write_all-2.result c.from_residual-in_err-write_all-2.ensures.1 in
    rw p.1
    (AppendsFront-after _ _ _ _ _ c.in_ok-write_all.ensures.ok (AppendsFront-more _ _ _ _ (AppendsFront-more _ _ _ _ c.in_err-write_all-2.ensures.err)))

pub returns-in_err-write_all-3-clause-err : goal.returns-in_err-write_all-3-clause-err
returns-in_err-write_all-3-clause-err g c =
    let p = err_from_is_err_and c.from_residual-in_err-write_all-3.result c.from_residual-in_err-write_all-3.ensures.1 in
    rw p.1
    (AppendsFront-after _ _ _ _ _ c.in_ok-write_all.ensures.ok (AppendsFront-more _ _ _ _ (AppendsFront-after _ _ _ _ _ c.in_ok-write_all-2.ensures.ok c.in_err-write_all-3.ensures.err)))

pub returns-clause-err : goal.returns-clause-err
returns-clause-err g c =
    let old = g.W.Sink.contents c.args.sink.now in
    let mid = g.W.Sink.contents c.write_all-3.new.sink in
    let new = g.W.Sink.contents c.write_all-4.new.sink in
    let front = c.args.first.now ++ c.args.second.now in
    let whole : AppendsFront (change mid new) c.args.end.now → AppendsFront (change old new) (c.args.digits.now ++ (front ++ c.args.end.now)) =
    λ last. AppendsFront-after _ _ _ _ _ c.in_ok-write_all.ensures.ok (AppendsFront-after _ _ _ _ _ (Appends-trans _ _ _ _ _ c.in_ok-write_all-2.ensures.ok c.in_ok-write_all-3.ensures.ok) last) in
    on_err_weaker {P = AppendsFront (change mid new) c.args.end.now} {Q = AppendsFront (change old new) (c.args.digits.now ++ (front ++ c.args.end.now))} c.write_all-4.result whole c.write_all-4.ensures.err
