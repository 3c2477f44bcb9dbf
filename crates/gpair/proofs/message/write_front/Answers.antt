use Rattle.std.proofs.Common.{take, rules, sym, subst}
use Rattle.std.proofs.KnownBytes.{Appends-trans}
use Rattle.std.proofs.Math.Seq.{take-add}
use Rattle.std.proofs.lemmas.List.{take_rest}
use Rattle.std.specs.Io.KnownBytes.{Appends}
use Rattle.gpair.proofs.message.write_front.Goals as goal

pub loop-count-preserved : goal.loop-count-preserved
loop-count-preserved g c =
    let bytes = c.args.bytes.now in
    let count = c.loop-count.count in
    let old = g.W.Sink.contents c.args.sink.now in
    let mid = g.W.Sink.contents c.loop-count.sink in
    let new = g.W.Sink.contents c.write.new.self in
    record {
      within = search rules;
      bytes =
          subst (Appends old new) (sym (take-add count c.in-Ok.more bytes))
          (Appends-trans old mid new _ _ c.loop-count.invariant.bytes
          (subst (λ rest. Appends mid new (take c.in-Ok.more rest)) (take_rest bytes count) c.in-Ok.ensures.bytes));
      same_loans = search rules;
    }
