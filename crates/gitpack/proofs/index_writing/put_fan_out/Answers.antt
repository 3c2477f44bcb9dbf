use Rattle.std.proofs.Common.{◌≡◌, ◌+◌, ◌++◌, ◌∙◌, refl, sym, ap, arith, get_or}
use Rattle.gitpack.specs.Indexes.{ids_within}
use Rattle.gitpack.proofs.IndexLemmas.{fan_out-more, fan_out-none, ids_below-next, ids_up_to}
use Rattle.gitpack.proofs.index_writing.put_fan_out.Goals as goal

pub loop-byte-init : goal.loop-byte-init
loop-byte-init g c = record { put = fan_out-none c.args.out.now.items c.args.entries.now; counted = refl }

pub loop-byte-preserved : goal.loop-byte-preserved
loop-byte-preserved g c =
    let byte = c.loop-byte.byte in
    let entries = c.args.entries.now in
    let total = c.loop-byte.total + get_or c.count_by_first-counts.result byte 0 in
    let counted : total ≡ ids_within byte entries =
    omega (arith, c.loop-byte.invariant.counted, c.count_by_first-counts.ensures byte (omega arith), ids_up_to byte entries) in
    record {
      put = fan_out-more c.args.out.now.items c.loop-byte.out.items c.extend_from_slice.new.self.items byte total entries c.loop-byte.invariant.put counted
          (c.in_ok-extend_from_slice.ensures.items ∙ ap (λ l. c.loop-byte.out.items ++ l) c.to_be_bytes.ensures);
      counted = counted ∙ sym (ids_below-next byte entries);
    }
