use Rattle.std.proofs.Common.{All, arith, subst}
use Rattle.glsreply.specs.WellFormed.{IsRefLine}
use Rattle.glsreply.proofs.reply.LsReply.checked.Goals as goal

pub of_parts-requires : goal.of_parts-requires
of_parts-requires g c = (
  c.args.format,
  record {
    unborn = c.most_lines.ensures.name;
    lines = subst (All (IsRefLine c.args.format)) c.as_slice.ensures.value (c.are_ref_lines.ensures.0 c.if-not-are_ref_lines.false);
    few = omega (arith, c.most_lines.ensures.count, c.if-len-most_lines.false, c.len.ensures);
  },
)

pub returns : goal.returns
returns g c = (
  c.of_parts.ensures,
  rw c.of_parts.ensures (record {
    unborn = c.most_lines.ensures.name;
    lines = subst (All (IsRefLine c.args.format)) c.as_slice.ensures.value (c.are_ref_lines.ensures.0 c.if-not-are_ref_lines.false);
    few = omega (arith, c.most_lines.ensures.count, c.if-len-most_lines.false, c.len.ensures);
  }),
)
