use Rattle.std.proofs.Common.{sym, ap, subst, ◌∙◌}
use Rattle.glsreply.specs.steps.WellFormed.{IsLine}
use Rattle.glsreply.specs.WellFormed.{has_one_format}
use Rattle.glsreply.proofs.ValueLemmas.{pushed_value_at, pushes_at}
use Rattle.glsreply.proofs.reply.LsReply.push.Goals as goal

pub invariant_of-self : goal.invariant_of-self
invariant_of-self g c =
    let goes = ap (λ lines. has_one_format lines c.args.line) (sym c.lines.ensures.lines) ∙ (sym c.has_one_format.ensures ∙ c.if-not-has_one_format.false) in
    let room = sym c.has_room.ensures.room ∙ c.if-not-has_room.false in
    pushed_value_at c.ids_have_one_format.ensures c.args.self.now (record { unborn = c.self.inside.unborn; lines = c.self.inside.lines.items }) c.args.line c.self.view_is c.self.invariant
    (subst IsLine c.lend.ensures c.laws.ensures) goes room c.push_ref_line.new.lines.items c.push_ref_line.result c.push_ref_line.ensures

pub returns : goal.returns
returns g c =
    let goes = ap (λ lines. has_one_format lines c.args.line) (sym c.lines.ensures.lines) ∙ (sym c.has_one_format.ensures ∙ c.if-not-has_one_format.false) in
    let room = sym c.has_room.ensures.room ∙ c.if-not-has_room.false in
    pushes_at c.ids_have_one_format.ensures c.args.self.now (record { unborn = c.self.inside.unborn; lines = c.self.inside.lines.items }) c.args.line c.self.view_is c.self.invariant
    (subst IsLine c.lend.ensures c.laws.ensures) goes room c.push_ref_line.new.lines.items c.push_ref_line.result c.push_ref_line.ensures
