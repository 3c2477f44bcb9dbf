use Rattle.std.proofs.Common.{sym, ◌∙◌}
use Rattle.std.proofs.lemmas.Bool.{false≢true}
use Rattle.gitobject.proofs.Readings.{no_tag_name, no_tag_type}
use Rattle.gitobject.proofs.links.tag_link.Goals as goal

pub returns-in_default : goal.returns-in_default
returns-in_default c target kind is = c.in_default.ensures.line target is.after_object is.object

pub returns-in_default-type_line : goal.returns-in_default-type_line
returns-in_default-type_line c =
    no_tag_type c.args.body.now c.in-Some.object.1.now c.in-Some.object.0 c.in-Some.ensures.line c.in_default-type_line.ensures

pub returns-else-has_name : goal.returns-else-has_name
returns-else-has_name c =
    no_tag_name c.args.body.now c.in-Some.object.1.now c.in-Some.object.0 c.in-Some.ensures.line c.in-Some-type_line.named.0
    c.in-Some-type_line.named.1.now c.in-Some-type_line.ensures (λ named. false≢true (sym c.if-has_name.false ∙ c.has_name.ensures.1 named))
