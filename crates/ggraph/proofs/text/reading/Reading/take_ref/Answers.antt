use Rattle.std.proofs.Common.{Some, ◌∷◌, [], refl}
use Rattle.std.proofs.lemmas.Bool.Decides.{Decides-eqb}
use Rattle.std.proofs.lemmas.Slice.Eq.{strip_prefix_is}
use Rattle.ggraph.specs.declared.text.Order.TheVariants.{Any}
use Rattle.ggraph.proofs.ReadingLemmas.{no_ref_parts, ref_taken, ref_stopped}
use Rattle.ggraph.proofs.text.reading.Reading.take_ref.Goals as goal

pub returns-in_default-ref_parts-clause-refused : goal.returns-in_default-ref_parts-clause-refused
returns-in_default-ref_parts-clause-refused g c order =
    let is = strip_prefix_is Decides-eqb c.args.line.now (114 ∷ 32 ∷ []) (Some c.in-Some.text) c.in-Some.ensures.cases in
    (refl, no_ref_parts c.text_laws.ensures Any c.args.self.now c.args.line.now c.in-Some.text.now c.requires.stage is (rw c.format-format.ensures at c.in_default-ref_parts.ensures))

pub returns-clause-ok : goal.returns-clause-ok
returns-clause-ok g c order =
    let is = strip_prefix_is Decides-eqb c.args.line.now (114 ∷ 32 ∷ []) (Some c.in-Some.text) c.in-Some.ensures.cases in
    ref_taken c.text_laws.ensures order c.args.self.now c.args.line.now c.in-Some.text.now (c.in-Some-ref_parts.found.name.now, c.in-Some-ref_parts.found.id) c.requires.stage is c.in-Some-ref_parts.ensures.0 c.add_ref.new.refs c.add_ref.result (rw c.format-format.ensures at c.add_ref.ensures.ok)

pub returns-clause-refused : goal.returns-clause-refused
returns-clause-refused g c order =
    let is = strip_prefix_is Decides-eqb c.args.line.now (114 ∷ 32 ∷ []) (Some c.in-Some.text) c.in-Some.ensures.cases in
    ref_stopped c.text_laws.ensures order c.args.self.now c.args.line.now c.in-Some.text.now (c.in-Some-ref_parts.found.name.now, c.in-Some-ref_parts.found.id) c.requires.stage is c.in-Some-ref_parts.ensures.0 c.args.number c.add_ref.result (rw c.format-format.ensures at c.in-Some-ref_parts.ensures.1) (rw c.format-format.ensures at c.add_ref.ensures.refused)
