use Rattle.std.proofs.Common.{◌∙◌, subst, sym, arith}
use Rattle.std.proofs.lemmas.Bool.{false≢true}
use Rattle.gitcommitgraph.specs.Files.{HaveEnds, IsAscending}
use Rattle.gitcommitgraph.specs.steps.Layers.{table}
use Rattle.gitcommitgraph.specs.steps.Tables.{IsFanOut}
use Rattle.gitcommitgraph.proofs.ExactLemmas.{has_ends, is_ascending, is_fan_out}
use Rattle.gitcommitgraph.proofs.layer.test_tables.Goals as goal

pub returns-then-not-are_ascending : goal.returns-then-not-are_ascending
returns-then-not-are_ascending c old file is =
    let up = is_ascending c.args.bytes.now c.args.places.now c.requires file is (omega arith) in
    false≢true (sym c.if-not-are_ascending.true ∙ c.are_ascending.ensures.1 (subst IsAscending (sym c.tables_of-tables.ensures.ids) up))

pub returns-then-not-is_fan_out : goal.returns-then-not-is_fan_out
returns-then-not-is_fan_out c old file is =
    let fans = is_fan_out c.args.bytes.now c.args.places.now c.requires file is (omega arith) in
    false≢true (sym c.if-not-is_fan_out.true
    ∙ c.is_fan_out.ensures.1 (subst (λ ids. IsFanOut c.tables_of-tables.result.fan_out.now ids) (sym c.tables_of-tables.ensures.ids)
    (subst (λ rows. IsFanOut rows (table 20 c.args.bytes.now c.args.places.now.ids)) (sym c.tables_of-tables.ensures.fan_out) fans)))

pub returns-then-not-lists_end : goal.returns-then-not-lists_end
returns-then-not-lists_end c old file is =
    let ends = has_ends c.args.bytes.now c.args.places.now c.requires file is (omega arith) in
    false≢true (sym c.if-not-lists_end.true
    ∙ c.lists_end.ensures.1 (subst (λ rows. HaveEnds c.tables_of-tables.result.edges.now rows) (sym c.tables_of-tables.ensures.rows)
    (subst (λ edges. HaveEnds edges (table 36 c.args.bytes.now c.args.places.now.rows)) (sym c.tables_of-tables.ensures.edges) ends)))
