use Rattle.std.proofs.Common.{◌∙◌, sym, subst, arith}
use Rattle.std.proofs.lemmas.Bool.{false≢true}
use Rattle.gitcommitgraph.specs.steps.Rows.{IsTable}
use Rattle.gitcommitgraph.specs.steps.Layers.{HaveLengths}
use Rattle.gitcommitgraph.proofs.ExactLemmas.{has_chunks, has_header, has_table, have_lengths}
use Rattle.gitcommitgraph.proofs.TextLemmas.{cut_is}
use Rattle.gitcommitgraph.proofs.layer.read_places.Goals as goal

pub returns-in_default-read_header : goal.returns-in_default-read_header
returns-in_default-read_header c old file is =
    let cut = c.in-Some.ensures.cases in
    has_header file c.args.bytes.now is (λ chunks bases rest same. c.in_default-read_header.ensures chunks bases rest (cut.0 ∙ same))

pub returns-in_default-read_rows : goal.returns-in_default-read_rows
returns-in_default-read_rows c old file is =
    let cut = c.in-Some.ensures.cases in
    let head = c.in-Some-read_header.ensures in
    let header = c.in-Some-read_header.header in
    has_table file c.args.bytes.now is (omega arith) header.chunks header.bases head.0 (sym cut.0 ∙ head.1)
    (λ rows table. c.in_default-read_rows.ensures rows (subst (λ b. IsTable header.chunks b rows) (sym cut.0) table))

pub returns-in_default-find_places : goal.returns-in_default-find_places
returns-in_default-find_places c old file is =
    let cut = c.in-Some.ensures.cases in
    let head = c.in-Some-read_header.ensures in
    let header = c.in-Some-read_header.header in
    has_chunks file c.args.bytes.now is (omega arith) header.chunks header.bases head.0 (sym cut.0 ∙ head.1)
    c.in-Some-read_rows.rows.now (subst (λ b. IsTable header.chunks b c.in-Some-read_rows.rows.now) cut.0 c.in-Some-read_rows.ensures) c.in_default-find_places.ensures

pub returns-then-not-have_lengths : goal.returns-then-not-have_lengths
returns-then-not-have_lengths c old file is =
    let cut = c.in-Some.ensures.cases in
    let head = c.in-Some-read_header.ensures in
    let header = c.in-Some-read_header.header in
    let places = c.in-Some-find_places.places in
    let lengths = have_lengths file c.args.bytes.now is (omega arith) header.chunks header.bases head.0 (sym cut.0 ∙ head.1)
    c.in-Some-read_rows.rows.now (subst (λ b. IsTable header.chunks b c.in-Some-read_rows.rows.now) cut.0 c.in-Some-read_rows.ensures) places c.in-Some-find_places.ensures in
    false≢true (sym c.if-not-have_lengths.true ∙ c.have_lengths.ensures.1 (subst (HaveLengths places) (sym c.from.ensures) lengths))

pub returns : goal.returns
returns c =
    let cut = c.in-Some.ensures.cases in
    let long = cut.2 in
    let head = c.in-Some-read_header.ensures in
    let header = c.in-Some-read_header.header in
    let places = c.in-Some-find_places.places in
    cut_is c.args.bytes.now header.chunks header.bases head.0 places (omega (arith, long)) (λ i. omega (arith, c.type_inv.bytes i)) (sym cut.0 ∙ head.1)
    (subst (HaveLengths places) c.from.ensures (c.have_lengths.ensures.0 c.if-not-have_lengths.false))
    c.in-Some-read_rows.rows.now (subst (λ b. IsTable header.chunks b c.in-Some-read_rows.rows.now) cut.0 c.in-Some-read_rows.ensures) c.in-Some-find_places.ensures
