use Rattle.std.proofs.Common.{◌≡◌, ◌++◌, ◌∙◌, ◌-◌, length, ap, arith, subst, sym}
use Rattle.std.proofs.lemmas.Bool.{false≢true}
use Rattle.std.proofs.lemmas.List.{length-drop}
use Rattle.gitpack.specs.Indexes.{AreEntries, index_body}
use Rattle.gitpack.proofs.IndexLemmas.{body_at, cut_at}
use Rattle.gitpack.proofs.RowLemmas.{body_is, found_lines, same_body, tables_are, trailer_is}
use Rattle.gitpack.proofs.index.PackIndex.read.Goals as goal

pub returns-then-not-are_entries : goal.returns-then-not-are_entries
returns-then-not-are_entries g c index has is =
    let text = c.in-Some.text.now in
    let parts = c.in-Some-split_last_chunk in
    let tables = tables_are index c.args.bytes.now text parts.tables.now parts.trailer.now has is c.in-Some.ensures.cases.0 parts.ensures.cases.0 parts.ensures.cases.1 in
    let same = found_lines c.in_ok-entries.field-0 c.in-Some-2.entries (λ es. es.items) index.entries c.in-Some-2.is (c.in_ok-entries.ensures.whole index.entries has.entries tables) in
    false≢true (sym c.if-not-are_entries.true ∙ c.are_entries.ensures.1 (subst AreEntries (sym (c.as_slice.ensures.value ∙ same)) has.entries))

pub returns-then-not-is_same : goal.returns-then-not-is_same
returns-then-not-is_same g c index has is =
    let bytes = c.args.bytes.now in
    let text = c.in-Some.text.now in
    let parts = c.in-Some-split_last_chunk in
    let cut = c.in-Some.ensures.cases.0 in
    let two = parts.ensures.cases in
    let tables = tables_are index bytes text parts.tables.now parts.trailer.now has is cut two.0 two.1 in
    let same = found_lines c.in_ok-entries.field-0 c.in-Some-2.entries (λ es. es.items) index.entries c.in-Some-2.is (c.in_ok-entries.ensures.whole index.entries has.entries tables) in
    let checksum = c.id_of_bytes-checksum.ensures.bytes ∙ trailer_is index bytes text parts.tables.now parts.trailer.now has is cut two.0 two.1 in
    let written = c.as_slice-3.ensures.value ∙ c.in_ok-written.ensures ∙ same_body c.as_slice-2.result.now index.entries c.id_of_bytes-checksum.result index.checksum (c.as_slice-2.ensures.value ∙ same) checksum in
    let all = written ∙ sym (body_is index bytes text parts.tables.now parts.trailer.now has is cut two.0 two.1) in
    false≢true (sym c.if-not-is_same.true ∙ c.is_same.ensures.1 all)

pub returns : goal.returns
returns g c =
    let halves = c.in-Some.ensures.cases in
    let n = length c.args.bytes.now - 20 in
    let own = c.in-Some._own.now in
    let long = ap length halves.1 ∙ length-drop n c.args.bytes.now in
    let left = halves.2 in (
      record {
        entries = subst AreEntries c.as_slice.ensures.value (c.are_entries.ensures.0 c.if-not-are_entries.false);
        checksum = c.id_of_bytes-checksum.ensures.format;
      },
      record {
        own = own;
        long = omega (arith, long, left);
        parts = cut_at n c.args.bytes.now c.in-Some.text.now own halves.0 halves.1
            ∙ ap (λ l. l ++ own) (sym (c.is_same.ensures.0 c.if-not-is_same.false) ∙ c.as_slice-3.ensures.value ∙ c.in_ok-written.ensures ∙ ap (λ es. body_at es c.id_of_bytes-checksum.result) c.as_slice-2.ensures.value);
      },
    )
