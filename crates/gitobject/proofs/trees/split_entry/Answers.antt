use Rattle.std.proofs.Common.{sym, ◌∙◌}
use Rattle.gitobject.proofs.EntryLemmas.{found_entry, no_bytes, no_name, no_nul, no_number}
use Rattle.gitobject.proofs.trees.split_entry.Goals as goal

pub returns-in_default-file_type-clause-entry : goal.returns-in_default-file_type-clause-entry
returns-in_default-file_type-clause-entry c =
    no_number c.args.text.now c.in-Some.mode.now c.in-Some.after_mode.now c.in-Some.ensures.0 c.in-Some.ensures.1 c.in_default-file_type.ensures

pub returns-in_default-cut-clause-entry : goal.returns-in_default-cut-clause-entry
returns-in_default-cut-clause-entry c =
    no_nul c.args.text.now c.in-Some.mode.now c.in-Some.after_mode.now c.in-Some.ensures.0 c.in-Some.ensures.1 c.in_default-cut.ensures

pub returns-then-is_empty-clause-entry : goal.returns-then-is_empty-clause-entry
returns-then-is_empty-clause-entry c =
    no_name c.args.text.now c.in-Some.mode.now c.in-Some.after_mode.now c.in-Some.ensures.0 c.in-Some.ensures.1
    c.in-Some-cut.name.now c.in-Some-cut.after_name.now c.in-Some-cut.ensures.0 c.in-Some-cut.ensures.1 (sym c.is_empty.ensures ∙ c.if-is_empty.true)

pub returns-in_default-split_first_chunk-clause-entry : goal.returns-in_default-split_first_chunk-clause-entry
returns-in_default-split_first_chunk-clause-entry c =
    no_bytes c.args.text.now c.in-Some.mode.now c.in-Some.after_mode.now c.in-Some.ensures.0 c.in-Some.ensures.1
    c.in-Some-cut.name.now c.in-Some-cut.after_name.now c.in-Some-cut.ensures.0 c.in-Some-cut.ensures.1 c.in_default-split_first_chunk.ensures.cases

pub returns-clause-entry : goal.returns-clause-entry
returns-clause-entry c =
    let chunk = c.in-Some-split_first_chunk.ensures.cases in
    found_entry c.args.text.now c.in-Some.mode.now c.in-Some.after_mode.now c.in-Some.ensures.0 c.in-Some.ensures.1
    c.in-Some-cut.name.now c.in-Some-cut.after_name.now c.in-Some-cut.ensures.0 c.in-Some-cut.ensures.1
    c.in-Some-file_type.ensures.0 (sym c.is_empty.ensures ∙ c.if-is_empty.false)
    c.id_of_bytes.result c.in-Some-split_first_chunk.bytes.now c.in-Some-split_first_chunk.rest.now
    c.id_of_bytes.ensures.format c.id_of_bytes.ensures.bytes chunk.0 chunk.1
