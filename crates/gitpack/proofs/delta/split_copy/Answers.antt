use Rattle.gitpack.proofs.DeltaLemmas.{copy_read, no_count, no_offset}
use Rattle.gitpack.proofs.delta.split_copy.Goals as goal

pub returns-in_default-clause-cases : goal.returns-in_default-clause-cases
returns-in_default-clause-cases c = no_offset c.args.command c.args.bytes.now c.in_default.ensures.cases

pub returns-in_default-split_sparse-clause-cases : goal.returns-in_default-split_sparse-clause-cases
returns-in_default-split_sparse-clause-cases c =
    let f = c.in-Some.ensures.cases in
    no_count c.args.command c.args.bytes.now c.in-Some.after.now f.0 c.in-Some.offset f.1 f.2 c.in_default-split_sparse.ensures.cases

pub returns-clause-cases : goal.returns-clause-cases
returns-clause-cases c =
    let f = c.in-Some.ensures.cases in
    let s = c.in-Some-split_sparse.ensures.cases in
    copy_read c.args.command c.args.bytes.now c.in-Some.after.now f.0 c.in-Some.offset f.1 f.2 c.in-Some-split_sparse.number c.copy_size-size.result s.0 c.in-Some-split_sparse.rest.now c.requires s.1 s.2 c.copy_size-size.ensures
