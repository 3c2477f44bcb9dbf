use Rattle.std.proofs.Common.{arith}
use Rattle.gitpack.proofs.EntryLemmas.{head_read, no_base, no_type}
use Rattle.gitpack.proofs.entry.read_head.Goals as goal

pub returns-in_default : goal.returns-in_default
returns-in_default c = no_type c.args.bytes.now c.in_default.ensures

pub returns-in_default-split_form : goal.returns-in_default-split_form
returns-in_default-split_form c =
    let front = c.in-Some.ensures in
    no_base c.args.bytes.now c.in-Some.after.now front.0 c.in-Some.sized.number c.in-Some.sized.size front.1 front.2 c.in_default-split_form.ensures

pub returns : goal.returns
returns c =
    let front = c.in-Some.ensures in
    let back = c.in-Some-split_form.ensures in (
      omega arith,
      head_read c.args.bytes.now c.in-Some.after.now front.0 c.in-Some.sized.number c.in-Some.sized.size front.1 front.2 c.in-Some-split_form.form back.0 c.in-Some-split_form.rest.now back.1 back.2,
    )
