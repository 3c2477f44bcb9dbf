use Rattle.std.proofs.Common.{sym}
use Rattle.gitwords.proofs.UrlLemmas.{bad_authority, bad_path, cut_of, git_begins, no_authority, no_path, not_path}
use Rattle.gitwords.proofs.url.read_url.Goals as goal

pub returns-in_default-split_path-clause-url : goal.returns-in_default-split_path-clause-url
returns-in_default-split_path-clause-url c =
    let begins = git_begins c.args.text.now c.in-Some.after.now c.in-Some.ensures.cases in
    no_path c.args.text.now c.in-Some.after.now begins c.in_default-split_path.ensures

pub returns-then-not-is_path_text-clause-url : goal.returns-then-not-is_path_text-clause-url
returns-then-not-is_path_text-clause-url c =
    let begins = git_begins c.args.text.now c.in-Some.after.now c.in-Some.ensures.cases in
    let cut = cut_of c.args.text.now c.in-Some.after.now begins c.in-Some-split_path.authority.now c.in-Some-split_path.path.now c.in-Some-split_path.ensures in
    bad_path c.args.text.now c.in-Some-split_path.authority.now c.in-Some-split_path.path.now cut
    (not_path c.in-Some-split_path.path.now (sym c.if-not-is_path_text.ensures))

pub returns-in-Err-clause-url : goal.returns-in-Err-clause-url
returns-in-Err-clause-url c =
    let begins = git_begins c.args.text.now c.in-Some.after.now c.in-Some.ensures.cases in
    let cut = cut_of c.args.text.now c.in-Some.after.now begins c.in-Some-split_path.authority.now c.in-Some-split_path.path.now c.in-Some-split_path.ensures in
    bad_authority c.args.text.now c.in-Some-split_path.authority.now c.in-Some-split_path.path.now cut
    (no_authority c.in-Some-split_path.authority.now c.in-Err.cause c.in-Err.ensures)
