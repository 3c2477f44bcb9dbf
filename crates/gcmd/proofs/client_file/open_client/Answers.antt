use Rattle.std.proofs.Common.{inr, refl, sym, ◌∙◌}
use Rattle.std.proofs.lemmas.Bool.{false≢true}
use Rattle.std.proofs.lemmas.Result.{err_from_is_err_and}
use Rattle.gcmd.proofs.FetchLemmas.{names_client, refuses_unconnected}
use Rattle.gcmd.proofs.client_file.open_client.Goals as goal

pub returns-in_err-new : goal.returns-in_err-new
returns-in_err-new g c =
    let p = err_from_is_err_and c.from_residual-in_err-new.result c.from_residual-in_err-new.ensures.1 in
    let it = c.in_ok-repository.repository in
    let loaded = c.in_ok-repository.ensures.ok in
    rw p.1
    (refuses_unconnected c.args.file.now it.graph it.refs it.head loaded.0 loaded.1 c.in_err-new.field-0.0 p.0
    (c.is_none.ensures.0 c.if-is_none.true) c.in_err-new.ensures.opens p.2)

pub returns-in_ok-new : goal.returns-in_ok-new
returns-in_ok-new g c =
    let it = c.in_ok-repository.repository in
    let loaded = c.in_ok-repository.ensures.ok in
    names_client c.args.file.now it.graph it.refs it.head loaded.0 loaded.1 c.in_ok-new.field-0
    (c.is_none.ensures.0 c.if-is_none.true) c.in_ok-new.ensures.opens c.in_ok-new.ensures.whole

pub returns-else-is_none : goal.returns-else-is_none
returns-else-is_none g c =
    let it = c.in_ok-repository.repository in
    let loaded = c.in_ok-repository.ensures.ok in
    inr (
      c.line_of_head-line.result,
      refl,
      record {
        repo = it;
        text = loaded.0;
        loadable = loaded.1;
        stands = λ none. false≢true (sym c.if-is_none.false ∙ c.is_none.ensures.1 none);
        place = c.line_of_head-line.ensures;
      },
    )
