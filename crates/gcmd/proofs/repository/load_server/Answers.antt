use Rattle.std.proofs.lemmas.Result.{err_from_is_err_and}
use Rattle.ganswer.specs.Servers.{server_of}
use Rattle.gcmd.proofs.ServingLemmas.{names_server, refuses_file}
use Rattle.gcmd.proofs.repository.load_server.Goals as goal

pub returns-in_err-new : goal.returns-in_err-new
returns-in_err-new g c =
    let p = err_from_is_err_and c.from_residual-in_err-new.result c.from_residual-in_err-new.ensures.1 in
    let repo = c.in_ok-repository.repository in
    let loaded = c.in_ok-repository.ensures.ok in
    rw p.1
    (refuses_file c.args.file.now (server_of repo.graph repo.refs repo.head) (record { text = loaded.0; loadable = loaded.1 })
    c.in_err-new.field-0.0 p.0 c.in_err-new.ensures p.2)

pub returns : goal.returns
returns g c =
    let repo = c.in_ok-repository.repository in
    let loaded = c.in_ok-repository.ensures.ok in
    names_server c.args.file.now (server_of repo.graph repo.refs repo.head) c.in_ok-new.field-0 (record { text = loaded.0; loadable = loaded.1 })
    c.in_ok-new.ensures.0 c.in_ok-new.ensures.1
