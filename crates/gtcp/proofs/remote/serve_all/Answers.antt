use Rattle.gtcp.proofs.remote.serve_all.Goals as goal

pub returns-in-Ok : goal.returns-in-Ok
returns-in-Ok g c =
    let serves = c.serve_at.ensures in
    ((serves.0.0 c.args.service.now.file.now c.in-Ok.ensures, serves.0.1), serves.1)
