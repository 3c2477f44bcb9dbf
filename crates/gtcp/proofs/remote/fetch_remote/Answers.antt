use Rattle.std.proofs.Common.{Option, inl, subst}
use Rattle.gpkt.specs.Sending.{output_of}
use Rattle.glockfile.specs.Storing.{Holds, Texts}
use Rattle.gtcp.specs.Remote.{IsFetchedRemote}
use Rattle.gtcp.proofs.remote.fetch_remote.Goals as goal

pub returns-in-Ok : goal.returns-in-Ok
returns-in-Ok g c =
    let fetch = c.args.fetch.now in
    let P : Option Texts → Type 0 = λ texts.
    Holds texts c.in-Ok.opened.text.items
    → IsFetchedRemote {A = g.row.A.Denot} fetch.specs.now fetch.limit fetch.ends fetch.place.now.hello
    (record {
      old = texts;
      new = g.T.Storage.texts c.fetch_opened.new.file;
      lockfile = g.T.Storage.lockfile c.fetch_opened.new.file;
    })
    (output_of g.R.Sink.contents g.R.Sink.passed_on g.R.Sink.is_down c.args.report.now c.fetch_opened.new.report)
    c.fetch_opened.result in
    let fetches = c.fetch_opened.ensures.fetches in (
      (c.fetch_opened.ensures.lockfile, inl (subst P c.in-Ok.ensures.texts (λ held. fetches.0 held c.in-Ok.ensures.opens.1) c.in-Ok.ensures.opens.0)),
      fetches.1,
    )
