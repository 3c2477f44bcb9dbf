use Rattle.std.proofs.Common.{Option, inl, subst}
use Rattle.glockfile.specs.Storing.{Holds, Texts}
use Rattle.gcmd.specs.Stored.{IsFetchedStored}
use Rattle.gpkt.specs.Streams.{given, taken}
use Rattle.gcmd.proofs.stored.fetch_stored.Goals as goal

pub returns-in-Ok : goal.returns-in-Ok
returns-in-Ok g c =
    let P : Option Texts → Type 0 = λ texts.
    Holds texts c.in-Ok.opened.text.items
    → IsFetchedStored {A = g.row.A.Denot} c.args.fetch.now.specs.now c.args.fetch.now.limit c.args.fetch.now.ends
    (record {
      old = texts;
      new = g.T.Storage.texts c.fetch_opened.new.file;
      lockfile = g.T.Storage.lockfile c.fetch_opened.new.file;
    })
    (taken g.S.Source c.args.input.now c.fetch_opened.new.input) (given g.W.Sink c.args.output.now c.fetch_opened.new.output)
    (given g.R.Sink c.args.report.now c.fetch_opened.new.report) c.fetch_opened.result in
    let fetches = c.fetch_opened.ensures.fetches in (
      (
        (c.fetch_opened.ensures.lockfile, inl (subst P c.in-Ok.ensures.texts (λ held. fetches.0.0 held c.in-Ok.ensures.opens.1) c.in-Ok.ensures.opens.0)),
        fetches.0.1,
      ),
      fetches.1,
      fetches.2,
    )
