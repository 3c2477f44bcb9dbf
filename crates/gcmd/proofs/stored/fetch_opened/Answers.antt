use Rattle.std.proofs.Common.{ℕ, List, Err, Ok, refl, subst}
use Rattle.std.proofs.lemmas.Slice.Zip.{AllZip-long}
use Rattle.glockfile.proofs.StoringLemmas.{KeepsStates-same}
use Rattle.glockfile.specs.Storing.{Holds}
use Rattle.gcmd.specs.Stored.{ConcludesStored, stored_of}
use Rattle.gpkt.specs.Streams.{given}
use Rattle.gcmd.proofs.stored.fetch_opened.Goals as goal

pub conclude_stored-requires-clause-updates : goal.conclude_stored-requires-clause-updates
conclude_stored-requires-clause-updates g c = AllZip-long _ _ _ c.in-Ok.ensures.settled.each

pub returns-in-Ok-clause-fetches : goal.returns-in-Ok-clause-fetches
returns-in-Ok-clause-fetches g c =
    let P : List ℕ → Type 0 = λ old.
    Holds (g.T.Storage.texts c.args.file.now) old
    → ConcludesStored old c.fetch_over.new.repo c.in-Ok.fetched
    (stored_of g.T.Storage.texts g.T.Storage.lockfile c.args.file.now c.conclude_stored.new.file)
    (given g.R.Sink c.args.report.now c.conclude_stored.new.report) c.conclude_stored.result in (
      (
        λ held names. record {
          old = c.args.opened.now.text.items;
          held = held;
          repo = c.args.opened.now.repo;
          names = names;
          new = c.fetch_over.new.repo;
          result = Ok c.in-Ok.fetched;
          conversation = c.in-Ok.ensures.fetches;
          ends_so = (
            record { grows = c.in-Ok.ensures.grows; settles = c.in-Ok.ensures.settled },
            subst P c.as_slice.ensures.value c.conclude_stored.ensures.concludes held,
          );
        },
        c.conclude_stored.ensures.report_loans,
      ),
      c.in-Ok.ensures.source_loans,
      c.in-Ok.ensures.sink_loans,
    )

pub returns-in-Err-clause-fetches : goal.returns-in-Err-clause-fetches
returns-in-Err-clause-fetches g c = (
  (
    λ held names. record {
      old = c.args.opened.now.text.items;
      held = held;
      repo = c.args.opened.now.repo;
      names = names;
      new = c.fetch_over.new.repo;
      result = Err c.in-Err.fault;
      conversation = c.in-Err.ensures.fetches;
      ends_so = (KeepsStates-same _ _ c.give_up.ensures.texts, record { written = refl; passed_on = refl; down = refl }, c.give_up.ensures.result);
    },
    refl,
  ),
  c.in-Err.ensures.source_loans,
  c.in-Err.ensures.sink_loans,
)
