use Rattle.std.proofs.Common.{Ok, Err, refl}
use Rattle.std.proofs.lemmas.Slice.Zip.{AllZip-long}
use Rattle.gcmd.proofs.fetch.fetch_for.Goals as goal

pub conclude-requires : goal.conclude-requires
conclude-requires g c = AllZip-long _ _ _ c.in-Ok.ensures.settled.each

pub returns-in-Ok : goal.returns-in-Ok
returns-in-Ok g c = (
  (
    λ file names. record {
      repo = c.args.repo.now;
      names = names;
      new = c.fetch_over.new.repo;
      result = Ok c.in-Ok.fetched;
      conversation = c.in-Ok.ensures.fetches;
      concludes = c.conclude.ensures.concludes c.args.repo.now (record { grows = c.in-Ok.ensures.grows; settles = c.in-Ok.ensures.settled });
    },
    c.conclude.ensures.loans,
  ),
  c.in-Ok.ensures.source_loans,
  c.in-Ok.ensures.sink_loans,
)

pub returns-in-Err : goal.returns-in-Err
returns-in-Err g c = (
  (
    λ file names. record {
      repo = c.args.repo.now;
      names = names;
      new = c.fetch_over.new.repo;
      result = Err c.in-Err.fault;
      conversation = c.in-Err.ensures.fetches;
      concludes = (refl, record { written = refl; passed_on = refl; down = refl }, refl);
    },
    refl,
  ),
  c.in-Err.ensures.source_loans,
  c.in-Err.ensures.sink_loans,
)
