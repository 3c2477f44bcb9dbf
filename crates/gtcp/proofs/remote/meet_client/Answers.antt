use Rattle.std.proofs.Common.{inl, inr, refl}
use Rattle.std.proofs.lemmas.Slice.Zip.{AllZip-long}
use Rattle.gtcp.proofs.remote.meet_client.Goals as goal

pub send_report-requires : goal.send_report-requires
send_report-requires g c = AllZip-long _ _ _ c.in-Ok.ensures.settled.each

pub returns-in-Ok : goal.returns-in-Ok
returns-in-Ok g c = (
  λ file names. inl (record {
    repo = c.args.repo.now;
    names = names;
    new = c.fetch_in_pair.new.repo;
    fetched = c.in-Ok.fetched;
    fetches = c.in-Ok.ensures.fetches;
    into = record { grows = c.in-Ok.ensures.grows; settles = c.in-Ok.ensures.settled };
    reports = c.send_report.ensures.reports;
  }),
  c.send_report.ensures.loans,
)

pub returns-in-Err : goal.returns-in-Err
returns-in-Err g c = (
  λ file names.
      inr (
        c.in-Err.fault,
        inr (c.args.repo.now, c.fetch_in_pair.new.repo, names, c.in-Err.ensures.fetches),
        refl,
        record { written = refl; passed_on = refl; down = refl },
      ),
  refl,
)
