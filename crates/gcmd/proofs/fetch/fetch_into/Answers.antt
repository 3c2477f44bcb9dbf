use Rattle.std.proofs.Common.{inl, inr, refl}
use Rattle.gcmd.proofs.fetch.fetch_into.Goals as goal

pub returns-in-Ok : goal.returns-in-Ok
returns-in-Ok g c =
    let fetches = c.fetch_for.ensures in
    ((inl (fetches.0.0 c.args.fetch.now.file.now c.in-Ok.ensures), fetches.0.1), fetches.1, fetches.2)

pub returns-in-Err : goal.returns-in-Err
returns-in-Err g c = (
  (
    inr (record {
      fault = c.in-Err.fault;
      refused = c.in-Err.ensures;
      met = refl;
      unread = record { read = refl; down = refl };
      unwritten = record { written = refl; passed_on = refl; down = refl };
      unreported = record { written = refl; passed_on = refl; down = refl };
      none = refl;
    }),
    refl,
  ),
  refl,
  refl,
)
