use Rattle.std.proofs.Common.{◌++◌, take, rules}
use Rattle.std.proofs.KnownBytes.{Appends-trans, Keeps-trans}
use Rattle.std.proofs.lemmas.Bool.{false≢true}
use Rattle.gpkt.proofs.Pieces.{split_more}
use Rattle.gpkt.proofs.put.write_all.Goals as goal

pub loop-rest-preserved : goal.loop-rest-preserved
loop-rest-preserved g c =
    let (done, split, appended) = c.loop-rest.invariant.written in
    let rest = c.loop-rest.rest.now in
    let count = c.in-Ok.count in
    record {
      written = (done ++ take count rest, split_more _ done rest count split, Appends-trans _ _ _ _ _ appended c.in-Ok.ensures.bytes);
      passed_on = Keeps-trans _ _ _ c.loop-rest.invariant.passed_on c.in-Ok.ensures.passed_on;
      asked = λ h. c.in-Ok.ensures.down;
      up = λ h. c.in-Ok.ensures.down;
      stays = λ h. absurd (false≢true (c.in-Ok.ensures.stays_down (c.loop-rest.invariant.stays h)));
      same_loans = search rules;
    }
