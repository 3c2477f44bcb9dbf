use Rattle.std.proofs.Common.{refl, [], ◌≤◌, length, subst, arith}
use Rattle.gitwalk.specs.Gathering.{sent_count}
use Rattle.gitrepository.proofs.packer.StorePackerPartPacker.begin.Goals as goal

pub returns-in-Ok : goal.returns-in-Ok
returns-in-Ok g c = record {
  whole = λ bytes gives. record {
    packed =
        let begun = c.in-Ok.ensures.begun in
        record {
          fates = begun.fates;
          gathered = begun.gathered;
          whole = (gives refl).1 (sent_count begun.fates) [] begun.going;
        };
    few = subst (λ n. length bytes ≤ n) c.in-Ok.ensures.left (gives refl).0;
  };
  failed = λ bytes fault gives. tt;
  few = omega (arith, c.in-Ok.ensures.left);
}
