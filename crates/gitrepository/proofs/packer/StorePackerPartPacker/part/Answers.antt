use Rattle.std.proofs.Common.{arith, ◌++◌, sym, subst, take, append_assoc, length-append}
use Rattle.std.proofs.lemmas.List.{append-nil, length-take-le}
use Rattle.gitrepository.specs.Packs.{IsWholePack}
use Rattle.gitrepository.proofs.PartLemmas.{ended}
use Rattle.gitrepository.proofs.packer.StorePackerPartPacker.part.Goals as goal

pub returns-in-Ok : goal.returns-in-Ok
returns-in-Ok g c =
    let gave = c.in-Ok.ensures in
    let count = c.in-Ok.count in
    let out = c.fill.new.out in
    record {
      fits = gave.fits;
      part = λ rest end more gives none.
          let it = gives none in
          let few = it.0 in (
            omega (arith, few, gave.left, length-append (take count out) rest, length-take-le count out gave.fits),
            λ total before is. subst (IsWholePack total) (append_assoc before (take count out) rest)
                (it.1 total (before ++ take count out) (gave.given total before is)),
          );
      few = λ _. omega (arith, gave.left);
      whole = λ zero _. (
        omega arith,
        λ total before is. subst (IsWholePack total) (sym (append-nil before))
            (ended c.fill.new.parts.outgoing total count before out zero (gave.whole zero) (gave.given total before is)),
      );
    }
