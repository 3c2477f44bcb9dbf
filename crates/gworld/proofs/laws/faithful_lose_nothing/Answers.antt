use Rattle.ganswer.proofs.BoundedPacks.{bounded}
use Rattle.gworld.proofs.laws.faithful_lose_nothing.Goals as goal

pub returns : goal.returns
returns g c = λ world unforged. record {
  image = _;
  faithful = bounded c.loses_nothing.ensures;
  unforged = unforged;
}
