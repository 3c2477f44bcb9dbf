use Rattle.std.proofs.Common.{subst}
use Rattle.gitpack.specs.Packs.{IsFramed}
use Rattle.gitmemory.proofs.TakingLemmas.{taken_objects}
use Rattle.gitmemory.proofs.intake.read_pack.Goals as goal

pub returns-in-Ok-clause-indexes : goal.returns-in-Ok-clause-indexes
returns-in-Ok-clause-indexes g c =
    let framed = c.in-Ok.ensures in
    let parts = c.into_parts.result in
    let trailer = c.in-Ok.field-0.checksum in record {
      count = framed.0;
      trailer = trailer;
      framed = subst (IsFramed framed.0 trailer) c.as_slice.ensures framed.1;
      each = taken_objects parts.0.types parts.1.items c.into_parts.ensures.taken;
    }
