use Rattle.std.proofs.Common.{sym, subst, rules}
use Rattle.std.proofs.KnownBytes.{Consumes-trans}
use Rattle.std.specs.Io.KnownBytes.{Consumes}
use Rattle.gpkt.proofs.Pieces.{take-put_mid_front}
use Rattle.gpkt.proofs.head.fill.Goals as goal

pub loop-at-preserved : goal.loop-at-preserved
loop-at-preserved g c = record {
  same_len = search rules;
  within = search rules;
  consumed =
      subst (Consumes _ _) (sym (take-put_mid_front _ _ _ _ _ c.loop-at.invariant.within c.in-Ok.ensures.bound.0))
      (Consumes-trans _ _ _ _ _ c.loop-at.invariant.consumed c.in-Ok.ensures.bytes.0);
  asked = λ h. c.in-Ok.ensures.down;
  same_loans = search rules;
}
