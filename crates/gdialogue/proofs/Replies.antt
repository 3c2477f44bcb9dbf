-- Replies whose packets are known in advance.
use Rattle.std.proofs.Common.{◌≡◌, List, ◌++◌, refl, sym, ap, ◌∙◌}
use Rattle.gpkt.specs.Packets.{Packet}
use Rattle.gdialogue.specs.Sides.{LeadsTo, SaysExactly}
use Rattle.gdialogue.specs.declared.side.Said.TheVariants.{More, Whole}

module _ {R : Type 0} (rest : R → List Packet) where
  -- a call that queues a prefix of the remaining packets leads to the state in which the other packets remain
  pub says_part : (old new : R) (said : List Packet) → rest old ≡ said ++ rest new → LeadsTo (SaysExactly rest) old new said More
  says_part old new said parts packets goes h = (ap (λ l. said ++ l) h.0 ∙ sym parts, h.1)

  -- a call that queues all remaining packets completes the reply
  pub says_all : (old new : R) (said : List Packet) → rest old ≡ said → LeadsTo (SaysExactly rest) old new said Whole
  says_all old new said parts = (sym parts, refl)
