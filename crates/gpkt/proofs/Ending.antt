-- The outcome of a call to a packet reader that fails.
use Rattle.std.proofs.Common.{◌≡◌, ℕ, List, Bool, true, false, Option, Err, subst}
use Rattle.gpkt.specs.Change.{change_of}
use Rattle.gpkt.specs.PacketReading.{Reader, Reads, IsReaderAfter, HasRead, IsReadFault}
use Rattle.gpkt.specs.declared.fault.PacketFault.{PacketFault}
use Rattle.gpkt.specs.declared.fault.PacketFault.TheVariants.{Failed, Memory}
use Rattle.gpkt.specs.declared.head.Head.{Head}
use Rattle.gpkt.specs.steps.Heads.{IsNewFault, is_io}

module _ {S : Type 0} (remaining_of : S → Option (List ℕ)) (is_down : S → Bool) (loans_of : S → List ℕ) where
  IsReaderAfter-at_fault : (old new : Reader S) (fault : PacketFault) → old.failed ≡ false → new.failed ≡ true
      → IsNewFault fault → is_down new.source ≡ is_io {A = Option Head} (Err fault) → IsReaderAfter remaining_of is_down loans_of old new (Err fault)
  IsReaderAfter-at_fault old new Failed was now can down = absurd can
  IsReaderAfter-at_fault old new Memory was now can down = absurd can
  IsReaderAfter-at_fault old new _ was now can down = (was, now, down)

  pub HasRead-at_fault : (old new : Reader S) (fault : PacketFault) → old.failed ≡ false → new.failed ≡ true → IsNewFault fault
      → is_down new.source ≡ is_io {A = Option Head} (Err fault) → Reads (change_of remaining_of old.source new.source) (Err fault)
      → loans_of new.source ≡ loans_of old.source → HasRead remaining_of is_down loans_of old new (Err fault)
  HasRead-at_fault old new fault was now can down bytes same = record {
    bytes = bytes;
    after = IsReaderAfter-at_fault old new fault was now can down;
    loans = same;
  }

pub IsReadFault-of_new : (fault : PacketFault) → IsNewFault fault → IsReadFault fault
IsReadFault-of_new Failed h = absurd h
IsReadFault-of_new Memory h = absurd h
IsReadFault-of_new _ h = tt

pub IsNewFault-other : (fault : PacketFault) → IsNewFault fault → fault ≡ Failed → ⊥
IsNewFault-other fault h e = subst IsNewFault e h
