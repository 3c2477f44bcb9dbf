-- The result of a call that builds a message value, or adds a part to a message value.
use Rattle.std.specs.Prelude.{◌≡◌, Bool, true, false, Result, Ok, Err}
use Rattle.ggrammar.specs.declared.fault.Why.{Why}
use Rattle.ggrammar.specs.declared.fault.Why.TheVariants as why
use Rattle.ggrammar.specs.declared.fault.MessageFault.{MessageFault}

-- the reason that a part is not added: the part is malformed, otherwise the value has no room for it, otherwise memory
-- runs out
abbrev pub IsBuildReason : Bool → Bool → Why → Type 0
IsBuildReason well_formed has_room why.BadText = well_formed ≡ false
IsBuildReason well_formed has_room why.Limit = (well_formed ≡ true) × (has_room ≡ false)
IsBuildReason well_formed has_room why.Memory = (well_formed ≡ true) × (has_room ≡ true)
IsBuildReason well_formed has_room _ = ⊥

-- the call succeeds and builds the value, or fails and leaves the value unchanged; a fault reports packet position 0,
-- since no packet caused it
abbrev pub Builds : {V : Type 0} → Bool → Bool → V → V → V → Result Unit MessageFault → Type 0
Builds well_formed has_room old new built (Ok done) = (well_formed ≡ true) × (has_room ≡ true) × (new ≡ built)
Builds well_formed has_room old new built (Err fault) =
    (fault.frame ≡ 0) × (new ≡ old) × IsBuildReason well_formed has_room fault.why
