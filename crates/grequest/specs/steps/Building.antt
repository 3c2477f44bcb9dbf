-- The steps of building a request and of comparing two requests: the result of adding a value, and the parts that must
-- be equal.
use Rattle.std.specs.Prelude.{◌≡◌, ◌≤◌, Bool, true, false, length, Result, Ok, Err}
use Rattle.ggrammar.specs.declared.fault.MessageFault.{MessageFault}
use Rattle.ggrammar.specs.declared.fault.Why.{Why}
use Rattle.ggrammar.specs.declared.fault.Why.TheVariants as why
use Rattle.ggrammar.specs.declared.limits.Limits.{Limits}
use Rattle.grequest.specs.declared.kept.NotKept.{NotKept}
use Rattle.grequest.specs.declared.kept.NotKept.TheVariants as not_kept
use Rattle.grequest.specs.Asked.{FetchAsked, Asked, Empty, Ls, Fetches, max_prefixes, max_wants, max_haves}

-- the two requests have the same wants and the same haves
abbrev pub HaveSameIds : FetchAsked → FetchAsked → Type 0
HaveSameIds one other = (one.wants ≡ other.wants) × (one.haves ≡ other.haves)

-- the lists of the request are within these limits
abbrev pub IsWithin : Limits → Asked → Type 0
IsWithin limits Empty = Unit {0}
IsWithin limits (Ls asked) = length asked.prefixes ≤ max_prefixes limits
IsWithin limits (Fetches asked) = (length asked.wants ≤ max_wants limits) × (length asked.haves ≤ max_haves limits)

-- the result of adding a value: the value is added, or nothing changes and the first applicable reason is returned
abbrev pub KeepsAs : {V : Type 0} → Bool → Bool → V → V → V → Result Unit NotKept → Type 0
KeepsAs well_formed has_room old new built (Ok done) = (well_formed ≡ true) × (has_room ≡ true) × (new ≡ built)
KeepsAs well_formed has_room old new built (Err not_kept.WrongForm) = (well_formed ≡ false) × (new ≡ old)
KeepsAs well_formed has_room old new built (Err not_kept.NoRoom) =
    (well_formed ≡ true) × (has_room ≡ false) × (new ≡ old)
KeepsAs well_formed has_room old new built (Err not_kept.NoMemory) =
    (well_formed ≡ true) × (has_room ≡ true) × (new ≡ old)

-- the grammar's reason to reject the value; the first argument is the reason for a malformed value
abbrev pub why_not_kept : Why → NotKept → Why
why_not_kept wrong_form not_kept.WrongForm = wrong_form
why_not_kept wrong_form not_kept.NoRoom = why.Limit
why_not_kept wrong_form not_kept.NoMemory = why.Memory

-- the fault of a call that builds a request
abbrev pub build_fault : NotKept → MessageFault
build_fault reason = record { frame = 0; why = why_not_kept why.BadText reason }
