-- The reason that a call which builds a value fails.
use Rattle.std.proofs.Common.{◌≡◌, Bool, true, sym, refl, ◌∙◌}
use Rattle.std.proofs.lemmas.Bool.{false≢true}
use Rattle.ggrammar.specs.Building.{IsBuildReason}
use Rattle.ggrammar.specs.declared.fault.Why.{Why}
use Rattle.ggrammar.specs.declared.fault.Why.TheVariants as why

-- if the added part is well-formed and the value has room for it, the only possible reason is lack of memory
pub only_memory : (well_formed has_room : Bool) (reason : Why) → well_formed ≡ true → has_room ≡ true → IsBuildReason well_formed has_room reason → reason ≡ why.Memory
only_memory w r why.BadText fits room is = absurd (false≢true (sym is ∙ fits))
only_memory w r why.Limit fits room is = absurd (false≢true (sym is.1 ∙ room))
only_memory w r why.Memory fits room is = refl
only_memory w r reason fits room is = absurd is
