-- If memory runs out for a name, the name is a valid ref name.
use Rattle.std.proofs.Common.{◌≡◌, ◌⊎◌, inl, inr, ℕ, List, None, Some, ap, ◌∙◌}
use Rattle.gname.specs.Names.{IsRefName, name_fault}
use Rattle.gname.specs.declared.faults.NameFault.{NameFault}
use Rattle.gname.specs.declared.faults.NameFault.TheVariants.{Memory}
use Rattle.ggraph.specs.steps.TextLaws.{TextLaws}

-- no rule reports out of memory, so a text for which it is reported is a ref name
pub only_memory : TextLaws → (text : List ℕ) (fault : NameFault) → fault ≡ Memory → (name_fault text ≡ Some fault) ⊎ ((fault ≡ Memory) × (name_fault text ≡ None)) → IsRefName text
only_memory laws text fault is (inl rule) = absurd ((laws.no_memory_rule text).0 (rule ∙ ap Some is))
only_memory laws text fault is (inr (same, none)) = none
