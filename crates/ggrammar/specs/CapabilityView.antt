-- The contents of a capability, independent of where its bytes are in memory.
use Rattle.std.specs.Option.{option_copied}
use Rattle.ggrammar.specs.Capabilities.{Capability}
use Rattle.ggrammar.specs.declared.capability.Capability as lent

abbrev pub capability_view : lent.Capability → Capability
capability_view capability = record { key = capability.key.now; value = option_copied capability.value }
