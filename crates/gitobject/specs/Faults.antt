-- The messages of faults.
use Rattle.std.specs.Prelude.{ℕ, List, codes}
use Rattle.gname.specs.Faults.{out_of_memory_text}
use Rattle.gitobject.specs.declared.fault.ObjectFault.{ObjectFault}
use Rattle.gitobject.specs.declared.fault.ObjectFault.TheVariants.{Malformed, Memory}

abbrev pub object_fault_text : ObjectFault → List ℕ
object_fault_text Malformed = codes "the object is malformed"
object_fault_text Memory = out_of_memory_text
