-- The texts of the faults of a file storage.
use Rattle.std.specs.Prelude.{List, ℕ, codes}
use Rattle.glockfile.specs.declared.storage.StorageFault.{StorageFault}
use Rattle.glockfile.specs.declared.storage.StorageFault.TheVariants.{Failed, Memory}

abbrev pub storage_fault_text : StorageFault → List ℕ
storage_fault_text Memory = codes "out of memory"
storage_fault_text Failed = codes "the file can't be read or replaced"
