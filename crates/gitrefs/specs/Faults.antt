-- The faults of parsing a file, and the displayed texts of faults.
use Rattle.std.specs.Prelude.{⊤, ℕ, Option, Some, None, List, ◌++◌, codes, string_bytes}
use Rattle.std.specs.Option.{option_map}
use Rattle.gname.specs.Faults.{out_of_memory_text}
use Rattle.gitrefs.specs.declared.fault.TextFault.{TextFault}
use Rattle.gitrefs.specs.declared.fault.TextFault.TheVariants.{Malformed, Memory}
use Rattle.gitrefs.specs.declared.fault.Cause.{Cause}
use Rattle.gitrefs.specs.declared.fault.Cause.TheVariants as cause
use Rattle.gitrefs.specs.declared.fault.RefFault.{RefFault}
use Rattle.gitrefs.specs.declared.fault.RefFault.TheVariants as fault

-- a fault that parsing may return: `Malformed` only if the text is not valid, and `Memory` for any text
abbrev pub IsTextFault : Type 0 → TextFault → Type 0
IsTextFault Reading Malformed = ¬ Reading
IsTextFault Reading Memory = ⊤

-- the displayed text of a fault
abbrev pub text_fault_text : TextFault → List ℕ
text_fault_text Malformed = codes "the text is malformed"
text_fault_text Memory = out_of_memory_text

-- the displayed text of a cause, or `None` if the cause is a system error
abbrev pub cause_text : Cause → Option (List ℕ)
cause_text cause.Malformed = Some (codes "the file is malformed")
cause_text cause.Locked = Some (codes "the file is locked")
cause_text cause.Exists = Some (codes "the file is there already")
cause_text cause.Missing = Some (codes "there is no git directory")
cause_text cause.Moved = Some (codes "the ref has moved meanwhile")
cause_text cause.Symbolic = Some (codes "the ref is symbolic")
cause_text cause.Conflict = Some (codes "the name of a ref is also that of a directory of refs")
cause_text cause.Utf8 = Some (codes "the name of the ref is not UTF-8")
cause_text cause.Refs = Some (codes "the ref can't be set")
cause_text cause.Format = Some (codes "the new id is not a SHA-1 id")
cause_text (cause.System error) = None

-- the displayed text of a ref fault; for a fault of a file: the path of the file, a colon, and the text of the cause
abbrev pub ref_fault_text : {A : Type 0} → RefFault A → Option (List ℕ)
ref_fault_text fault.Memory = Some out_of_memory_text
ref_fault_text (fault.File path cause) = option_map (λ text. string_bytes path ++ codes ": " ++ text) (cause_text cause)
