-- The tables of faults, with the number, the name and the text of each fault.
use Rattle.std.specs.Prelude.{ℕ, List, ◌++◌, codes}
use Rattle.std.specs.Fmt.{decimal}
use Rattle.gname.specs.declared.faults.NameFault.{NameFault}
use Rattle.gname.specs.declared.faults.NameFault.TheVariants as name
use Rattle.gname.specs.declared.ids.OidFault.{OidFault}
use Rattle.gname.specs.declared.ids.OidFault.TheVariants as id

-- the number and the name of a fault
abbrev pub FaultRow : Type 0
FaultRow = ℕ × List ℕ

-- the number and the name of the out-of-memory fault, which several crates share
abbrev pub out_of_memory : FaultRow
out_of_memory = (64, codes "Memory")

abbrev pub out_of_memory_text : List ℕ
out_of_memory_text = codes "out of memory"

abbrev pub missing_parent : FaultRow
missing_parent = (72, codes "MissingParent")

-- the number and the name of each fault of an object id
abbrev pub id_fault_row : OidFault → FaultRow
id_fault_row id.Length = (1, codes "Length")
id_fault_row (id.Digit at) = (2, codes "Digit")

-- the number and the name of each fault of a ref name or a prefix
abbrev pub name_fault_row : NameFault → FaultRow
name_fault_row name.Empty = (10, codes "Empty")
name_fault_row name.TooLong = (11, codes "TooLong")
name_fault_row name.NotRef = (12, codes "NotRef")
name_fault_row (name.BadByte at) = (13, codes "BadByte")
name_fault_row (name.Component at) = (14, codes "Component")
name_fault_row (name.DoubleDot at) = (15, codes "DoubleDot")
name_fault_row (name.AtBrace at) = (16, codes "AtBrace")
name_fault_row name.End = (17, codes "End")
name_fault_row name.Memory = (18, codes "Memory")

-- the text of each fault of an object id, as `Display` writes it
abbrev pub id_fault_text : OidFault → List ℕ
id_fault_text id.Length = codes "an object id has 40 hexadecimal digits, or 64 in SHA-256"
id_fault_text (id.Digit at) = codes "byte " ++ decimal at ++ codes " of the object id is no hexadecimal digit"

abbrev pub name_fault_text : NameFault → List ℕ
name_fault_text name.Empty = codes "a ref name has at least one byte"
name_fault_text name.TooLong = codes "a ref name has at most 1000 bytes"
name_fault_text name.NotRef = codes "a ref name is HEAD or begins with refs/"
name_fault_text (name.BadByte at) = codes "byte " ++ decimal at ++ codes " is not allowed in a ref name"
name_fault_text (name.Component at) =
    codes "the component at byte " ++ decimal at ++ codes " is empty, begins with a dot or ends with .lock"
name_fault_text (name.DoubleDot at) = codes "two dots in a row at byte " ++ decimal at
name_fault_text (name.AtBrace at) = codes "@{ at byte " ++ decimal at
name_fault_text name.End = codes "a ref name does not end with a dot"
name_fault_text name.Memory = out_of_memory_text
