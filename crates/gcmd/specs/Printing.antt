-- The printed line of a fault: `gitv2: fault NUMBER NAME`. The following parts come after the name, if the fault has
-- them: the position of the packet, the line number, the index of the byte, and the id, the ref name or the error text.
use Rattle.std.specs.Prelude.{ℕ, ◌++◌, ◌&&◌, nat_le, if◌then◌else◌, [], map, codes, Option, None, Some}
use Rattle.std.specs.Fmt.{decimal}
use Rattle.gname.specs.Ids.{Id, id_text}
use Rattle.gpkt.specs.Packets.{Bytes}
use Rattle.gcmd.specs.Faults.{Printed, printed_of}
use Rattle.gcmd.specs.declared.fault.ProgramFault.{ProgramFault}

-- the printed form of a byte: `?` replaces each byte outside 32 to 126
abbrev pub printable : ℕ → ℕ
printable byte = if nat_le 32 byte && nat_le byte 126 then byte else 63

-- a word and a number, or nothing if there is no number
abbrev pub number_part : Bytes → Option ℕ → Bytes
number_part word None = []
number_part word (Some number) = word ++ decimal number

-- a space, and a ref name or an error text in its printable form
abbrev pub text_part : Bytes → Bytes
text_part text = codes " " ++ map printable text

-- a space, and the hexadecimal digits of an id
abbrev pub id_part : Id → Bytes
id_part id = codes " " ++ id_text id

-- the subject of a fault: an id, a ref name or an error text
abbrev pub subject_part : Option Id → Option Bytes → Bytes
subject_part (Some id) text = id_part id
subject_part None (Some text) = text_part text
subject_part None None = []

-- the printed line that consists of these parts
abbrev pub printed_line : Printed → Bytes
printed_line row =
    codes "gitv2: fault " ++ decimal row.number ++ codes " " ++ row.name ++ number_part (codes " frame ") row.frame
    ++ number_part (codes " line ") row.line ++ number_part (codes " at ") row.at
    ++ subject_part row.id row.text ++ codes "\n"

-- the printed line of a fault
unfoldable pub fault_line : {A : Type 0} → ProgramFault A → Bytes
fault_line fault = printed_line (printed_of fault)
