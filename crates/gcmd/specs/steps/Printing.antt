-- Definitions for private functions and proofs: the parts of a fault's line, and their maximum lengths.
use Rattle.std.specs.Prelude.{ℕ, ◌+◌, ◌*◌, ◌≤◌, length, Option, None, Some, ⊤}
use Rattle.std.specs.Option.{option_copied}
use Rattle.gname.specs.Names.{max_name}
use Rattle.gpkt.specs.Packets.{Bytes}
use Rattle.gcmd.specs.Faults.{Printed}
use Rattle.gcmd.specs.declared.print.FaultLine.{FaultLine}

-- the printed parts of a fault, converted to the type `Printed`
abbrev pub row_view : FaultLine → Printed
row_view row = record {
  number = row.number;
  name = row.name.now;
  frame = row.frame;
  line = row.line;
  at = row.at;
  id = row.id;
  text = option_copied row.text;
}

-- the maximum number of digits of a 64-bit number
abbrev pub max_decimal : ℕ
max_decimal = 20

-- the maximum length of a fault's name in bytes
abbrev pub max_fault_name : ℕ
max_fault_name = 32

-- the maximum length of a space followed by a ref name or an error text
abbrev pub max_subject : ℕ
max_subject = 1 + max_name

-- the maximum length of the line that reports a fault: 32 bytes of fixed words, the name, four numbers and the subject
abbrev pub max_fault_line : ℕ
max_fault_line = 32 + max_fault_name + 4 * max_decimal + max_subject

abbrev pub IsShortText : Option Bytes → Type 0
IsShortText None = ⊤
IsShortText (Some text) = length text ≤ max_name

-- the name has at most 32 bytes, and the text at most 1,000 bytes
pub record IsShort (row : FaultLine) : Type 0 where
  pub name : length row.name.now ≤ max_fault_name
  pub text : IsShortText (option_copied row.text)
