-- Definitions for the proofs of reading a line: the bytes of the borrowed parts of a text, without their addresses.
use Rattle.std.specs.Prelude.{List, [], Option, Some, None, Result, Ok, Err}
use Rattle.std.specs.Borrow.{Bor}
use Rattle.std.specs.Option.{option_copied}
use Rattle.gname.specs.Ids.{Id}
use Rattle.gname.specs.Names.{Name}
use Rattle.gpkt.specs.Packets.{Bytes}
use Rattle.ggrammar.specs.declared.fault.Why.{Why}
use Rattle.glsreply.specs.RefTexts.{RefLine, Attribute, Symref, Peeled, UnknownAttribute, parts_of}
use Rattle.glsreply.specs.RefTexts.{FirstForm, UnbornForm, RefForm}
use Rattle.glsreply.specs.declared.line.LineParts.{LineParts}
use Rattle.glsreply.specs.declared.line.Attribute as lent
use Rattle.glsreply.specs.declared.line.Attribute.TheVariants as attribute
use Rattle.glsreply.specs.declared.line.FirstText.{FirstText}
use Rattle.glsreply.specs.declared.line.FirstText.TheVariants as first

abbrev pub line_parts : Id → Name → Option (Bor Name) → Option Id → RefLine
line_parts id name symref peeled =
    record { id = id; name = name; symref = option_copied symref; peeled = peeled }

abbrev pub parts_view : LineParts → RefLine
parts_view line = line_parts line.id line.name.now line.symref line.peeled

abbrev pub line_read : Result LineParts Why → Result RefLine Why
line_read (Ok line) = Ok (parts_view line)
line_read (Err why) = Err why

abbrev pub attribute_view : lent.Attribute → Attribute
attribute_view (attribute.Symref target) = Symref target.now
attribute_view (attribute.Peeled id) = Peeled id.now
attribute_view attribute.Unknown = UnknownAttribute

abbrev pub target_read : Result (Bor Name) Why → Result Name Why
target_read (Ok target) = Ok target.now
target_read (Err why) = Err why

abbrev pub form_view : FirstText → FirstForm
form_view (first.Unborn target) = UnbornForm (target_read target)
form_view first.Ref = RefForm

-- the space-separated parts of a text, or no parts if there is no text
abbrev pub parts_left : Option (Bor Bytes) → List Bytes
parts_left None = []
parts_left (Some rest) = parts_of rest.now
