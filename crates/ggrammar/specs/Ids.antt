-- Object ids in messages (gitprotocol-common(5), "ABNF Notation": `obj-id`).
use Rattle.std.specs.Prelude.{◌≡◌, ◌↔◌, if◌then◌else◌, ◌==◌, length, Option, Some, None, Result, Ok, Err}
use Rattle.hex.specs.Hex.{decode_of}
use Rattle.hex.specs.declared.error.FromHexError.{FromHexError}
use Rattle.gname.specs.Formats.{id_text_length}
use Rattle.gname.specs.Ids.{Id, IsIdTextOf}
use Rattle.gname.specs.declared.formats.Format.{Format}
use Rattle.gpkt.specs.Packets.{Bytes}

abbrev pub ok_of : Result Id FromHexError → Option Id
ok_of (Ok id) = Some id
ok_of (Err fault) = None

-- the id of the given format that a text encodes, with hex digits in upper or lower case
unfoldable pub id_of_text : Format → Bytes → Option Id
id_of_text format text = if length text == id_text_length format then ok_of (decode_of text) else None

-- a text is read as an id exactly if the text consists of the hex digits of this id
abbrev pub IdIsSpelt : Type 0
IdIsSpelt = (format : Format) (text : Bytes) (id : Id) → (id_of_text format text ≡ Some id) ↔ IsIdTextOf format text id
