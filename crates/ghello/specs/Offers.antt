-- The checks of a client on the capabilities of a server (gitprotocol-v2(5), "Capabilities").
use Rattle.std.specs.Prelude.{◌≡◌, Bool, true, false, not, ◌&&◌, if◌then◌else◌, List, [], ◌∷◌, codes}
use Rattle.std.specs.Prelude.{Option, Some, None}
use Rattle.std.specs.List.{list_any, slice_split}
use Rattle.std.specs.Str.{bytes_eq}
use Rattle.gname.specs.Formats.{format_name}
use Rattle.gname.specs.declared.formats.Format.{Format}
use Rattle.gname.specs.declared.formats.Format.TheVariants.{Sha1}
use Rattle.gpkt.specs.Packets.{Bytes}
use Rattle.ggrammar.specs.Capabilities.{Capability}
use Rattle.ggrammar.specs.Texts.{is_space}
use Rattle.ggrammar.specs.declared.fault.Why.{Why}
use Rattle.ggrammar.specs.declared.fault.Why.TheVariants.{UnknownCommand, Format as OtherFormat}

abbrev pub has_key : Bytes → Capability → Bool
has_key key capability = bytes_eq capability.key key

-- the first capability with this key
abbrev pub first_with : Bytes → List Capability → Option Capability
first_with key [] = None
first_with key (capability ∷ capabilities) =
    if has_key key capability then Some capability else first_with key capabilities

abbrev pub value_in : Option Capability → Option Bytes
value_in None = None
value_in (Some capability) = capability.value

-- whether the value is present and contains this word; spaces separate the words of a value
abbrev pub has_word : Bytes → Option Bytes → Bool
has_word word None = false
has_word word (Some value) = list_any (λ part. bytes_eq part word) (slice_split is_space value)

-- whether the value of the first capability with this key contains this word
abbrev pub has_feature : Bytes → Bytes → List Capability → Bool
has_feature key word capabilities = has_word word (value_in (first_with key capabilities))

-- the name of the server's object format: `sha1` if there is no `object-format`, and `None` if `object-format` has no
-- value
abbrev pub named_format : Option Capability → Option Bytes
named_format None = Some (format_name Sha1)
named_format (Some capability) = capability.value

abbrev pub is_name_of : Format → Option Bytes → Bool
is_name_of format None = false
is_name_of format (Some name) = bytes_eq name (format_name format)

-- whether the ids of the server have the given format
abbrev pub is_of_format : Format → List Capability → Bool
is_of_format format capabilities = is_name_of format (named_format (first_with (codes "object-format") capabilities))

-- the format of the server's ids, or `None` if the server names a format other than SHA-1 and SHA-256, or if its
-- `object-format` has no value
abbrev pub IsFormatOf : List Capability → Option Format → Type 0
IsFormatOf capabilities (Some format) = is_of_format format capabilities ≡ true
IsFormatOf capabilities None = (format : Format) → is_of_format format capabilities ≡ false

-- whether the server lacks the command `ls-refs` or the command `fetch`
abbrev pub lacks_command : List Capability → Bool
lacks_command capabilities =
    not (list_any (has_key (codes "ls-refs")) capabilities && list_any (has_key (codes "fetch")) capabilities)

-- the reason why a client with ids of this format cannot use the server, or `None` if the client can use it
abbrev pub check_fault : Format → List Capability → Option Why
check_fault format capabilities =
    if lacks_command capabilities then Some UnknownCommand
    else (if is_of_format format capabilities then None else Some OtherFormat)
