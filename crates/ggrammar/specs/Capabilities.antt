-- Capabilities (gitprotocol-v2(5), "Capability Advertisement"):
--
--   capability = key[=value]
--   key = 1*(ALPHA | DIGIT | "-_")
--   value = 1*(ALPHA | DIGIT | " -_.,?\/{}[]()<>!@#$%^&*+=:;")
--
-- In this crate, keys and values have at most 1,000 bytes, and a value may contain any printable byte.
use Rattle.std.specs.Prelude.{◌≡◌, ◌↔◌, ℕ, ◌+◌, Bool, ◌&&◌, ◌||◌, [], ◌++◌, length, drop, take, codes}
use Rattle.std.specs.Prelude.{if◌then◌else◌, nat_eq, nat_le, Option, Some, None, position, IfSome, IsTrue}
use Rattle.std.specs.List.{list_all}
use Rattle.std.specs.Char.{is_ascii_alphanumeric}
use Rattle.gpkt.specs.Packets.{Bytes}

-- the maximum length of a key, and of a value, in bytes
abbrev pub max_capability : ℕ
max_capability = 1000

abbrev pub has_length : Bytes → Bool
has_length bytes = nat_le 1 (length bytes) && nat_le (length bytes) max_capability

-- the byte may occur in a key: a letter, a digit, `-` or `_`
abbrev pub is_key_byte : ℕ → Bool
is_key_byte byte = is_ascii_alphanumeric byte || nat_eq byte 45 || nat_eq byte 95

unfoldable pub is_key : Bytes → Bool
is_key key = has_length key && list_all is_key_byte key

-- the byte is printable ASCII, from space to `~`
abbrev pub is_printable : ℕ → Bool
is_printable byte = nat_le 32 byte && nat_le byte 126

unfoldable pub is_value : Bytes → Bool
is_value value = has_length value && list_all is_printable value

-- the byte is printable ASCII, and not a space
abbrev pub is_graphic : ℕ → Bool
is_graphic byte = nat_le 33 byte && nat_le byte 126

unfoldable pub is_word_value : Bytes → Bool
is_word_value value = has_length value && list_all is_graphic value

pub record Capability : Type 0 where
  pub key : Bytes
  pub value : Option Bytes

abbrev pub is_equals_sign : ℕ → Bool
is_equals_sign byte = nat_eq byte 61

abbrev pub key_alone : Bytes → Option Capability
key_alone text = if is_key text then Some (record { key = text; value = None }) else None

abbrev pub key_and_value : Bytes → Bytes → Option Capability
key_and_value key value =
    if is_key key && is_value value then Some (record { key = key; value = Some value }) else None

abbrev pub capability_split : Bytes → Option ℕ → Option Capability
capability_split text None = key_alone text
capability_split text (Some at) = key_and_value (take at text) (drop (at + 1) text)

-- the capability that a text encodes: a key alone, or a key and a value with `=` between them
unfoldable pub capability_of : Bytes → Option Capability
capability_of text = capability_split text (position is_equals_sign text)

-- ---- capabilities as gitprotocol-v2(5) states them

-- a capability with a well-formed key and a well-formed value
pub record IsWellFormed (capability : Capability) : Type 0 where
  pub key : IsTrue (is_key capability.key)
  pub value : IfSome capability.value (λ value. IsTrue (is_value value))

abbrev pub value_text : Option Bytes → Bytes
value_text None = []
value_text (Some value) = codes "=" ++ value

-- the text of a capability
abbrev pub capability_text : Capability → Bytes
capability_text capability = capability.key ++ value_text capability.value

-- a text is read as a capability exactly if the capability is well-formed and has this text
abbrev pub CapabilityIsItsText : Type 0
CapabilityIsItsText = (text : Bytes) (capability : Capability) → (capability_of text ≡ Some capability)
    ↔ ((text ≡ capability_text capability) × IsWellFormed capability)
