-- The hello, which is the first line of a `git://` connection (gitprotocol-pack(5), "Git Transport"):
--
--   git-proto-request = request-command SP pathname NUL [host-parameter NUL] [NUL extra-parameters]
--   request-command = "git-upload-pack"
--   host-parameter = "host=" hostname
--   extra-parameters = "version=2" NUL
--
-- In this crate the host and the version are mandatory, and no other parameter is allowed.
use Rattle.std.specs.Prelude.{◌≡◌, ℕ, Bool, true, false, ◌&&◌, IsTrue, List, [], ◌∷◌, ◌++◌, length, codes, nat_eq}
use Rattle.std.specs.Prelude.{nat_le, if◌then◌else◌, Option, Some, None, is_some, Result, Ok, Err}
use Rattle.std.specs.List.{list_all, slice_split, starts_with}
use Rattle.std.specs.Str.{bytes_eq}
use Rattle.gpkt.specs.Packets.{Bytes, Packet, Data}
use Rattle.ggrammar.specs.Grammar.{Verdict, Whole, Refused}
use Rattle.ggrammar.specs.Capabilities.{is_graphic, is_printable}
use Rattle.ggrammar.specs.PeerErrors.{after_word}
use Rattle.ggrammar.specs.Building.{IsBuildReason}
use Rattle.ggrammar.specs.declared.fault.MessageFault.{MessageFault}
use Rattle.ggrammar.specs.declared.fault.Why.TheVariants.{UnexpectedFrame, BadText}

-- the maximum length of a path in bytes
abbrev pub max_path : ℕ
max_path = 1000

abbrev pub max_host : ℕ
max_host = 255

-- whether the bytes are a path: at most 1,000 printable bytes, of which the first is a slash
unfoldable pub is_path : Bytes → Bool
is_path path =
    starts_with nat_eq path (codes "/") && nat_le (length path) max_path && list_all is_printable path

-- whether the bytes are a host: 1 to 255 graphic bytes
unfoldable pub is_host : Bytes → Bool
is_host host = nat_le 1 (length host) && nat_le (length host) max_host && list_all is_graphic host

pub record Hello : Type 0 where
  pub path : Bytes
  pub host : Bytes

pub record IsHello (hello : Hello) : Type 0 where
  pub path : IsTrue (is_path hello.path)
  pub host : IsTrue (is_host hello.host)

abbrev pub is_hello : Hello → Bool
is_hello hello = is_path hello.path && is_host hello.host

-- the call returns this hello, or fails because the path or the host is malformed or memory runs out; the fault reports
-- packet position 0
abbrev pub MakesHello : Hello → Result Hello MessageFault → Type 0
MakesHello wanted (Ok hello) = (hello ≡ wanted) × IsHello hello
MakesHello wanted (Err fault) = (fault.frame ≡ 0) × IsBuildReason (is_hello wanted) true fault.why

-- ---- writing

abbrev pub nul : Bytes
nul = 0 ∷ []

-- the payload of the first line, which has no line feed at its end
abbrev pub hello_payload : Hello → Bytes
hello_payload hello =
    codes "git-upload-pack " ++ hello.path ++ nul ++ codes "host=" ++ hello.host ++ nul ++ nul
    ++ codes "version=2" ++ nul

unfoldable pub canonical_hello : Hello → List Packet
canonical_hello hello = Data (hello_payload hello) ∷ []

-- the packets are exactly those that are written for the hello
abbrev pub IsCanonical : List Packet → Hello → Type 0
IsCanonical packets hello = packets ≡ canonical_hello hello

-- the packets encode this hello; a hello has only one encoding
pub record Says (packets : List Packet) (hello : Hello) : Type 0 where
  pub form : IsHello hello
  pub line : IsCanonical packets hello

-- ---- the grammar

abbrev pub is_nul : ℕ → Bool
is_nul byte = nat_eq byte 0

abbrev pub hello_with : Option Bytes → Option Bytes → Option Hello
hello_with (Some path) (Some host) =
    if is_hello (record { path = path; host = host }) then Some (record { path = path; host = host }) else None
hello_with path host = None

-- the hello whose payload consists of these parts, separated by NULs: the command with the path, the host, an empty
-- part, the version, and an empty part
abbrev pub hello_of_parts : List Bytes → Option Hello
hello_of_parts (command ∷ host ∷ [] ∷ version ∷ [] ∷ []) =
    if bytes_eq version (codes "version=2")
    then hello_with (after_word (codes "git-upload-pack ") command) (after_word (codes "host=") host)
    else None
hello_of_parts parts = None

-- the hello that a payload encodes
unfoldable pub hello_of : Bytes → Option Hello
hello_of payload = hello_of_parts (slice_split is_nul payload)

abbrev pub judge_payload : Option Hello → Verdict
judge_payload (Some hello) = Whole
judge_payload None = Refused BadText

-- the verdict on a packet: a hello is exactly one packet, and an `ERR` packet is refused like any other malformed
-- payload
abbrev pub judge : List Packet → Packet → Verdict
judge packets (Data payload) = judge_payload (hello_of payload)
judge packets _ = Refused UnexpectedFrame

-- whether the packet has contents to store, which is true for every valid hello
abbrev pub brings : List Packet → Packet → Bool
brings packets (Data payload) = is_some (hello_of payload)
brings packets _ = false
