-- The texts of a request's packets (gitprotocol-v2(5), "Command Request", "ls-refs", "fetch"): the kind and the value
-- of each text. A text is a command, a capability or an argument of a command.
use Rattle.std.specs.Prelude.{Bool, [], ◌∷◌, codes, if◌then◌else◌, Option, Some, None}
use Rattle.std.specs.Str.{bytes_eq}
use Rattle.gpkt.specs.Packets.{Bytes}
use Rattle.ggrammar.specs.PeerErrors.{after_word}
use Rattle.ggrammar.specs.Capabilities.{Capability, capability_of, is_key, is_word_value}
use Rattle.grequest.specs.declared.command.Command.{Command}
use Rattle.grequest.specs.declared.command.Command.TheVariants.{LsRefs, Fetch}
use Rattle.grequest.specs.declared.command.CommandForm.{CommandForm}
use Rattle.grequest.specs.declared.command.CommandForm.TheVariants.{Known, Unknown as UnknownCommand, Bad as BadCommand}
use Rattle.grequest.specs.declared.flag.LsRefsFlag.{LsRefsFlag}
use Rattle.grequest.specs.declared.flag.LsRefsFlag.TheVariants as ls
use Rattle.grequest.specs.declared.flag.FetchFlag.{FetchFlag}
use Rattle.grequest.specs.declared.flag.FetchFlag.TheVariants as fetch
use Rattle.grequest.specs.Flags.{Table, flag_in}

-- the text equals this word
abbrev pub is_word : Bytes → Bytes → Bool
is_word word text = bytes_eq text word

-- ---- the command

-- the names of the commands
abbrev pub command_name : Command → Bytes
command_name LsRefs = codes "ls-refs"
command_name Fetch = codes "fetch"

-- the command that a key names
abbrev pub command_of_key : Bytes → CommandForm
command_of_key key =
    if is_word (command_name LsRefs) key then Known LsRefs
    else if is_word (command_name Fetch) key then Known Fetch
    else if is_key key then UnknownCommand
    else BadCommand

abbrev pub command_after : Option Bytes → CommandForm
command_after None = BadCommand
command_after (Some key) = command_of_key key

-- the command that the first text of a request names, after `command=`
unfoldable pub command_form : Bytes → CommandForm
command_form text = command_after (after_word (codes "command=") text)

-- ---- capabilities

pub data CapabilityForm : Type 0 where
  Agent : (value : Bytes) → CapabilityForm
  ObjectFormat : (value : Bytes) → CapabilityForm
  UnknownCapability BadCapability : CapabilityForm

-- the agent capability, whose value must not contain a space
abbrev pub agent_with : Option Bytes → CapabilityForm
agent_with None = BadCapability
agent_with (Some value) = if is_word_value value then Agent value else BadCapability

abbrev pub format_with : Option Bytes → CapabilityForm
format_with None = BadCapability
format_with (Some value) = ObjectFormat value

abbrev pub known_capability : Capability → CapabilityForm
known_capability capability =
    if is_word (codes "agent") capability.key then agent_with capability.value
    else if is_word (codes "object-format") capability.key then format_with capability.value
    else UnknownCapability

abbrev pub capability_with : Option Capability → CapabilityForm
capability_with None = BadCapability
capability_with (Some capability) = known_capability capability

-- the capability in a text of the capability list
unfoldable pub capability_form : Bytes → CapabilityForm
capability_form text = capability_with (capability_of text)

-- ---- flags

-- the flags of ls-refs, in the order in which they are written
abbrev pub ls_flags : Table LsRefsFlag
ls_flags =
    (ls.Peel, codes "peel")
    ∷ (ls.Symrefs, codes "symrefs")
    ∷ (ls.Unborn, codes "unborn")
    ∷ []

-- the flags of fetch, in the order in which they are written; `done` is written after the ids
abbrev pub fetch_flags : Table FetchFlag
fetch_flags =
    (fetch.ThinPack, codes "thin-pack")
    ∷ (fetch.NoProgress, codes "no-progress")
    ∷ (fetch.IncludeTag, codes "include-tag")
    ∷ (fetch.OfsDelta, codes "ofs-delta")
    ∷ (fetch.Done, codes "done")
    ∷ []

-- ---- arguments

pub data LsArgument : Type 0 where
  KnownLsFlag : (flag : LsRefsFlag) → LsArgument
  RefPrefix : (prefix : Bytes) → LsArgument
  UnknownLsArgument : LsArgument

abbrev pub ls_flag_or_else : Option LsRefsFlag → LsArgument → LsArgument
ls_flag_or_else None other = other
ls_flag_or_else (Some flag) other = KnownLsFlag flag

abbrev pub ref_prefix_or_unknown : Option Bytes → LsArgument
ref_prefix_or_unknown None = UnknownLsArgument
ref_prefix_or_unknown (Some prefix) = RefPrefix prefix

-- the kind of an argument of ls-refs; a text that starts with `ref-prefix ` is always a prefix argument
unfoldable pub ls_argument : Bytes → LsArgument
ls_argument text =
    ls_flag_or_else (flag_in ls_flags text) (ref_prefix_or_unknown (after_word (codes "ref-prefix ") text))

pub data FetchArgument : Type 0 where
  KnownFetchFlag : (flag : FetchFlag) → FetchArgument
  Want : (id : Bytes) → FetchArgument
  Have : (id : Bytes) → FetchArgument
  UnknownFetchArgument : FetchArgument

abbrev pub fetch_flag_or_else : Option FetchFlag → FetchArgument → FetchArgument
fetch_flag_or_else None other = other
fetch_flag_or_else (Some flag) other = KnownFetchFlag flag

abbrev pub have_or_unknown : Option Bytes → FetchArgument
have_or_unknown None = UnknownFetchArgument
have_or_unknown (Some id) = Have id

abbrev pub want_or_else : Option Bytes → FetchArgument → FetchArgument
want_or_else None other = other
want_or_else (Some id) other = Want id

-- the kind of an argument of fetch; a text that starts with `want ` or `have ` is always a want or a have
unfoldable pub fetch_argument : Bytes → FetchArgument
fetch_argument text =
    fetch_flag_or_else (flag_in fetch_flags text)
    (want_or_else (after_word (codes "want ") text) (have_or_unknown (after_word (codes "have ") text)))
