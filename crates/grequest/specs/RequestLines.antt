-- The contents of the packets of a request: the section of each packet, and the values of each kind of text
-- (gitprotocol-v2(5), "Command Request").
use Rattle.std.specs.Prelude.{false, Bool, List, [], ◌∷◌, Option, Some, None}
use Rattle.std.specs.List.{filter_map, list_any}
use Rattle.gname.specs.Ids.{Id}
use Rattle.gpkt.specs.Packets.{Bytes, Packet, Data, Delim, text}
use Rattle.gname.specs.declared.formats.Format.{Format}
use Rattle.ggrammar.specs.Ids.{id_of_text}
use Rattle.ggrammar.specs.Places.{place_after, collect}
use Rattle.grequest.specs.declared.command.Command.{Command}
use Rattle.grequest.specs.declared.command.Command.TheVariants.{LsRefs, Fetch}
use Rattle.grequest.specs.declared.command.CommandForm.{CommandForm}
use Rattle.grequest.specs.declared.command.CommandForm.TheVariants.{Known}
use Rattle.grequest.specs.Arguments.{command_form, CapabilityForm, Agent, ObjectFormat, capability_form}
use Rattle.grequest.specs.Arguments.{ls_flags, LsArgument, KnownLsFlag, RefPrefix, ls_argument}
use Rattle.grequest.specs.Arguments.{fetch_flags, FetchArgument, KnownFetchFlag, Want, Have, fetch_argument}
use Rattle.grequest.specs.declared.flag.LsRefsFlag.{LsRefsFlag}
use Rattle.grequest.specs.declared.flag.FetchFlag.{FetchFlag}
use Rattle.grequest.specs.Flags.{FlagsOf, flags_where}
use Rattle.grequest.specs.Asked.{LsRefsAsked, FetchAsked, Asked, Empty, Ls, Fetches, same_ls_flag, same_fetch_flag}

-- ---- the section of a packet

pub data RequestPlace : Type 0 where
  First : RequestPlace
  InCapabilities : (command : Command) → RequestPlace
  InArguments : (command : Command) → RequestPlace

-- the section after the first text of a request
abbrev pub place_of_command : CommandForm → RequestPlace
place_of_command (Known command) = InCapabilities command
place_of_command _ = First

-- the section after a packet: the capabilities follow the command, and the arguments follow a delimiter
abbrev pub next_place : RequestPlace → Packet → RequestPlace
next_place First (Data payload) = place_of_command (command_form (text payload))
next_place First _ = First
next_place (InCapabilities command) Delim = InArguments command
next_place (InCapabilities command) _ = InCapabilities command
next_place (InArguments command) packet = InArguments command

-- the section after these packets
abbrev pub place_of : List Packet → RequestPlace
place_of lines = place_after next_place First lines

-- ---- the texts of the capability list, and of the arguments

abbrev pub capability_there : RequestPlace → Packet → List Bytes
capability_there (InCapabilities command) (Data payload) = text payload ∷ []
capability_there place packet = []

unfoldable pub capability_texts : List Packet → List Bytes
capability_texts lines = collect next_place capability_there First lines

abbrev pub argument_there : RequestPlace → Packet → List Bytes
argument_there (InArguments command) (Data payload) = text payload ∷ []
argument_there place packet = []

unfoldable pub argument_texts : List Packet → List Bytes
argument_texts lines = collect next_place argument_there First lines

-- ---- the values in the texts, for each kind in order

abbrev pub agent_value : CapabilityForm → Option Bytes
agent_value (Agent value) = Some value
agent_value _ = None

abbrev pub format_value : CapabilityForm → Option Bytes
format_value (ObjectFormat value) = Some value
format_value _ = None

abbrev pub agents : List Bytes → List Bytes
agents texts = filter_map (λ line. agent_value (capability_form line)) texts

abbrev pub formats : List Bytes → List Bytes
formats texts = filter_map (λ line. format_value (capability_form line)) texts

abbrev pub prefix_value : LsArgument → Option Bytes
prefix_value (RefPrefix prefix) = Some prefix
prefix_value _ = None

abbrev pub prefixes : List Bytes → List Bytes
prefixes texts = filter_map (λ line. prefix_value (ls_argument line)) texts

abbrev pub want_value : Format → FetchArgument → Option Id
want_value format (Want id) = id_of_text format id
want_value format _ = None

abbrev pub have_value : Format → FetchArgument → Option Id
have_value format (Have id) = id_of_text format id
have_value format _ = None

abbrev pub wants : Format → List Bytes → List Id
wants format texts = filter_map (λ line. want_value format (fetch_argument line)) texts

abbrev pub haves : Format → List Bytes → List Id
haves format texts = filter_map (λ line. have_value format (fetch_argument line)) texts

-- ---- flags

abbrev pub is_ls_flag : LsRefsFlag → LsArgument → Bool
is_ls_flag flag (KnownLsFlag other) = same_ls_flag flag other
is_ls_flag flag _ = false

abbrev pub is_fetch_flag : FetchFlag → FetchArgument → Bool
is_fetch_flag flag (KnownFetchFlag other) = same_fetch_flag flag other
is_fetch_flag flag _ = false

-- at least one of the texts is an argument for which the test is true
abbrev pub has_ls_argument : (LsArgument → Bool) → List Bytes → Bool
has_ls_argument is_it texts = list_any (λ line. is_it (ls_argument line)) texts

abbrev pub has_fetch_argument : (FetchArgument → Bool) → List Bytes → Bool
has_fetch_argument is_it texts = list_any (λ line. is_it (fetch_argument line)) texts

-- the set of the flags that occur among the texts
abbrev pub ls_flags_among : List Bytes → FlagsOf ls_flags
ls_flags_among texts = flags_where ls_flags (λ flag. has_ls_argument (is_ls_flag flag) texts)

abbrev pub fetch_flags_among : List Bytes → FlagsOf fetch_flags
fetch_flags_among texts = flags_where fetch_flags (λ flag. has_fetch_argument (is_fetch_flag flag) texts)

abbrev pub first_of : List Bytes → Option Bytes
first_of [] = None
first_of (x ∷ xs) = Some x

-- ---- the contents of a request

abbrev pub ls_refs_asked : List Bytes → List Bytes → LsRefsAsked
ls_refs_asked capabilities arguments = record {
  agent = first_of (agents capabilities);
  flags = ls_flags_among arguments;
  prefixes = prefixes arguments;
}

abbrev pub fetch_asked : Format → List Bytes → List Bytes → FetchAsked
fetch_asked format capabilities arguments = record {
  agent = first_of (agents capabilities);
  wants = wants format arguments;
  haves = haves format arguments;
  flags = fetch_flags_among arguments;
}

abbrev pub asked_by_command : Format → Command → List Bytes → List Bytes → Asked
asked_by_command format LsRefs capabilities arguments = Ls (ls_refs_asked capabilities arguments)
asked_by_command format Fetch capabilities arguments = Fetches (fetch_asked format capabilities arguments)

-- the contents of a request; a request without a command is the empty request
abbrev pub asked_by_texts : Format → RequestPlace → List Bytes → List Bytes → Asked
asked_by_texts format First capabilities arguments = Empty
asked_by_texts format (InCapabilities command) capabilities arguments =
    asked_by_command format command capabilities arguments
asked_by_texts format (InArguments command) capabilities arguments =
    asked_by_command format command capabilities arguments

abbrev pub asked_by_lines : Format → List Packet → Asked
asked_by_lines format lines = asked_by_texts format (place_of lines) (capability_texts lines) (argument_texts lines)
