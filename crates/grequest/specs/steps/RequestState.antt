-- The steps of reading a request: the state after each accepted packet, the sections, the stored parts, and the
-- results.
use Rattle.std.specs.Prelude.{◌+◌, true, [], ◌∷◌, ◌++◌, Some, ◌≡◌, ℕ, Bool, false, List}
use Rattle.std.specs.Option.{option_to_list}
use Rattle.gpkt.specs.Packets.{Bytes, Packet, Data, Delim, text}
use Rattle.gname.specs.declared.formats.Format.{Format}
use Rattle.ggrammar.specs.Ids.{id_of_text}
use Rattle.ggrammar.specs.declared.limits.Limits.{Limits}
use Rattle.grequest.specs.declared.command.CommandForm.{CommandForm}
use Rattle.grequest.specs.declared.command.CommandForm.TheVariants.{Known}
use Rattle.grequest.specs.Arguments.{command_form, CapabilityForm, Agent, ObjectFormat}
use Rattle.grequest.specs.Arguments.{capability_form, LsArgument, KnownLsFlag, RefPrefix}
use Rattle.grequest.specs.Arguments.{UnknownLsArgument, ls_argument, FetchArgument, KnownFetchFlag, Want, Have}
use Rattle.grequest.specs.Arguments.{UnknownFetchArgument, fetch_argument}
use Rattle.grequest.specs.Asked.{LsRefsAsked, FetchAsked, Asked, Empty, Ls, Fetches, ls_with, fetch_with}
use Rattle.grequest.specs.RequestLines.{RequestPlace, First, InCapabilities, InArguments, asked_by_command}
use Rattle.grequest.specs.Requests.{State, state_of, text_brings}
use Rattle.grequest.specs.declared.command.Command.TheVariants.{LsRefs, Fetch}
use Rattle.grequest.specs.declared.section.Section.{Section}
use Rattle.grequest.specs.declared.section.Section.TheVariants.{Capabilities, Arguments}
use Rattle.ggrammar.specs.Capabilities.{is_word_value}

-- ---- the first text

abbrev pub with_command : Format → State → CommandForm → State
with_command format state (Known command) =
    record state { place = InCapabilities command; asked = asked_by_command format command [] [] }
with_command format state _ = state

-- ---- capabilities

abbrev pub with_agent : Bytes → Asked → Asked
with_agent value Empty = Empty
with_agent value (Ls asked) = Ls (record asked { agent = Some value })
with_agent value (Fetches asked) = Fetches (record asked { agent = Some value })

abbrev pub with_capability : State → CapabilityForm → State
with_capability state (Agent value) = record state { asked = with_agent value state.asked }
with_capability state (ObjectFormat value) = record state { format_lines = state.format_lines + 1 }
with_capability state _ = state

-- ---- arguments

abbrev pub with_ls_argument : LsRefsAsked → LsArgument → LsRefsAsked
with_ls_argument asked (KnownLsFlag flag) = ls_with asked flag true
with_ls_argument asked (RefPrefix prefix) = record asked { prefixes = asked.prefixes ++ prefix ∷ [] }
with_ls_argument asked UnknownLsArgument = asked

abbrev pub with_fetch_argument : Format → FetchAsked → FetchArgument → FetchAsked
with_fetch_argument format asked (KnownFetchFlag flag) = fetch_with asked flag true
with_fetch_argument format asked (Want id) =
    record asked { wants = asked.wants ++ option_to_list (id_of_text format id) }
with_fetch_argument format asked (Have id) =
    record asked { haves = asked.haves ++ option_to_list (id_of_text format id) }
with_fetch_argument format asked UnknownFetchArgument = asked

abbrev pub with_argument_text : Format → Bytes → Asked → Asked
with_argument_text format line Empty = Empty
with_argument_text format line (Ls asked) = Ls (with_ls_argument asked (ls_argument line))
with_argument_text format line (Fetches asked) = Fetches (with_fetch_argument format asked (fetch_argument line))

abbrev pub with_argument : Format → State → Bytes → State
with_argument format state line =
    record state { argument_lines = state.argument_lines + 1; asked = with_argument_text format line state.asked }

-- ---- a packet

abbrev pub with_text : Format → RequestPlace → State → Bytes → State
with_text format First state line = with_command format state (command_form line)
with_text format (InCapabilities command) state line = with_capability state (capability_form line)
with_text format (InArguments command) state line = with_argument format state line

abbrev pub with_delim : RequestPlace → State → State
with_delim (InCapabilities command) state = record state { place = InArguments command }
with_delim _ state = state

unfoldable pub with_packet : Format → State → Packet → State
with_packet format state (Data payload) = with_text format state.place state (text payload)
with_packet format state Delim = with_delim state.place state
with_packet format state _ = state

-- ---- sections of a request

-- the section of a request, which is `First` until the command is read
abbrev pub place_in : Section → Asked → RequestPlace
place_in section Empty = First
place_in Capabilities (Ls asked) = InCapabilities LsRefs
place_in Capabilities (Fetches asked) = InCapabilities Fetch
place_in Arguments (Ls asked) = InArguments LsRefs
place_in Arguments (Fetches asked) = InArguments Fetch

-- ---- the stored parts

-- the part of a request read so far, with these limits and for a repository with this object format
pub record RequestSoFar : Type 0 where
  pub limits : Limits
  pub format : Format
  pub state : State

-- the state of reading is the state after these packets
abbrev pub HoldsPackets : RequestSoFar → List Packet → Type 0
HoldsPackets reading lines = reading.state ≡ state_of reading.format lines

-- no contract restricts the state of reading after a refused request
abbrev pub LeavesNothing : RequestSoFar → List Packet → Type 0
LeavesNothing reading front = Unit {0}

abbrev pub one : Bool → ℕ
one true = 1
one false = 0

-- if the capability is an agent, its value has 1 to 1,000 printable bytes and no space
abbrev pub CarriesWord : CapabilityForm → Type 0
CarriesWord (Agent value) = is_word_value value ≡ true
CarriesWord _ = Unit {0}

-- whether the contents of a packet in this section are stored
abbrev pub packet_brings : RequestPlace → Packet → Bool
packet_brings place (Data payload) = text_brings place (text payload)
packet_brings place _ = false
