-- The packets that are written for a request, with its arguments in a fixed order (gitprotocol-v2(5), "Command
-- Request"). Git's manual does not fix the order of arguments, so this order is a choice of this crate.
use Rattle.std.specs.Prelude.{◌≡◌, Bool, true, false, List, [], ◌∷◌, ◌++◌, map, codes, Option, Some, None}
use Rattle.gpkt.specs.Packets.{Bytes, Packet, Flush, Delim}
use Rattle.gname.specs.Ids.{Id, id_text}
use Rattle.gname.specs.Formats.{format_name}
use Rattle.gname.specs.declared.formats.Format.{Format}
use Rattle.gname.specs.declared.formats.Format.TheVariants.{Sha1, Sha256}
use Rattle.grequest.specs.declared.command.Command.{Command}
use Rattle.grequest.specs.declared.command.Command.TheVariants.{LsRefs, Fetch}
use Rattle.grequest.specs.declared.flag.FetchFlag.TheVariants.{Done}
use Rattle.grequest.specs.Flags.{Table, FlagsOf}
use Rattle.grequest.specs.Arguments.{command_name, ls_flags, fetch_flags}
use Rattle.ggrammar.specs.Texts.{text_packet}
use Rattle.grequest.specs.Asked.{LsRefsAsked, FetchAsked, Asked, Empty, Ls, Fetches, fetch_has, fetch_with}

abbrev pub command_packet : Command → Packet
command_packet command = text_packet (codes "command=" ++ command_name command)

abbrev pub agent_packets : Option Bytes → List Packet
agent_packets None = []
agent_packets (Some value) = text_packet (codes "agent=" ++ value) ∷ []

-- the packet of the object-format capability, or no packet for sha1, which is the default
abbrev pub format_packets : Format → List Packet
format_packets Sha1 = []
format_packets Sha256 = text_packet (codes "object-format=" ++ format_name Sha256) ∷ []

abbrev pub flag_packets : Bytes → Bool → List Packet
flag_packets word false = []
flag_packets word true = text_packet word ∷ []

-- a packet for each flag that is set, in the order of the table
abbrev pub flags_packets : {F : Type 0} (table : Table F) → FlagsOf table → List Packet
flags_packets [] flags = []
flags_packets (row ∷ rows) flags = flag_packets row.1 flags.0 ++ flags_packets rows flags.1

abbrev pub prefix_packet : Bytes → Packet
prefix_packet prefix = text_packet (codes "ref-prefix " ++ prefix)

-- a packet with a word followed by an id
abbrev pub id_packet : Bytes → Id → Packet
id_packet word id = text_packet (word ++ id_text id)

abbrev pub ls_argument_packets : LsRefsAsked → List Packet
ls_argument_packets asked =
    flags_packets ls_flags asked.flags ++ map prefix_packet asked.prefixes

-- the packets of the arguments of fetch, with `done` after the ids
abbrev pub fetch_argument_packets : FetchAsked → List Packet
fetch_argument_packets asked =
    flags_packets fetch_flags (fetch_with asked Done false).flags
    ++ map (id_packet (codes "want ")) asked.wants
    ++ map (id_packet (codes "have ")) asked.haves
    ++ flag_packets (codes "done") (fetch_has asked Done)

-- the packets of a command: its name, its capabilities, a delimiter, its arguments and a flush
abbrev pub command_packets : Format → Command → Option Bytes → List Packet → List Packet
command_packets format command agent arguments =
    command_packet command ∷ (agent_packets agent ++ format_packets format ++ Delim ∷ (arguments ++ Flush ∷ []))

-- the packets of a request to a repository with this object format
unfoldable pub canonical_request : Format → Asked → List Packet
canonical_request format Empty = Flush ∷ []
canonical_request format (Ls asked) = command_packets format LsRefs asked.agent (ls_argument_packets asked)
canonical_request format (Fetches asked) = command_packets format Fetch asked.agent (fetch_argument_packets asked)

-- the packets are those that are written for the request
abbrev pub IsCanonicalRequest : Format → List Packet → Asked → Type 0
IsCanonicalRequest format lines asked = lines ≡ canonical_request format asked
