-- The packets that a client sends: a request, packet by packet (gitprotocol-v2(5), "Command Request"), or no packet.
use Rattle.std.specs.Prelude.{◌≡◌, ◌<◌, ◌+◌, ◌-◌, ℕ, false, List, [], ◌∷◌, ◌++◌, length, map, drop, codes, Option, Some, None}
use Rattle.gname.specs.declared.formats.Format.{Format}
use Rattle.gpkt.specs.Packets.{Bytes, Packet, Delim, Flush, canonical_all}
use Rattle.grequest.specs.Arguments.{fetch_flags, ls_flags}
use Rattle.grequest.specs.Asked.{Asked, Empty, Ls, Fetches, fetch_has, fetch_with}
use Rattle.grequest.specs.RequestValues.{asked_by_request}
use Rattle.grequest.specs.RequestWriting.{agent_packets, canonical_request, flag_packets, flags_packets, format_packets}
use Rattle.grequest.specs.RequestWriting.{id_packet, prefix_packet}
use Rattle.grequest.specs.Requests.{agent_of}
use Rattle.grequest.specs.declared.flag.FetchFlag.TheVariants.{Done}
use Rattle.gfetch.specs.declared.asking.ClientReply.{ClientReply}
use Rattle.gfetch.specs.declared.asking.ClientReply.TheVariants as reply
use Rattle.gfetch.specs.declared.asking.NextPart.{NextPart}
use Rattle.gfetch.specs.declared.asking.NextPart.TheVariants as part

-- the packets of the flags, without `done`
abbrev pub flags_of : Asked → List Packet
flags_of Empty = []
flags_of (Ls asked) = flags_packets ls_flags asked.flags
flags_of (Fetches asked) = flags_packets fetch_flags (fetch_with asked Done false).flags

-- the packets of the prefixes or of the wants, from this position
abbrev pub firsts_from : Asked → ℕ → List Packet
firsts_from Empty at = []
firsts_from (Ls asked) at = map prefix_packet (drop at asked.prefixes)
firsts_from (Fetches asked) at = map (id_packet (codes "want ")) (drop at asked.wants)

abbrev pub first_count : Asked → ℕ
first_count Empty = 0
first_count (Ls asked) = length asked.prefixes
first_count (Fetches asked) = length asked.wants

-- the packets of the haves, from this position
abbrev pub haves_from : Asked → ℕ → List Packet
haves_from Empty at = []
haves_from (Ls asked) at = []
haves_from (Fetches asked) at = map (id_packet (codes "have ")) (drop at asked.haves)

abbrev pub have_count : Asked → ℕ
have_count Empty = 0
have_count (Ls asked) = 0
have_count (Fetches asked) = length asked.haves

abbrev pub done_of : Asked → List Packet
done_of Empty = []
done_of (Ls asked) = []
done_of (Fetches asked) = flag_packets (codes "done") (fetch_has asked Done)

module _ (format : Format) (asked : Asked) where
  abbrev pub from_flags : List Packet
  from_flags = flags_of asked ++ (firsts_from asked 0 ++ (haves_from asked 0 ++ (done_of asked ++ Flush ∷ [])))

  -- the packets of the request, from this part to the end
  abbrev pub rest_of : NextPart → List Packet
  rest_of part.Command = canonical_request format asked
  rest_of part.Agent = agent_packets (agent_of asked) ++ (format_packets format ++ Delim ∷ from_flags)
  rest_of part.Format = format_packets format ++ Delim ∷ from_flags
  rest_of part.Delim = Delim ∷ from_flags
  rest_of part.Flags = from_flags
  rest_of (part.First at) = firsts_from asked at ++ (haves_from asked 0 ++ (done_of asked ++ Flush ∷ []))
  rest_of (part.Have at) = haves_from asked at ++ (done_of asked ++ Flush ∷ [])
  rest_of part.Done = done_of asked ++ Flush ∷ []
  rest_of part.Flush = Flush ∷ []

-- the maximum number of further calls that do not complete the request
abbrev pub steps_of : Asked → NextPart → ℕ
steps_of asked part.Flush = 0
steps_of asked part.Done = 1
steps_of asked (part.Have at) = (have_count asked - at) + 2
steps_of asked (part.First at) = (first_count asked - at) + have_count asked + 3
steps_of asked part.Flags = first_count asked + have_count asked + 4
steps_of asked part.Delim = first_count asked + have_count asked + 5
steps_of asked part.Format = first_count asked + have_count asked + 6
steps_of asked part.Agent = first_count asked + have_count asked + 7
steps_of asked part.Command = first_count asked + have_count asked + 8

-- the call queues the packets of this part, and another part or no part follows
abbrev pub SaysPart : Format → Asked → NextPart → Bytes → Option NextPart → Type 0
SaysPart format asked next out (Some after) =
    (said : List Packet) × (out ≡ canonical_all said) × (rest_of format asked next ≡ said ++ rest_of format asked after)
    × (steps_of asked after < steps_of asked next)
SaysPart format asked next out None =
    (said : List Packet) × (out ≡ canonical_all said) × (rest_of format asked next ≡ said)

-- the packets that remain to be sent
abbrev pub reply_rest : {A : Type 0} → ClientReply A → List Packet
reply_rest (reply.Request asking) = rest_of asking.format (asked_by_request asking.request) asking.next
reply_rest reply.Silence = []

abbrev pub reply_steps : {A : Type 0} → ClientReply A → ℕ
reply_steps (reply.Request asking) = steps_of (asked_by_request asking.request) asking.next
reply_steps reply.Silence = 0
