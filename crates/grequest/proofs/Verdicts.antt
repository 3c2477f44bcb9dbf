-- The verdicts of the judge of requests: the reasons to reject a packet, and the flush as the only end of a request.
use Rattle.std.proofs.Common.{◌≡◌, ℕ, ◌==◌, ◌&&◌, Bool, true, false, cond, subst, List, length, ◌≤◌, Option, None, refl}
use Rattle.std.proofs.Common.{sym, ap, ◌∙◌, arith}
use Rattle.std.specs.Prelude.{is_none, is_some, nat_lt}
use Rattle.gpkt.specs.Packets.{Packet, Data, Flush, Delim, ResponseEnd, text}
use Rattle.gname.specs.Names.{prefix_fault}
use Rattle.gname.specs.Formats.{format_name}
use Rattle.gname.specs.declared.formats.Format.{Format}
use Rattle.gname.specs.declared.formats.Format.TheVariants.{Sha1, Sha256}
use Rattle.ggrammar.specs.Grammar.{Verdict, Open, Whole, Refused, if_room}
use Rattle.ggrammar.specs.Ids.{id_of_text}
use Rattle.ggrammar.specs.declared.limits.Limits.{Limits}
use Rattle.ggrammar.specs.MessageBytes.{IsForPacket, IsOfPacket, RefusesPackets}
use Rattle.ggrammar.specs.PeerErrors.{peer_error, unless_error}
use Rattle.ggrammar.specs.declared.fault.Why.TheVariants.{BadText, BadName, BadId, Limit, Format as WrongFormat}
use Rattle.ggrammar.proofs.VerdictLemmas.{of_test, past_error, open_unless, whole_unless}
use Rattle.grequest.specs.declared.command.Command.TheVariants.{LsRefs, Fetch}
use Rattle.grequest.specs.declared.command.CommandForm.{CommandForm}
use Rattle.grequest.specs.declared.command.CommandForm.TheVariants.{Known}
use Rattle.grequest.specs.Arguments.{is_word, command_form, CapabilityForm, Agent, ObjectFormat, capability_form}
use Rattle.grequest.specs.Arguments.{LsArgument, KnownLsFlag, RefPrefix, UnknownLsArgument, ls_argument, FetchArgument}
use Rattle.grequest.specs.Arguments.{KnownFetchFlag, Want, Have, UnknownFetchArgument, fetch_argument}
use Rattle.grequest.specs.Asked.{max_prefixes, max_wants, max_haves}
use Rattle.grequest.specs.RequestLines.{RequestPlace, First, InCapabilities, InArguments, formats}
use Rattle.grequest.specs.Requests.{State, agent_of, has_room, of_few, prefixes_of, wants_of, haves_of, judge}
use Rattle.grequest.specs.Requests.{judge_command, judge_capability, judge_ls_argument, judge_fetch_argument}
use Rattle.grequest.specs.Requests.{judge_text, judge_delim, judge_flush, judge_at, state_of, unless_unnamed}
use Rattle.std.proofs.lemmas.Bool.{eqb-false, ne_eqb}
use Rattle.ggrammar.specs.declared.fault.Why.{Why}
use Rattle.grequest.specs.declared.command.Command.{Command}
use Rattle.grequest.specs.Manual.{NamesFormat}
use Rattle.grequest.proofs.StateLemmas.{state_at}

-- ---- texts

-- the verdict on a text or a delimiter: the request continues, or the packet is rejected because of its content
abbrev pub IsForText : Verdict → Type 0
IsForText Open = Unit {0}
IsForText Whole = ⊥
IsForText (Refused why) = IsOfPacket why

pub never_whole : (verdict : Verdict) → IsForText verdict → verdict ≡ Whole → ⊥
never_whole verdict h e = subst IsForText e h

for_packet : (verdict : Verdict) → IsForText verdict → IsForPacket verdict
for_packet Whole h = tt
for_packet verdict h = h

by_test : (test : Bool) (one other : Verdict) → IsForText one → IsForText other → IsForText (cond test one other)
by_test true one other h k = h
by_test false one other h k = k

by_room : (test : Bool) → IsForText (if_room test)
by_room test = by_test test Open (Refused Limit) tt tt

of_command : (form : CommandForm) → IsForText (judge_command form)
of_command (Known command) = tt
of_command _ = tt

of_capability : (format : Format) (state : State) (form : CapabilityForm) → IsForText (judge_capability format state form)
of_capability format state (Agent value) = by_test (is_none (agent_of state.asked)) Open (Refused BadText) tt tt
of_capability format state (ObjectFormat value) =
    by_test (state.format_lines == 0) (cond (is_word (format_name format) value) Open (Refused WrongFormat)) (Refused BadText)
    (by_test (is_word (format_name format) value) Open (Refused WrongFormat) tt tt) tt
of_capability format state _ = tt

of_few_fits : (test : Bool) (arguments : ℕ) (before : List (List ℕ)) (limit : ℕ) (verdict : Verdict) → IsForText verdict
    → IsForText (cond test (of_few arguments before limit) verdict)
of_few_fits test arguments before limit verdict h =
    by_test test (of_few arguments before limit) verdict (by_room (has_room arguments && nat_lt (length before) limit)) h

of_ls_argument : (limits : Limits) (arguments : ℕ) (prefixes : List (List ℕ)) (argument : LsArgument) → IsForText (judge_ls_argument limits arguments prefixes argument)
of_ls_argument limits arguments prefixes (KnownLsFlag flag) = by_room (has_room arguments)
of_ls_argument limits arguments prefixes (RefPrefix prefix) =
    of_few_fits (is_none (prefix_fault prefix)) arguments prefixes (max_prefixes limits) (Refused BadName) tt
of_ls_argument limits arguments prefixes UnknownLsArgument = tt

of_fetch_argument : (limits : Limits) (format : Format) (arguments : ℕ) (wants haves : List (List ℕ))
    (argument : FetchArgument)
    → IsForText (judge_fetch_argument limits format arguments wants haves argument)
of_fetch_argument limits format arguments wants haves (KnownFetchFlag flag) = by_room (has_room arguments)
of_fetch_argument limits format arguments wants haves (Want id) =
    of_few_fits (is_some (id_of_text format id)) arguments wants (max_wants limits) (Refused BadId) tt
of_fetch_argument limits format arguments wants haves (Have id) =
    of_few_fits (is_some (id_of_text format id)) arguments haves (max_haves limits) (Refused BadId) tt
of_fetch_argument limits format arguments wants haves UnknownFetchArgument = tt

pub of_text : (limits : Limits) (format : Format) (place : RequestPlace) (state : State) (line : List ℕ) → IsForText (judge_text limits format place state line)
of_text limits format First state line = of_command (command_form line)
of_text limits format (InCapabilities command) state line = of_capability format state (capability_form line)
of_text limits format (InArguments LsRefs) state line =
    of_ls_argument limits state.argument_lines (prefixes_of state.asked) (ls_argument line)
of_text limits format (InArguments Fetch) state line =
    of_fetch_argument limits format state.argument_lines (wants_of state.asked) (haves_of state.asked)
    (fetch_argument line)

-- ---- packets

of_flush : (format : Format) (place : RequestPlace) (state : State) → IsForPacket (judge_flush format place state)
of_flush Sha256 (InCapabilities command) state = of_test (state.format_lines == 0) (Refused WrongFormat) Whole tt tt
of_flush Sha1 (InCapabilities command) state = tt
of_flush format _ state = tt

pub of_delim : (format : Format) (place : RequestPlace) (state : State) → IsForText (judge_delim format place state)
of_delim Sha256 (InCapabilities command) state = by_test (state.format_lines == 0) (Refused WrongFormat) Open tt tt
of_delim Sha1 (InCapabilities command) state = tt
of_delim format _ state = tt

of_packet : (limits : Limits) (format : Format) (state : State) (packet : Packet)
    → IsForPacket (judge_at limits format state packet)
unfolding judge_at
of_packet limits format state (Data payload) =
    past_error (peer_error payload) (judge_text limits format state.place state (text payload))
    (for_packet _ (of_text limits format state.place state (text payload)))
of_packet limits format state Flush = of_flush format state.place state
of_packet limits format state Delim = for_packet _ (of_delim format state.place state)
of_packet limits format state ResponseEnd = tt

pub refuses_packets : (limits : Limits) (format : Format) → RefusesPackets (judge limits format)
refuses_packets limits format front packet = of_packet limits format (state_of format front) packet

-- ---- the precedence of the peer's errors

-- if a request continues after a data packet, the verdict on the packet's text in this section is `Open`
pub text-open : (limits : Limits) (format : Format) (state : State) (payload : List ℕ) → judge_at limits format state (Data payload) ≡ Open → judge_text limits format state.place state (text payload) ≡ Open
unfolding judge_at
text-open limits format state payload e = open_unless (peer_error payload) _ e

-- if the verdict on a text in this section is `Open` and its packet reports no error, the request continues
pub open-text : (limits : Limits) (format : Format) (state : State) (payload : List ℕ) → peer_error payload ≡ None → judge_text limits format state.place state (text payload) ≡ Open → judge_at limits format state (Data payload) ≡ Open
unfolding judge_at
open-text limits format state payload none e = ap (λ (said : Option (List ℕ)). unless_error said (judge_text limits format state.place state (text payload))) none ∙ e

pub known_command : (form : CommandForm) → judge_command form ≡ Open → (command : Command) × (form ≡ Known command)
known_command (Known command) e = (command, refl)
known_command _ e = cc

-- ---- delimiter, flush and response-end

pub judge-delim : (limits : Limits) (format : Format) (state : State)
    → judge_at limits format state Delim ≡ judge_delim format state.place state
unfolding judge_at
judge-delim limits format state = refl

pub judge-flush : (limits : Limits) (format : Format) (state : State)
    → judge_at limits format state Flush ≡ judge_flush format state.place state
unfolding judge_at
judge-flush limits format state = refl

pub response_end-never_open : (limits : Limits) (format : Format) (state : State)
    → judge_at limits format state ResponseEnd ≡ Open → ⊥
unfolding judge_at
response_end-never_open limits format state e = cc

unnamed_never : (b : Bool) (why : Why) → cond b (Refused why) Whole ≡ Open → ⊥
unnamed_never true why e = cc
unnamed_never false why e = cc

flush_at : (format : Format) (place : RequestPlace) (state : State) → judge_flush format place state ≡ Open → ⊥
flush_at Sha256 (InCapabilities command) state e = unnamed_never (state.format_lines == 0) WrongFormat e
flush_at Sha1 (InCapabilities command) state e = cc
flush_at format _ state e = cc

pub flush-never_open : (limits : Limits) (format : Format) (state : State) → judge_at limits format state Flush ≡ Open
    → ⊥
flush-never_open limits format state e = flush_at format state.place state (sym (judge-flush limits format state) ∙ e)

-- ---- the packet that ends the capabilities

is_named : (b : Bool) (why : Why) (verdict taken : Verdict) → cond b (Refused why) verdict ≡ taken → (Refused why ≡ taken → ⊥) → b ≡ false
is_named true why verdict taken e never = absurd (never e)
is_named false why verdict taken e never = refl

pub at_one : (n : ℕ) → n ≤ 1 → (n ≡ 0 → ⊥) → n ≡ 1
at_one n one some = omega arith

-- if the end of the capabilities is not rejected, the object format is named or need not be named
pub names_format : (format : Format) (command : Command) (lines arguments : List (List ℕ)) (verdict : Verdict) → ((why : Why) → Refused why ≡ verdict → ⊥) → length (formats lines) ≤ 1
    → unless_unnamed format (state_at format (InCapabilities command) lines arguments) verdict ≡ verdict → NamesFormat format lines
names_format Sha1 command lines arguments verdict never one e = one
names_format Sha256 command lines arguments verdict never one e =
    let some = eqb-false (length (formats lines)) 0 (is_named (length (formats lines) == 0) WrongFormat verdict verdict e (never WrongFormat)) in
    at_one (length (formats lines)) one some

pub unless-named : (b : Bool) (why : Why) (verdict : Verdict) → b ≡ false → cond b (Refused why) verdict ≡ verdict
unless-named true why verdict e = cc
unless-named false why verdict e = refl

pub named-taken : (format : Format) (command : Command) (lines arguments : List (List ℕ)) (verdict : Verdict) → NamesFormat format lines
    → unless_unnamed format (state_at format (InCapabilities command) lines arguments) verdict ≡ verdict
named-taken Sha1 command lines arguments verdict h = refl
named-taken Sha256 command lines arguments verdict h = unless-named (length (formats lines) == 0) _ verdict (ne_eqb (length (formats lines)) 0 (λ e. omega (arith, h, e)))

-- ---- the flush as the only end of a request

pub ends-flush : (limits : Limits) (format : Format) (state : State) (packet : Packet) → judge_at limits format state packet ≡ Whole → packet ≡ Flush
unfolding judge_at
ends-flush limits format state (Data payload) e = absurd (never_whole _ (of_text limits format state.place state (text payload)) (whole_unless (peer_error payload) _ e))
ends-flush limits format state Flush e = refl
ends-flush limits format state Delim e = absurd (never_whole _ (of_delim format state.place state) e)
ends-flush limits format state ResponseEnd e = cc
