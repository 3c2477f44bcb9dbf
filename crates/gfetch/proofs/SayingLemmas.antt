-- Queuing the parts of a request.
use Rattle.std.proofs.Common.{◌≡◌, ◌<◌, ◌≤◌, ◌+◌, ◌∙◌, ℕ, List, [], ◌∷◌, ◌++◌, length, drop, map, IfSome, codes, Option, Some, None, refl, sym, ap, ap₂, subst, arith, append-nil, append_assoc, length-append, length-drop, add-one, drop-cons, get_or}
use Rattle.std.proofs.lemmas.List.{nil_from_length}
use Rattle.gname.specs.declared.formats.Format.{Format}
use Rattle.gpkt.specs.Packets.{Bytes, Packet, Data, Delim, Flush, canonical, canonical_all, digits_of, line_feed}
use Rattle.gpkt.proofs.Readings.{number_of-digits_of, number_of-four}
use Rattle.ggrammar.specs.Capabilities.{max_capability}
use Rattle.ggrammar.specs.Texts.{text_packet}
use Rattle.grequest.specs.Asked.{Asked, Empty, Ls, Fetches, FetchAsked, LsRefsAsked}
use Rattle.grequest.specs.RequestWriting.{agent_packets, canonical_request, format_packets, id_packet, prefix_packet}
use Rattle.grequest.specs.WellFormed.{IsAgent}
use Rattle.grequest.proofs.WrittenArguments.{word_value_is_short}
use Rattle.gfetch.specs.Saying.{SaysPart, done_of, firsts_from, flags_of, haves_from, rest_of}
use Rattle.gfetch.specs.declared.asking.NextPart.TheVariants as part

-- one packet in an empty queue
pub one_said : (packet : Packet) (before out : Bytes) → before ≡ [] → out ≡ before ++ canonical packet → out ≡ canonical_all (packet ∷ [])
one_said packet before out empty is = is ∙ ap (λ (l : Bytes). l ++ canonical packet) empty ∙ sym (append-nil (canonical packet))

canonical_joins : (lines more : List Packet) → canonical_all (lines ++ more) ≡ canonical_all lines ++ canonical_all more
canonical_joins [] more = refl
canonical_joins (line ∷ lines) more =
    ap (λ (l : Bytes). canonical line ++ l) (canonical_joins lines more) ∙ sym (append_assoc (canonical line) (canonical_all lines) (canonical_all more))

-- packets that are queued one list after the other
pub more_said : (front more : List Packet) (before out : Bytes) → before ≡ canonical_all front → out ≡ before ++ canonical_all more
    → out ≡ canonical_all (front ++ more)
more_said front more before out so_far is = is ∙ ap (λ (l : Bytes). l ++ canonical_all more) so_far ∙ sym (canonical_joins front more)

-- the packets of the two commands
abbrev pub ls_command : Packet
ls_command = text_packet (codes "command=ls-refs")

abbrev pub fetch_command : Packet
fetch_command = text_packet (codes "command=fetch")

-- lists that are appended one after the other
to_right : (a b c d e : List Packet) → (((a ++ b) ++ c) ++ d) ++ e ≡ a ++ (b ++ (c ++ (d ++ e)))
to_right a b c d e = simp append_assoc

ls_parts : (format : Format) (asked : LsRefsAsked) → canonical_request format (Ls asked) ≡ ls_command ∷ rest_of format (Ls asked) part.Agent
unfolding canonical_request
ls_parts format asked =
    let agent = agent_packets asked.agent in
    let named = format_packets format in
    let flags = flags_of (Ls asked) in
    let prefixes = map prefix_packet asked.prefixes in
    ap (λ (l : List Packet). ls_command ∷ l)
    (append_assoc agent named (Delim ∷ ((flags ++ prefixes) ++ Flush ∷ []))
    ∙ ap (λ (l : List Packet). agent ++ (named ++ Delim ∷ l)) (append_assoc flags prefixes (Flush ∷ [])))

fetch_parts : (format : Format) (asked : FetchAsked) → canonical_request format (Fetches asked) ≡ fetch_command ∷ rest_of format (Fetches asked) part.Agent
unfolding canonical_request
fetch_parts format asked =
    let agent = agent_packets asked.agent in
    let named = format_packets format in
    let flags = flags_of (Fetches asked) in
    let wants = map (id_packet (codes "want ")) asked.wants in
    let haves = map (id_packet (codes "have ")) asked.haves in
    let done = done_of (Fetches asked) in
    ap (λ (l : List Packet). fetch_command ∷ l)
    (append_assoc agent named (Delim ∷ ((((flags ++ wants) ++ haves) ++ done) ++ Flush ∷ []))
    ∙ ap (λ (l : List Packet). agent ++ (named ++ Delim ∷ l)) (to_right flags wants haves done (Flush ∷ [])))

pub ls_command_said : (format : Format) (asked : LsRefsAsked) (out : Bytes) → out ≡ canonical_all (ls_command ∷ [])
    → SaysPart format (Ls asked) part.Command out (Some part.Agent)
ls_command_said format asked out is = (ls_command ∷ [], is, ls_parts format asked, omega arith)

pub fetch_command_said : (format : Format) (asked : FetchAsked) (out : Bytes) → out ≡ canonical_all (fetch_command ∷ [])
    → SaysPart format (Fetches asked) part.Command out (Some part.Agent)
fetch_command_said format asked out is = (fetch_command ∷ [], is, fetch_parts format asked, omega arith)

empty_parts : (format : Format) → canonical_request format Empty ≡ Flush ∷ []
unfolding canonical_request
empty_parts format = refl

pub empty_said : (format : Format) (out : Bytes) → out ≡ canonical_all (Flush ∷ []) → SaysPart format Empty part.Command out None
empty_said format out is = (Flush ∷ [], is, empty_parts format)

-- an agent string is short
pub agent_is_short : (agent : Option Bytes) → IsAgent agent → IfSome agent (λ value. length value ≤ max_capability)
agent_is_short None is = tt
agent_is_short (Some value) is = word_value_is_short value is

-- ---- flags

-- the packet of a flag is short
pub flag_is_short : (word before out : Bytes) → length word ≤ 16 → out ≡ before ++ canonical (Data (word ++ [] ++ line_feed ∷ []))
    → length out ≤ length before + 32
flag_is_short word before out short is =
    let none : Bytes = [] in
    let text = (word ++ none) ++ line_feed ∷ [] in
    let count : length text ≡ length word + 1 = omega (arith, length-append (word ++ none) (line_feed ∷ []), length-append word none) in
    let size = length text + 4 in
    let digits = digits_of size in
    let four : length digits ≡ 4 = number_of-four digits size (number_of-digits_of size (omega (arith, count, short))) in
    omega (arith, short, count, four, ap (λ (l : Bytes). length l) is, length-append before (digits ++ text), length-append digits text)

-- four lists of packets that are queued one after the other
pub four_said : (a b c d : List Packet) (none one two three four : Bytes) → none ≡ [] → one ≡ none ++ canonical_all a → two ≡ one ++ canonical_all b
    → three ≡ two ++ canonical_all c → four ≡ three ++ canonical_all d → four ≡ canonical_all (a ++ (b ++ (c ++ (d ++ []))))
four_said a b c d none one two three four empty first second third fourth =
    let so_far = more_said a b one two (more_said [] a none one empty first) second in
    let all = more_said ((a ++ b) ++ c) d three four (more_said (a ++ b) c two three so_far third) fourth in
    let regroup : ((a ++ b) ++ c) ++ d ≡ a ++ (b ++ (c ++ (d ++ []))) = simp (append_assoc, append-nil) in
    all ∙ ap canonical_all regroup

-- ---- items

-- the items from a position are the item there, followed by the later items
pub items_from : {X : Type 0} (items lent : List X) (at : ℕ) (item : X) → lent ≡ items → at < length lent → item ≡ get_or lent at item
    → drop at items ≡ item ∷ drop (at + 1) items
items_from {X = X} items lent at item same less is =
    subst (λ (l : List X). drop at l ≡ item ∷ drop (at + 1) l) same
    (drop-cons lent at item less ∙ ap₂ (λ x l. x ∷ l) (sym is) (ap (λ (n : ℕ). drop n lent) (sym (add-one at))))

pub no_items_from : {X : Type 0} (items lent : List X) (at : ℕ) → lent ≡ items → length lent ≤ at → drop at items ≡ []
no_items_from {X = X} items lent at same past =
    subst (λ (l : List X). drop at l ≡ []) same (nil_from_length (drop at lent) (omega (arith, length-drop at lent, past)))

pub prefix_said : (format : Format) (asked : LsRefsAsked) (at : ℕ) (prefix : Bytes) (out : Bytes) → at < length asked.prefixes
    → drop at asked.prefixes ≡ prefix ∷ drop (at + 1) asked.prefixes → out ≡ canonical_all (prefix_packet prefix ∷ [])
    → SaysPart format (Ls asked) (part.First at) out (Some (part.First (at + 1)))
prefix_said format asked at prefix out less parts is = (
  prefix_packet prefix ∷ [],
  is,
  ap (λ (l : List Bytes). map prefix_packet l ++ Flush ∷ []) parts,
  omega (arith, less),
)

pub want_said : (format : Format) (asked : FetchAsked) (at : ℕ) (id : List ℕ) (out : Bytes) → at < length asked.wants
    → drop at asked.wants ≡ id ∷ drop (at + 1) asked.wants → out ≡ canonical_all (id_packet (codes "want ") id ∷ [])
    → SaysPart format (Fetches asked) (part.First at) out (Some (part.First (at + 1)))
want_said format asked at id out less parts is = (
  id_packet (codes "want ") id ∷ [],
  is,
  ap (λ (l : List (List ℕ)). map (id_packet (codes "want ")) l ++ (haves_from (Fetches asked) 0 ++ (done_of (Fetches asked) ++ Flush ∷ []))) parts,
  omega (arith, less),
)

pub have_said : (format : Format) (asked : FetchAsked) (at : ℕ) (id : List ℕ) (out : Bytes) → at < length asked.haves
    → drop at asked.haves ≡ id ∷ drop (at + 1) asked.haves → out ≡ canonical_all (id_packet (codes "have ") id ∷ [])
    → SaysPart format (Fetches asked) (part.Have at) out (Some (part.Have (at + 1)))
have_said format asked at id out less parts is = (
  id_packet (codes "have ") id ∷ [],
  is,
  ap (λ (l : List (List ℕ)). map (id_packet (codes "have ")) l ++ (done_of (Fetches asked) ++ Flush ∷ [])) parts,
  omega (arith, less),
)

-- no prefix, want or have is left
pub firsts_over : (format : Format) (asked : Asked) (at : ℕ) (out : Bytes) → out ≡ [] → firsts_from asked at ≡ []
    → SaysPart format asked (part.First at) out (Some (part.Have 0))
firsts_over format asked at out empty over = (
  [],
  empty,
  ap (λ (l : List Packet). l ++ (haves_from asked 0 ++ (done_of asked ++ Flush ∷ []))) over,
  omega arith,
)

pub haves_over : (format : Format) (asked : Asked) (at : ℕ) (out : Bytes) → out ≡ [] → haves_from asked at ≡ []
    → SaysPart format asked (part.Have at) out (Some part.Done)
haves_over format asked at out empty over = (
  [],
  empty,
  ap (λ (l : List Packet). l ++ (done_of asked ++ Flush ∷ [])) over,
  omega arith,
)
