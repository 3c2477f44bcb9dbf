-- The packets of a request that remain to be written.
use Rattle.std.proofs.Common.{◌≡◌, ℕ, ◌+◌, ◌<◌, ◌≤◌, Bool, false, List, [], ◌∷◌, ◌++◌, length, map, drop, get_or, codes, Option, Some, None, sym, ap, ◌∙◌, suc, add-one, append_assoc}
use Rattle.std.proofs.Math.Seq.{drop-cons}
use Rattle.gpkt.specs.Packets.{Packet, Delim, Flush}
use Rattle.gname.specs.declared.formats.Format.{Format}
use Rattle.ggrammar.specs.Capabilities.{max_capability}
use Rattle.std.specs.Borrow.{Bor}
use Rattle.grequest.specs.declared.command.Command.{Command}
use Rattle.grequest.specs.Flags.{Table, FlagsOf, flag_at, flags_at}
use Rattle.grequest.specs.steps.Flags.{table_in}
use Rattle.grequest.specs.RequestWriting.{command_packet, command_packets, agent_packets, format_packets, flag_packets, flags_packets, prefix_packet, id_packet, ls_argument_packets, fetch_argument_packets}
use Rattle.grequest.specs.declared.flag.FetchFlag.TheVariants.{Done}
use Rattle.grequest.specs.Arguments.{ls_flags, fetch_flags}
use Rattle.grequest.specs.Asked.{LsRefsAsked, FetchAsked, fetch_has, fetch_with}
use Rattle.grequest.specs.WellFormed.{IsAgent}
use Rattle.grequest.proofs.WrittenArguments.{word_value_is_short}

-- ---- the next packet to write

drop_next : {X : Type 0} (values : List X) (at : ℕ) (value : X) → at < length values → value ≡ get_or values at value
    → drop at values ≡ value ∷ drop (at + 1) values
drop_next values at value inside is =
    rw add-one (drop-cons values at value inside ∙ ap (λ x. x ∷ drop (suc at) values) (sym is))

module _ {X : Type 0} (line : X → Packet) where
  pub coming_next : (values : List X) (at : ℕ) (value : X) → at < length values → value ≡ get_or values at value
      → map line (drop at values) ≡ line value ∷ map line (drop (at + 1) values)
  coming_next values at value inside is = ap (map line) (drop_next values at value inside is)

  pub list_first : (values lent : List X) (rest : List Packet) → lent ≡ values → map line values ++ rest ≡ map line lent ++ rest
  list_first values lent rest is = ap (λ xs. map line xs ++ rest) (sym is)

-- the packets of the flags in the rows from `at` on: the packet of the first of these rows, then the others
pub flags_next : {F : Type 0} (number : F → ℕ) (kept : List Bool) (rows : List (F × Bor (List ℕ))) (at : ℕ) (row : F × Bor (List ℕ)) (word : List ℕ) (is_set : Bool)
    → at < length rows → row ≡ get_or rows at row → word ≡ row.1.now → is_set ≡ flag_at number kept row.0
    → flags_packets (table_in (drop at rows)) (flags_at number (table_in (drop at rows)) kept)
    ≡ flag_packets word is_set ++ flags_packets (table_in (drop (at + 1) rows)) (flags_at number (table_in (drop (at + 1) rows)) kept)
flags_next number kept rows at row word is_set inside is same set =
    let rest : List Packet = flags_packets (table_in (drop (at + 1) rows)) (flags_at number (table_in (drop (at + 1) rows)) kept) in
    ap (λ xs. flags_packets (table_in xs) (flags_at number (table_in xs) kept)) (drop_next rows at row inside is)
    ∙ sym (λ i. flag_packets (same i) (set i) ++ rest)

pub flag_first : (word : List ℕ) (is_set lent : Bool) (rest : List Packet) → lent ≡ is_set → flag_packets word is_set ++ rest ≡ flag_packets word lent ++ rest
flag_first word is_set lent rest is = ap (λ (b : Bool). flag_packets word b ++ rest) (sym is)

-- ---- the arguments in sequence

pub ls_arguments_first : (asked : LsRefsAsked) → ls_argument_packets asked ++ Flush ∷ []
    ≡ flags_packets ls_flags asked.flags ++ (map prefix_packet asked.prefixes ++ Flush ∷ [])
ls_arguments_first asked = append_assoc (flags_packets ls_flags asked.flags) (map prefix_packet asked.prefixes) (Flush ∷ [])

four : (a b c d e : List Packet) → (((a ++ b) ++ c) ++ d) ++ e ≡ a ++ (b ++ (c ++ (d ++ e)))
four a b c d e = simp append_assoc

pub fetch_arguments_first : (asked : FetchAsked) → fetch_argument_packets asked ++ Flush ∷ []
    ≡ flags_packets fetch_flags (fetch_with asked Done false).flags
    ++ (map (id_packet (codes "want ")) asked.wants ++ (map (id_packet (codes "have ")) asked.haves ++ (flag_packets (codes "done") (fetch_has asked Done) ++ Flush ∷ [])))
fetch_arguments_first asked =
    four (flags_packets fetch_flags (fetch_with asked Done false).flags) (map (id_packet (codes "want ")) asked.wants) (map (id_packet (codes "have ")) asked.haves)
    (flag_packets (codes "done") (fetch_has asked Done)) (Flush ∷ [])

pub flags_first : {F : Type 0} (table : Table F) (flags lent : FlagsOf table) (rest : List Packet) → lent ≡ flags → flags_packets table flags ++ rest ≡ flags_packets table lent ++ rest
flags_first table flags lent rest is = ap (λ (f : FlagsOf table). flags_packets table f ++ rest) (sym is)

-- ---- the packets before the arguments

pub head_first : (format : Format) (command : Command) (agent lent : Option (List ℕ)) (arguments rest : List Packet) → lent ≡ agent
    → arguments ++ Flush ∷ [] ≡ rest
    → command_packets format command agent arguments ≡ (command_packet command ∷ (agent_packets lent ++ format_packets format ++ Delim ∷ [])) ++ rest
head_first format command agent lent arguments rest is flat =
    ap (λ (a : Option (List ℕ)). command_packets format command a arguments) (sym is)
    ∙ ap (λ (xs : List Packet). command_packet command ∷ xs)
    (ap (λ (xs : List Packet). (agent_packets lent ++ format_packets format) ++ Delim ∷ xs) flat
    ∙ sym (append_assoc (agent_packets lent ++ format_packets format) (Delim ∷ []) rest))

-- an agent has at most `max_capability` bytes
pub agent_is_short : (agent : Option (List ℕ)) (value : List ℕ) → IsAgent agent → agent ≡ Some value → length value ≤ max_capability
agent_is_short None value word is = cc
agent_is_short (Some other) value word is = rw (let same : value ≡ other = cc in same) (word_value_is_short other word)
