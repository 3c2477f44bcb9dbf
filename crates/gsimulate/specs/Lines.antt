-- The lines of a simulation: the outcome of each event, and then the client's refs.
use Rattle.std.specs.Prelude.{ℕ, List, ◌++◌, codes}
use Rattle.std.specs.Fmt.{decimal}
use Rattle.std.specs.List.{flat_map}
use Rattle.gname.specs.Ids.{Id, id_text}
use Rattle.gname.specs.Names.{Name}
use Rattle.gpkt.specs.Packets.{Bytes}
use Rattle.grefs.specs.RefLists.{RefList}
use Rattle.gworld.specs.declared.outcome.Outcome.{Outcome}
use Rattle.gworld.specs.declared.outcome.Outcome.TheVariants as outcomes

-- the text of a word followed by a decimal number
abbrev pub count_text : Bytes → ℕ → Bytes
count_text word number = word ++ decimal number

-- the printed text for the outcome of an event
abbrev pub outcome_text : Outcome → Bytes
outcome_text outcomes.Done = codes "done"
outcome_text (outcomes.Asked request) = count_text (codes "asked ") request
outcome_text (outcomes.Served reply) = count_text (codes "served ") reply
outcome_text (outcomes.StrangerServed written) = count_text (codes "stranger ") written
outcome_text (outcomes.LsTaken asks wants) = count_text (codes "ls asks=") asks ++ count_text (codes " wants=") wants
outcome_text (outcomes.Round common) = count_text (codes "round common=") common
outcome_text (outcomes.PackTaken added) = count_text (codes "pack added=") added
outcome_text (outcomes.Settled moved same not_forward) =
    count_text (codes "settled moved=") moved
    ++ (count_text (codes " same=") same ++ count_text (codes " notforward=") not_forward)
outcome_text (outcomes.Fault number) = count_text (codes "fault ") number

abbrev pub outcome_line : Outcome → Bytes
outcome_line outcome = outcome_text outcome ++ codes "\n"

-- the line for a ref
abbrev pub ref_line : Name × Id → Bytes
ref_line ref = codes "ref " ++ (id_text ref.1 ++ (codes " " ++ (ref.0 ++ codes "\n")))

-- the lines for all outcomes, followed by the lines for all refs
abbrev pub simulated_text : List Outcome → RefList → Bytes
simulated_text outcomes refs = flat_map outcome_line outcomes ++ flat_map ref_line refs
