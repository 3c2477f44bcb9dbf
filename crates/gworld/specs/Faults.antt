-- The tables of the faults of worlds: the number, the name and the text of each fault.
use Rattle.std.specs.Prelude.{ℕ, codes}
use Rattle.gname.specs.Faults.{FaultRow}
use Rattle.gpkt.specs.Packets.{Bytes}
use Rattle.gscenario.specs.Faults.{scenario_fault_row, scenario_fault_text}
use Rattle.gscenario.specs.declared.fault.ScenarioFault.TheVariants as scenario
use Rattle.gworld.specs.declared.fault.RunFault.{RunFault}
use Rattle.gworld.specs.declared.fault.RunFault.TheVariants as run
use Rattle.gworld.specs.declared.fault.WorldFault.{WorldFault}
use Rattle.gworld.specs.declared.fault.WorldFault.TheVariants as world

-- ---- the numbers of faults that only worlds report

-- the server and the client would hold different objects under the same id
abbrev pub disagreement : ℕ
disagreement = 90

-- no sent request or kept reply has the index that the event gives
abbrev pub no_such : ℕ
no_such = 93

-- the event needs the client's session at a certain stage, but there is no session, or the session is at another stage
abbrev pub out_of_turn : ℕ
out_of_turn = 83

-- the client holds or would hold an object whose id its indexer does not keep
abbrev pub not_kept : ℕ
not_kept = 98

-- ---- the numbers of faults that may occur even without forged bytes

-- the client does not have enough memory to read a reply
abbrev pub no_memory_to_read : ℕ
no_memory_to_read = 53

-- the name of a local ref would be invalid
abbrev pub bad_name : ℕ
bad_name = 47

-- one request can't hold all wants
abbrev pub too_many_wants : ℕ
too_many_wants = 86

-- the pack has more bytes than the limit of the client
abbrev pub pack_over_limit : ℕ
pack_over_limit = 48

-- a graph has its maximum number of objects
abbrev pub no_room : ℕ
no_room = 61

-- the server or the client is out of memory
abbrev pub memory_refused : ℕ
memory_refused = 64

-- the packer fails to make a pack
abbrev pub packer_failed : ℕ
packer_failed = 65

-- the indexer fails to read the objects of a pack
abbrev pub indexer_failed : ℕ
indexer_failed = 66

-- there would be too many refs
abbrev pub too_many_refs : ℕ
too_many_refs = 69

-- ---- the faults

-- the number and the name of each reason why two repositories can't form a world
abbrev pub world_fault_row : WorldFault → FaultRow
world_fault_row world.TwoFormats = (97, codes "TwoFormats")
world_fault_row (world.Disagree id) = (disagreement, codes "Disagree")
world_fault_row (world.NotKept id) = (not_kept, codes "NotKept")

-- the number and the name of the fault of a run: out of memory
abbrev pub run_fault_row : {A : Type 0} → RunFault A → FaultRow
run_fault_row (run.Memory outcomes) = scenario_fault_row scenario.Memory

-- the texts of the faults
abbrev pub world_fault_text : WorldFault → Bytes
world_fault_text world.TwoFormats = codes "server and client have two object formats"
world_fault_text (world.Disagree id) = codes "server and client hold an id with two objects"
world_fault_text (world.NotKept id) = codes "the client holds an id that its indexer does not keep"

abbrev pub run_fault_text : {A : Type 0} → RunFault A → Bytes
run_fault_text (run.Memory outcomes) = scenario_fault_text scenario.Memory
