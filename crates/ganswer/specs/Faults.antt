-- The tables of faults: the number, the name and the text of each fault. A fault of answering a request also has a text
-- that is sent to the client.
use Rattle.std.specs.Prelude.{Bool, true, false, codes}
use Rattle.gname.specs.Faults.{FaultRow, missing_parent, out_of_memory, out_of_memory_text}
use Rattle.gpkt.specs.Faults.{packet_fault_row, packet_fault_text}
use Rattle.gpkt.specs.Packets.{Bytes}
use Rattle.gpkt.specs.declared.fault.PacketFault.TheVariants as line
use Rattle.grefs.specs.Faults.{refs_fault_row, refs_fault_text}
use Rattle.gobject.specs.Faults.{pack_fault_row, pack_fault_text}
use Rattle.gobject.specs.declared.fault.PackFault.TheVariants as pack
use Rattle.gdag.specs.Faults.{graph_fault_row, graph_fault_text}
use Rattle.ggrammar.specs.Faults.{WhyRow, line_phrase, message_fault_text, row_of, why_row}
use Rattle.ggrammar.specs.declared.fault.Why.{Why}
use Rattle.ggrammar.specs.declared.fault.Why.TheVariants as why
use Rattle.ganswer.specs.declared.fault.BuildFault.{BuildFault}
use Rattle.ganswer.specs.declared.fault.ServeFault.{ServeFault}
use Rattle.ganswer.specs.declared.fault.BuildFault.TheVariants as build
use Rattle.ganswer.specs.declared.fault.ServeFault.TheVariants as serve

-- the number and the name of the fault for a ref or a detached HEAD that points at a missing object
abbrev pub ref_missing : FaultRow
ref_missing = (71, codes "RefMissing")

-- the number and name of a fault of creating or changing a server
abbrev pub build_fault_row : {A : Type 0} → BuildFault A → FaultRow
build_fault_row (build.Graph fault) = graph_fault_row fault
build_fault_row (build.Refs fault) = refs_fault_row fault
build_fault_row (build.NotClosed id) = (70, codes "NotClosed")
build_fault_row (build.RefMissing name) = ref_missing
build_fault_row build.HeadMissing = ref_missing
build_fault_row (build.MissingParent id) = missing_parent
build_fault_row build.Memory = out_of_memory

-- the number and the name of a fault of answering a request, and its text for the client
abbrev pub serve_fault_row : ServeFault → WhyRow
serve_fault_row (serve.Reader fault) = row_of (packet_fault_row fault) (line_phrase fault)
serve_fault_row (serve.Request fault) = why_row fault.why
serve_fault_row serve.NoWants = row_of (73, codes "NoWants") (codes "no wants")
serve_fault_row (serve.NotOurs id) = row_of (74, codes "NotOurs") (codes "not our ref")
serve_fault_row (serve.Pack fault) = row_of (pack_fault_row fault) (codes "pack failed")
serve_fault_row serve.Memory = row_of out_of_memory out_of_memory_text

-- ---- out of memory

-- memory ran out while the request was read
abbrev pub why_lacks_memory : Why → Bool
why_lacks_memory (why.Line line.Memory) = true
why_lacks_memory why.Memory = true
why_lacks_memory _ = false

-- memory ran out for the packet reader, a request, a pack, or an answer
abbrev pub lacks_memory : ServeFault → Bool
lacks_memory (serve.Reader line.Memory) = true
lacks_memory (serve.Reader _) = false
lacks_memory (serve.Request fault) = why_lacks_memory fault.why
lacks_memory serve.NoWants = false
lacks_memory (serve.NotOurs id) = false
lacks_memory (serve.Pack pack.Memory) = true
lacks_memory (serve.Pack _) = false
lacks_memory serve.Memory = true

-- ---- the texts of faults
abbrev pub build_fault_text : {A : Type 0} → BuildFault A → Bytes
build_fault_text (build.Graph fault) = graph_fault_text fault
build_fault_text (build.Refs fault) = refs_fault_text fault
build_fault_text (build.NotClosed id) = codes "a parent is missing"
build_fault_text (build.RefMissing name) = codes "a ref stands at a missing object"
build_fault_text build.HeadMissing = codes "HEAD stands at a missing object"
build_fault_text (build.MissingParent id) = codes "a parent of the new object is missing"
build_fault_text build.Memory = out_of_memory_text

abbrev pub serve_fault_text : ServeFault → Bytes
serve_fault_text (serve.Reader fault) = packet_fault_text fault
serve_fault_text (serve.Request fault) = message_fault_text fault
serve_fault_text serve.NoWants = codes "nothing is wanted"
serve_fault_text (serve.NotOurs id) = codes "a wanted object is missing"
serve_fault_text (serve.Pack fault) = pack_fault_text fault
serve_fault_text serve.Memory = out_of_memory_text
