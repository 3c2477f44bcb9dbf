-- The table of faults of the programs, with the printed parts of each fault.
use Rattle.std.specs.Prelude.{ℕ, codes, Option, Some, None}
use Rattle.gname.specs.Faults.{FaultRow, name_fault_row, name_fault_text, out_of_memory, out_of_memory_text}
use Rattle.gname.specs.declared.faults.NameFault.{NameFault}
use Rattle.gname.specs.declared.faults.NameFault.TheVariants as name
use Rattle.gname.specs.Names.{Name, head_name}
use Rattle.gname.specs.Ids.{Id}
use Rattle.gpkt.specs.Faults.{packet_fault_row, packet_fault_text, write_fault_row}
use Rattle.gpkt.specs.declared.fault.WriteFault.TheVariants.{Io}
use Rattle.gpkt.specs.Packets.{Bytes}
use Rattle.ggrammar.specs.Faults.{WhyRow}
use Rattle.ggrammar.specs.declared.fault.Why.{Why}
use Rattle.ggrammar.specs.declared.fault.Why.TheVariants as why
use Rattle.gdag.specs.declared.fault.GraphFault.{GraphFault}
use Rattle.gdag.specs.declared.fault.GraphFault.TheVariants as graph
use Rattle.ggraph.specs.Faults.{load_fault_row, load_fault_text}
use Rattle.ggraph.specs.declared.fault.LoadFault.{LoadFault}
use Rattle.ggraph.specs.declared.fault.LoadFault.TheVariants as load
use Rattle.ganswer.specs.Faults.{build_fault_row, build_fault_text, serve_fault_row, serve_fault_text}
use Rattle.ganswer.specs.declared.fault.BuildFault.{BuildFault}
use Rattle.ganswer.specs.declared.fault.BuildFault.TheVariants as build
use Rattle.ganswer.specs.declared.fault.ServeFault.{ServeFault}
use Rattle.ganswer.specs.declared.fault.ServeFault.TheVariants as serve
use Rattle.gobject.specs.declared.fault.IndexFault.TheVariants as index
use Rattle.grefs.specs.RefspecFaults.{spec_fault_row, spec_fault_text}
use Rattle.gclientrepo.specs.declared.fault.RepoFault.{RepoFault}
use Rattle.gclientrepo.specs.declared.fault.RepoFault.TheVariants as repo
use Rattle.gsession.specs.Faults.{client_fault_row}
use Rattle.gsession.specs.declared.fault.ClientFault.{ClientFault}
use Rattle.gsession.specs.declared.fault.ClientFault.TheVariants as client
use Rattle.gfetch.specs.Faults.{fetch_fault_row, fetch_fault_text}
use Rattle.gfetch.specs.declared.fault.FetchFault.{FetchFault}
use Rattle.gfetch.specs.declared.fault.FetchFault.TheVariants as fetch
use Rattle.gcmd.specs.declared.fault.ProgramFault.{ProgramFault}
use Rattle.gcmd.specs.declared.fault.ProgramFault.TheVariants as program

-- the printed parts of a fault: its number and name, and, if the fault has them, the position of a packet in its
-- message, the line of a text, the index of a byte in a name, an id, and a ref name or an error text
pub record Printed : Type 0 where
  pub number : ℕ
  pub name : Bytes
  pub frame : Option ℕ
  pub line : Option ℕ
  pub at : Option ℕ
  pub id : Option Id
  pub text : Option Bytes

-- a fault with only a number and a name
abbrev pub plain : FaultRow → Printed
plain row = record { number = row.0; name = row.1; frame = None; line = None; at = None; id = None; text = None }

-- ---- names

-- the index of the first byte that makes a name invalid
abbrev pub place_in_name : NameFault → Option ℕ
place_in_name (name.BadByte at) = Some at
place_in_name (name.Component at) = Some at
place_in_name (name.DoubleDot at) = Some at
place_in_name (name.AtBrace at) = Some at
place_in_name _ = None

abbrev pub printed_of_name : NameFault → Printed
printed_of_name fault = record (plain (name_fault_row fault)) { at = place_in_name fault }

-- ---- repository texts

-- the number of the line that makes a repository's text invalid
abbrev pub line_in_text : LoadFault → Option ℕ
line_in_text (load.Text line) = Some line
line_in_text (load.ParentLater line) = Some line
line_in_text load.Memory = None

abbrev pub printed_of_text : LoadFault → Printed
printed_of_text fault = record (plain (load_fault_row fault)) { line = line_in_text fault }

-- ---- repositories that are not served

-- the id that two different objects share, or the id that has another object format
abbrev pub id_in_graph : GraphFault → Option Id
id_in_graph (graph.Conflict id) = Some id
id_in_graph (graph.OtherFormat id) = Some id
id_in_graph _ = None

-- the id of the refused object or of the missing object
abbrev pub id_in_build : {A : Type 0} → BuildFault A → Option Id
id_in_build (build.Graph cause) = id_in_graph cause
id_in_build (build.NotClosed id) = Some id
id_in_build (build.MissingParent id) = Some id
id_in_build _ = None

-- the name of the ref whose object is missing
abbrev pub ref_in_build : {A : Type 0} → BuildFault A → Option Name
ref_in_build (build.RefMissing name) = Some name
ref_in_build build.HeadMissing = Some head_name
ref_in_build _ = None

abbrev pub printed_of_build : {A : Type 0} → BuildFault A → Printed
printed_of_build fault =
    record (plain (build_fault_row fault)) { id = id_in_build fault; text = ref_in_build fault }

-- ---- requests

-- the position of the packet at which a request was refused
abbrev pub frame_in_request : ServeFault → Option ℕ
frame_in_request (serve.Request fault) = Some fault.frame
frame_in_request _ = None

-- the id of the first missing want
abbrev pub id_in_request : ServeFault → Option Id
id_in_request (serve.NotOurs id) = Some id
id_in_request _ = None

-- the error text of a peer
abbrev pub said_in : Why → Option Bytes
said_in (why.RemoteErr said) = Some said
said_in (why.RemoteFatal said) = Some said
said_in _ = None

abbrev pub said_in_request : ServeFault → Option Bytes
said_in_request (serve.Request fault) = said_in fault.why
said_in_request _ = None

abbrev pub number_and_name : WhyRow → FaultRow
number_and_name row = (row.code, row.name)

abbrev pub printed_of_request : ServeFault → Printed
printed_of_request fault = record (plain (number_and_name (serve_fault_row fault))) {
  frame = frame_in_request fault;
  id = id_in_request fault;
  text = said_in_request fault;
}

-- ---- fetching

-- the position of the packet at which a message was refused
abbrev pub frame_in_client : {A : Type 0} → ClientFault A → Option ℕ
frame_in_client (client.Message fault) = Some fault.frame
frame_in_client _ = None

-- the number of the malformed line of a plain pack
abbrev pub line_in_client : {A : Type 0} → ClientFault A → Option ℕ
line_in_client (client.Index (index.Bad line)) = Some line
line_in_client _ = None

-- the id of a missing object, the id that two different objects share, or an id of another object format
abbrev pub id_in_repo : {A : Type 0} → RepoFault A → Option Id
id_in_repo (repo.MissingParent id) = Some id
id_in_repo (repo.UnconnectedId missing) = Some missing
id_in_repo (repo.NotConnected missing) = Some missing
id_in_repo (repo.Graph cause) = id_in_graph cause
id_in_repo _ = None

-- the id in the repository's fault, or the acknowledged id that is not a have of the request
abbrev pub id_in_client : {A : Type 0} → ClientFault A → Option Id
id_in_client (client.StrangeAck id) = Some id
id_in_client (client.Repo cause) = id_in_repo cause
id_in_client _ = None

-- the name of the ref that is not connected, or the error text of a peer
abbrev pub text_in_client : {A : Type 0} → ClientFault A → Option Bytes
text_in_client (client.Message fault) = said_in fault.why
text_in_client (client.Repo (repo.UnconnectedRef name)) = Some name
text_in_client _ = None

abbrev pub printed_of_client : {A : Type 0} → ClientFault A → Printed
printed_of_client fault = record (plain (client_fault_row fault)) {
  frame = frame_in_client fault;
  line = line_in_client fault;
  id = id_in_client fault;
  text = text_in_client fault;
}

abbrev pub printed_of_fetch : {A : Type 0} → FetchFault A → Printed
printed_of_fetch (fetch.Client fault) = printed_of_client fault
printed_of_fetch fault = plain (fetch_fault_row fault)

-- ---- the table

abbrev pub printed_of : {A : Type 0} → ProgramFault A → Printed
printed_of program.Memory = plain out_of_memory
printed_of program.File = plain (95, codes "File")
printed_of (program.Text fault) = printed_of_text fault
printed_of (program.Build fault) = printed_of_build fault
printed_of (program.Request fault) = printed_of_request fault
printed_of (program.Line fault) = plain (packet_fault_row fault)
printed_of (program.Spec fault) = plain (spec_fault_row fault)
printed_of (program.Fetch fault) = printed_of_fetch fault
printed_of program.WriteFailed = plain (write_fault_row Io)
printed_of (program.Name fault) = printed_of_name fault
printed_of program.PairLimit = plain (94, codes "PairLimit")
printed_of program.Socket = plain (96, codes "Socket")

-- ---- texts
abbrev pub program_fault_text : {A : Type 0} → ProgramFault A → Bytes
program_fault_text program.Memory = out_of_memory_text
program_fault_text program.File = codes "the file can't be read or written"
program_fault_text (program.Text fault) = load_fault_text fault
program_fault_text (program.Build fault) = build_fault_text fault
program_fault_text (program.Request fault) = serve_fault_text fault
program_fault_text (program.Line fault) = packet_fault_text fault
program_fault_text (program.Spec fault) = spec_fault_text fault
program_fault_text (program.Fetch fault) = fetch_fault_text fault
program_fault_text program.WriteFailed = codes "the output failed"
program_fault_text (program.Name fault) = name_fault_text fault
program_fault_text program.PairLimit = codes "a message is too long"
program_fault_text program.Socket = codes "a socket failed"
