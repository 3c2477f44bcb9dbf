-- The table of faults: the number, the name and the text of each fault.
use Rattle.std.specs.Prelude.{codes}
use Rattle.gname.specs.Faults.{FaultRow}
use Rattle.gpkt.specs.Packets.{Bytes}
use Rattle.ggrammar.specs.Faults.{message_fault_text, why_row}
use Rattle.gobject.specs.Faults.{index_fault_row, index_fault_text}
use Rattle.gclientrepo.specs.Faults.{repo_fault_row, repo_fault_text}
use Rattle.gsession.specs.declared.fault.ClientFault.{ClientFault}
use Rattle.gsession.specs.declared.fault.ClientFault.TheVariants.{Index, Message, NoOpenRequest, Repo, StrangeAck}
use Rattle.gsession.specs.declared.fault.ClientFault.TheVariants.{TooManySpecs, TooManyWants}

-- the number and the name of each fault of a session; a fault of a message, an indexer or a repository keeps the number
-- and the name of its own table
abbrev pub client_fault_row : {A : Type 0} → ClientFault A → FaultRow
client_fault_row (Message fault) = ((why_row fault.why).code, (why_row fault.why).name)
client_fault_row (Index fault) = index_fault_row fault
client_fault_row TooManySpecs = (82, codes "TooManySpecs")
client_fault_row NoOpenRequest = (83, codes "NoOpenRequest")
client_fault_row (StrangeAck id) = (84, codes "StrangeAck")
client_fault_row TooManyWants = (86, codes "TooManyWants")
client_fault_row (Repo fault) = repo_fault_row fault

-- ---- the texts of the faults
abbrev pub client_fault_text : {A : Type 0} → ClientFault A → Bytes
client_fault_text (Message fault) = message_fault_text fault
client_fault_text (Index fault) = index_fault_text fault
client_fault_text TooManySpecs = codes "too many refspecs"
client_fault_text NoOpenRequest = codes "no such request is open"
client_fault_text (StrangeAck id) = codes "an id was acknowledged that was not offered"
client_fault_text TooManyWants = codes "too many wants"
client_fault_text (Repo fault) = repo_fault_text fault
