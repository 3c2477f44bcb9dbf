-- The table of faults: the number, the name and the text of each fault.
use Rattle.std.specs.Prelude.{ℕ, List, codes}
use Rattle.gname.specs.Faults.{FaultRow, missing_parent}
use Rattle.gdag.specs.Faults.{graph_fault_row, graph_fault_text}
use Rattle.grefs.specs.Faults.{refs_fault_row, refs_fault_text}
use Rattle.gclientrepo.specs.declared.fault.RepoFault.{RepoFault}
use Rattle.gclientrepo.specs.declared.fault.RepoFault.TheVariants.{UnconnectedRef, UnconnectedId, NotConnected, MissingParent}
use Rattle.gclientrepo.specs.declared.fault.RepoFault.TheVariants.{Graph, Refs}

-- the number and the name of each fault of a repository; a fault of the graph or of the refs keeps the number and the
-- name of its own table
abbrev pub repo_fault_row : {A : Type 0} → RepoFault A → FaultRow
repo_fault_row (MissingParent id) = missing_parent
repo_fault_row (UnconnectedRef name) = (80, codes "UnsafeRef")
repo_fault_row (UnconnectedId missing) = (81, codes "NotHeld")
repo_fault_row (NotConnected missing) = (85, codes "NotConnected")
repo_fault_row (Graph fault) = graph_fault_row fault
repo_fault_row (Refs fault) = refs_fault_row fault

-- ---- the texts of the faults
abbrev pub repo_fault_text : {A : Type 0} → RepoFault A → List ℕ
repo_fault_text (MissingParent id) = codes "a parent is not held"
repo_fault_text (UnconnectedRef name) = codes "the ancestry of a ref is not held"
repo_fault_text (UnconnectedId missing) = codes "the ancestry of an id is not held"
repo_fault_text (NotConnected missing) = codes "the ancestries of the asked ids are not held"
repo_fault_text (Graph fault) = graph_fault_text fault
repo_fault_text (Refs fault) = refs_fault_text fault
