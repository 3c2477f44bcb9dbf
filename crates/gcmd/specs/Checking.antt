-- `check`: the report on the repository that a file describes.
use Rattle.std.specs.Prelude.{◌≡◌, ◌↔◌, ◌++◌, Bool, IsTrue, if◌then◌else◌, length, codes, Ok, Err}
use Rattle.std.specs.Fmt.{decimal}
use Rattle.gpkt.specs.Packets.{Bytes}
use Rattle.gdag.specs.Reach.{IsClosed}
use Rattle.ggraph.specs.ConnectedRefs.{HasConnectedRefs}
use Rattle.ggraph.specs.Loading.{StopsAt}
use Rattle.ggraph.specs.RepositoryText.{repository_text, IsLoadable}
use Rattle.ggraph.specs.declared.text.Order.TheVariants.{Any}
use Rattle.ggraph.specs.declared.text.Repository.{Repository}
use Rattle.gpkt.specs.Sending.{Output, IsUnwritten, Sends}
use Rattle.gcmd.specs.Outputs.{BreaksOff}
use Rattle.gcmd.specs.Programs.{ProgramOutcome}
use Rattle.gcmd.specs.declared.check.Report.{Report}
use Rattle.gcmd.specs.declared.fault.ProgramFault.TheVariants as program

-- the report states the numbers of the repository's nodes and refs, and the results of both checks: whether the graph
-- is closed, and whether the repository is connected
pub record IsReport {A : Type 0} (repo : Repository A) (report : Report) : Type 0 where
  pub nodes : report.nodes ≡ length repo.graph.entries
  pub refs : report.refs ≡ length repo.refs
  pub closed : IsTrue report.closed ↔ IsClosed repo.graph.entries
  pub connected_refs : IsTrue report.connected_refs ↔ HasConnectedRefs repo.graph.entries repo.refs

abbrev pub yes_or_no : Bool → Bytes
yes_or_no holds = if holds then codes "yes" else codes "no"

-- the printed line for a report
abbrev pub report_line : Report → Bytes
report_line report =
    codes "nodes " ++ decimal report.nodes ++ codes " refs " ++ decimal report.refs
    ++ codes " closed " ++ yes_or_no report.closed ++ codes " safe " ++ yes_or_no report.connected_refs ++ codes "\n"

-- the file is the text of a repository
pub record IsRepository (A : Type 0) (file : Bytes) : Type 0 where
  pub repo : Repository A
  pub names : file ≡ repository_text repo.graph repo.refs repo.head
  pub loadable : IsLoadable Any repo.graph repo.refs repo.head

-- the repository that the file describes has this report
pub record IsReported (A : Type 0) (file : Bytes) (report : Report) : Type 0 where
  pub repo : Repository A
  pub names : file ≡ repository_text repo.graph repo.refs repo.head
  pub loadable : IsLoadable Any repo.graph repo.refs repo.head
  pub reports : IsReport repo report

-- The effect of `check`: the line is written and flushed. If the sink fails, a prefix of the line is written. Nothing
-- is written if the file is not the text of a repository, or if memory for the checks runs out.
abbrev pub Checks : {A : Type 0} → Bytes → Output → ProgramOutcome A → Type 0
Checks {A} file output (Ok done) = (report : Report) × IsReported A file report × Sends output (report_line report)
Checks {A} file output (Err program.WriteFailed) =
    (report : Report) × IsReported A file report × BreaksOff output (report_line report)
Checks {A} file output (Err (program.Text fault)) = StopsAt A Any file fault × IsUnwritten output
Checks {A} file output (Err program.Memory) = IsRepository A file × IsUnwritten output
Checks file output (Err _) = ⊥
