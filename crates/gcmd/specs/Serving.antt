-- `ls --stdio-server` and `upload`: the programs that serve the repository that a file describes (as
-- git-upload-pack(1)).
use Rattle.std.specs.Prelude.{◌≡◌, ℕ, ◌⊎◌, Result, Ok, Err}
use Rattle.gpkt.specs.Packets.{Bytes}
use Rattle.ggraph.specs.Loading.{StopsAt}
use Rattle.ggraph.specs.RepositoryText.{repository_text, IsLoadable}
use Rattle.ggraph.specs.declared.text.Order.TheVariants.{ParentsFirst}
use Rattle.ggrammar.specs.declared.ends.Ends.{Ends}
use Rattle.ggrammar.specs.declared.ends.Ends.TheVariants.{Plain}
use Rattle.gobject.specs.Packs.{MayPack, PackFails, Packs}
use Rattle.gobject.specs.PlainPackText.{pack_text, PackRefuses}
use Rattle.gpkt.specs.Sending.{Input, Output, IsUnread, IsUnwritten}
use Rattle.ganswer.specs.Servers.{Server, IsServer, IsUnserved}
use Rattle.ganswer.specs.declared.fault.BuildFault.{BuildFault}
use Rattle.ganswer.specs.declared.fault.BuildFault.TheVariants as build
use Rattle.gserver.specs.Conversations.{Serves}
use Rattle.gserver.specs.Exchanges.{ServesOne}
use Rattle.gserver.specs.declared.serving.End.{End}
use Rattle.gserver.specs.declared.serving.End.TheVariants as end
use Rattle.gserver.specs.declared.serving.ExchangeEnd.{ExchangeEnd}
use Rattle.gserver.specs.declared.serving.ExchangeEnd.TheVariants as exchange
use Rattle.gcmd.specs.Programs.{ProgramOutcome}
use Rattle.gcmd.specs.declared.fault.ProgramFault.{ProgramFault}
use Rattle.gcmd.specs.declared.fault.ProgramFault.TheVariants as program

-- ---- files

-- the file encodes this graph, these refs and this HEAD, and lists each parent before its children
pub record NamesParts {A : Type 0} (file : Bytes) (parts : Server A) : Type 0 where
  pub text : file ≡ repository_text parts.graph parts.refs parts.head
  pub loadable : IsLoadable ParentsFirst parts.graph parts.refs parts.head

-- the file is the text of a server's repository, and no object of the server is missing
pub record NamesServer {A : Type 0} (file : Bytes) (server : Server A) : Type 0 where
  pub names : NamesParts file server
  pub whole : IsServer server

-- the reasons, other than a missing parent, why a graph, refs and a HEAD do not form a server: the object of a ref or
-- of HEAD is missing, or memory runs out
abbrev pub MissesPart : {A : Type 0} → Server A → BuildFault A → Type 0
MissesPart parts (build.NotClosed id) = ⊥
MissesPart parts cause = IsUnserved parts cause

-- the reasons to reject a file: the file is not the text of a repository that lists each parent before its children,
-- the object of a ref or of HEAD is missing, or memory runs out
abbrev pub RefusesFile : {A : Type 0} → Bytes → ProgramFault A → Type 0
RefusesFile {A} file (program.Text cause) = StopsAt A ParentsFirst file cause
RefusesFile {A} file (program.Build cause) = (parts : Server A) × NamesParts file parts × MissesPart parts cause
RefusesFile file _ = ⊥

-- the result of loading a file as a server
abbrev pub LoadsServer : {A : Type 0} → Bytes → Result (Server A) (ProgramFault A) → Type 0
LoadsServer file (Ok server) = NamesServer file server
LoadsServer file (Err fault) = RefusesFile file fault

module _ {A : Type 0} (file : Bytes) (input : Input) (output : Output) where
  -- the file is rejected, and nothing is read or written
  pub record IsNotServed (outcome : ProgramOutcome A) : Type 0 where
    pub fault : ProgramFault A
    pub refused : RefusesFile file fault
    pub met : outcome ≡ Err fault
    pub unread : IsUnread input
    pub unwritten : IsUnwritten output

  -- the file is the text of a server's repository, and serving this repository has the outcome
  pub record IsServedBy (Does : Server A → ProgramOutcome A → Type 0) (outcome : ProgramOutcome A) : Type 0 where
    pub server : Server A
    pub names : NamesServer file server
    pub does : Does server outcome

  -- the effect of a program that serves the file
  abbrev pub ServesFile : (Server A → ProgramOutcome A → Type 0) → ProgramOutcome A → Type 0
  ServesFile Does outcome = IsServedBy Does outcome ⊎ IsNotServed outcome

-- ---- plain packs

abbrev pub plain_packs : {A : Type 0} → Packs A
plain_packs list pack = pack ≡ pack_text list

abbrev pub plain_pack_fails : {A : Type 0} → PackFails A
plain_pack_fails list fault = PackRefuses (pack_text list) fault

-- ---- exchanges

-- the outcome of a program after the end of an exchange
abbrev pub outcome_of_exchange : {A : Type 0} → ExchangeEnd → ProgramOutcome A
outcome_of_exchange exchange.Answered = Ok tt
outcome_of_exchange exchange.Closed = Ok tt
outcome_of_exchange exchange.Ended = Ok tt
outcome_of_exchange (exchange.Refused fault) = Err (program.Request fault)
outcome_of_exchange exchange.WriteFailed = Err program.WriteFailed

-- the outcome of a program after the end of a connection
abbrev pub outcome_of_connection : {A : Type 0} → End → ProgramOutcome A
outcome_of_connection end.Closed = Ok tt
outcome_of_connection end.Ended = Ok tt
outcome_of_connection (end.Refused fault) = Err (program.Request fault)
outcome_of_connection end.WriteFailed = Err program.WriteFailed

-- a server replies to one request
pub record AnswersOne {A : Type 0} (input : Input) (output : Output) (server : Server A)
    (outcome : ProgramOutcome A) : Type 0 where
  pub ended : ExchangeEnd
  pub exchange : ServesOne server (MayPack plain_packs) plain_pack_fails Plain input output ended
  pub comes_out : outcome ≡ outcome_of_exchange ended

-- a server replies to all requests of a connection
pub record AnswersAll {A : Type 0} (ends : Ends) (input : Input) (output : Output) (server : Server A)
    (outcome : ProgramOutcome A) : Type 0 where
  pub requests : ℕ
  pub ended : End
  pub connection : Serves server (MayPack plain_packs) plain_pack_fails ends input output requests ended
  pub comes_out : outcome ≡ outcome_of_connection ended

-- the effect of `ls --stdio-server`
abbrev pub ServesRequest : {A : Type 0} → Bytes → Input → Output → ProgramOutcome A → Type 0
ServesRequest file input output = ServesFile file input output (AnswersOne input output)

-- the effect of `upload`
abbrev pub ServesConnection : {A : Type 0} → Bytes → Ends → Input → Output → ProgramOutcome A → Type 0
ServesConnection file ends input output = ServesFile file input output (AnswersAll ends input output)
