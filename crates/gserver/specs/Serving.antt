-- The answers of a server to the first line of a connection and to requests (gitprotocol-v2(5), "Initial Client
-- Request", "Command Request").
use Rattle.std.specs.Prelude.{◌≡◌, ◌⊎◌, ℕ, ◌+◌, ◌-◌, Bool, true, false, min, nat_lt, List, [], Option, Some, None}
use Rattle.std.specs.Prelude.{Result, Ok, Err}
use Rattle.gobject.specs.Packs.{PackFails, Packs}
use Rattle.gpkt.specs.Packets.{Bytes, Packet}
use Rattle.ggrammar.specs.Grammar.{Judge}
use Rattle.ggrammar.specs.declared.ends.Ends.{Ends}
use Rattle.ggrammar.specs.declared.fault.MessageFault.{MessageFault}
use Rattle.ggrammar.specs.declared.limits.Limits.{Limits}
use Rattle.ghello.specs.Adverts.{canonical_advert}
use Rattle.ghello.specs.Hello.{Hello}
use Rattle.ghello.specs.Hello as hello
use Rattle.grequest.specs.Asked.{Asked, Empty, Ls, Fetches, FetchAsked}
use Rattle.grequest.specs.Requests as request
use Rattle.ganswer.specs.Adverts.{advertisement}
use Rattle.ganswer.specs.Answers.{FetchRefuses}
use Rattle.ganswer.specs.Servers.{Server}
use Rattle.ganswer.specs.declared.fault.ServeFault.{ServeFault}
use Rattle.ganswer.specs.declared.fault.ServeFault.TheVariants as serve
use Rattle.gdialogue.specs.Sides.{SaysNothing}
use Rattle.gserver.specs.ErrTexts.{error_packets}
use Rattle.gserver.specs.Fetching.{SaysFetch}
use Rattle.gserver.specs.Heard.{brings_of, holds_of, judge_of}
use Rattle.gserver.specs.declared.heard.Heard.{Heard}
use Rattle.gserver.specs.Listings.{SaysLsAnswer}
use Rattle.gserver.specs.declared.side.ServerSide.{ServerSide}

-- The maximum of the count of requests. After this number of requests, a `ServerSide` accepts only one more request,
-- and `serve` reads nothing more.
abbrev pub max_requests : ℕ
max_requests = 4294967295

-- whether the connection accepts another request after the current one, given the number of earlier requests
abbrev pub goes_on_after : ℕ → Bool
goes_on_after requests = nat_lt requests max_requests

-- the maximum number of further messages (the first line and requests) whose answers do not end the connection
abbrev pub messages_of : {R : Type 0} → Option R → ℕ → ℕ
messages_of None requests = max_requests + 1
messages_of (Some repo) requests = max_requests - requests

-- the server sends an error packet whose text satisfies `Why`, and ends the connection
pub record Refuses (Why : Bytes → Type 0) (said : List Packet) (goes : Bool) : Type 0 where
  pub text : Bytes
  pub why : Why text
  pub all : said ≡ error_packets text
  pub ended : goes ≡ false

-- the count of requests after a new request; an empty request is not counted, and the count stops at `max_requests`
abbrev pub count_request : Asked → ℕ → ℕ
count_request Empty requests = requests
count_request (Ls asked) requests = min (requests + 1) max_requests
count_request (Fetches asked) requests = min (requests + 1) max_requests

-- the text is the host's text for a fault that satisfies `Can`, and the server stores the fault
module _ {H : Type 0} (says : H → ServeFault → Bytes → Type 0) (host : H) where
  pub record IsFault (Can : ServeFault → Type 0) (kept : Option ServeFault) (text : Bytes) : Type 0 where
    pub fault : ServeFault
    pub can : Can fault
    pub keeps : kept ≡ Some fault
    pub words : says host fault text

  -- the text is the host's text for the fault `Memory`, which the server stores
  abbrev pub LacksMemory : Option ServeFault → Bytes → Type 0
  LacksMemory = IsFault (λ fault. fault ≡ serve.Memory)

-- the grammar of the next message: the first line, or a request with these limits, and with ids in the object format of
-- the repository
abbrev pub side_judge : {A R : Type 0} → Limits → (R → Server A) → Option R → Judge
side_judge limits server_of None = hello.judge
side_judge limits server_of (Some repo) = request.judge limits (server_of repo).graph.format

module _ {A R : Type 0} (server_of : R → Server A) where
  -- The host finds a repository for the first line, and the server sends the advertisement of that repository. The
  -- connection serves the repository from then on.
  pub record Greets (Finds : Result R Bytes → Type 0) (new : Option R) (said : List Packet) (goes : Bool) : Type 0 where
    pub found : R
    pub finds : Finds (Ok found)
    pub served : new ≡ Some found
    pub all : said ≡ canonical_advert (advertisement (server_of found).graph.format)
    pub goes_on : goes ≡ true

  module _ {H : Type 0} (says : H → ServeFault → Bytes → Type 0) (host : H) where
    -- the reason to reject the first line: the host finds no repository and returns the text, or there is not enough
    -- memory
    abbrev pub CannotGreet : (Result R Bytes → Type 0) → Option R → Option ServeFault → Bytes → Type 0
    CannotGreet Finds new kept text = (new ≡ None) × (Finds (Err text) ⊎ LacksMemory says host kept text)

    -- the answer to the first line is an advertisement or an error packet
    abbrev pub AnswersHello : (Result R Bytes → Type 0) → Option R → Option ServeFault → List Packet → Bool → Type 0
    AnswersHello Finds new kept said goes = Greets Finds new said goes ⊎ Refuses (CannotGreet Finds new kept) said goes

    module _ (packs_of : R → Packs A) (fails_of : R → PackFails A) (Opens : Result R Bytes → Type 0) (ends : Ends) where
      -- the host opens the repository again; the server answers the fetch request from the opened repository, and
      -- serves this repository from then on
      pub record SendsFrom (asked : FetchAsked) (goes_on : Bool) (new : Option R) (said : List Packet)
          (goes : Bool) : Type 0 where
        pub found : R
        pub packer : R
        pub opens : Opens (Ok found)
        pub served : new ≡ Some found
        pub same : server_of packer ≡ server_of found
        pub sends : SaysFetch (server_of found) (packs_of packer) (fails_of packer) asked ends goes_on said goes

      -- the server cannot answer the fetch request from the repository that the host opens
      pub record CannotSendFrom (asked : FetchAsked) (new : Option R) (kept : Option ServeFault)
          (text : Bytes) : Type 0 where
        pub found : R
        pub packer : R
        pub opens : Opens (Ok found)
        pub served : new ≡ Some found
        pub same : server_of packer ≡ server_of found
        pub fault : IsFault says host (FetchRefuses (server_of found) (fails_of packer) asked) kept text

      -- the reason to reject a fetch request: the host cannot open the repository, memory runs out, or the opened
      -- repository cannot answer the request
      abbrev pub CannotSend : R → FetchAsked → Option R → Option ServeFault → Bytes → Type 0
      CannotSend repo asked new kept text =
          ((new ≡ Some repo) × (Opens (Err text) ⊎ LacksMemory says host kept text))
          ⊎ CannotSendFrom asked new kept text

      -- the answer to a request to this repository
      abbrev pub AnswersAsked : R → Asked → Bool → Option R → List Packet → Bool → Type 0
      AnswersAsked repo Empty goes_on new said goes = (new ≡ Some repo) × (said ≡ []) × (goes ≡ false)
      AnswersAsked repo (Ls asked) goes_on new said goes =
          (new ≡ Some repo) × SaysLsAnswer (server_of repo) asked ends goes_on said goes
      AnswersAsked repo (Fetches asked) goes_on new said goes = SendsFrom asked goes_on new said goes

      -- the reason to reject a request
      abbrev pub CannotAnswer : R → Asked → Option R → Option ServeFault → Bytes → Type 0
      CannotAnswer repo Empty new kept text = ⊥
      CannotAnswer repo (Ls asked) new kept text = (new ≡ Some repo) × LacksMemory says host kept text
      CannotAnswer repo (Fetches asked) new kept text = CannotSend repo asked new kept text

-- the host, the limits on a request, and the packets that end each reply stay the same
pub record Stays {A H R : Type 0} (old new : ServerSide A H R) : Type 0 where
  pub host : new.host ≡ old.host
  pub ends : new.ends ≡ old.ends
  pub limits : new.limits ≡ old.limits

-- a server side that has received no message
pub record IsFresh {A H R : Type 0} (side : ServerSide A H R) : Type 0 where
  pub repo : side.repo ≡ None
  pub requests : side.requests ≡ 0
  pub fault : side.fault ≡ None

-- a server side that has received no message opens the dialogue without a packet
abbrev pub OpensFresh : {A H R : Type 0} → ServerSide A H R → List Packet → Bool → Type 0
OpensFresh side said goes = IsFresh side × SaysNothing said goes

module _ {A H R : Type 0} (server_of : R → Server A) (packs_of : R → Packs A) (fails_of : R → PackFails A)
    (finds : H → Hello → Result R Bytes → Type 0) (opens : H → R → Result R Bytes → Type 0)
    (says : H → ServeFault → Bytes → Type 0) where
  -- the packets `lines` are a first line, and the packets `said` are an answer to this line
  pub record AnswersFirst (old new : ServerSide A H R) (lines said : List Packet) (goes : Bool) : Type 0 where
    pub asked : Hello
    pub says_so : hello.Says lines asked
    pub answers : AnswersHello server_of says old.host.now (finds old.host.now asked) new.repo new.fault said goes
    pub requests : new.requests ≡ old.requests

  -- the packets `lines` are a request within the limits, and `said` is an answer to the request or an error packet
  pub record AnswersRequest (repo : R) (old new : ServerSide A H R) (lines said : List Packet)
      (goes : Bool) : Type 0 where
    pub asked : Asked
    pub says_so : request.Says old.limits (server_of repo).graph.format lines asked
    pub answers : AnswersAsked server_of says old.host.now packs_of fails_of (opens old.host.now repo) old.ends
        repo asked (goes_on_after old.requests) new.repo said goes
        ⊎ Refuses (CannotAnswer server_of says old.host.now packs_of fails_of (opens old.host.now repo) old.ends
        repo asked new.repo new.fault) said goes
    pub requests : new.requests ≡ count_request asked old.requests

  -- the packets `lines` are a message, and the packets `said` are an answer to this message
  abbrev pub AnswersBy : Option R → ServerSide A H R → ServerSide A H R → List Packet → List Packet → Bool → Type 0
  AnswersBy None old new lines said goes = AnswersFirst old new lines said goes
  AnswersBy (Some repo) old new lines said goes = AnswersRequest repo old new lines said goes

  pub record AnswersMessage (old new : ServerSide A H R) (lines said : List Packet) (goes : Bool) : Type 0 where
    pub stays : Stays old new
    pub answers : AnswersBy old.repo old new lines said goes
    pub quiet : (new.fault ≡ old.fault) ⊎ (goes ≡ false)

-- the grammar rejects a message with this fault; the server sends the host's text for the fault, and stores the fault
pub record RefusesMessage {A H R : Type 0} (says : H → ServeFault → Bytes → Type 0) (old : ServerSide A H R)
    (fault : MessageFault) (said : List Packet) (new : ServerSide A H R) : Type 0 where
  pub stays : Stays old new
  pub repo : new.repo ≡ old.repo
  pub requests : new.requests ≡ old.requests
  pub text : Bytes
  pub words : IsFault says old.host.now (λ it. it ≡ serve.Request fault) new.fault text
  pub all : said ≡ error_packets text

-- whether the grammar of the next message (the first line or a request) stores the contents of a packet
abbrev pub side_brings : {R : Type 0} → Option R → List Packet → Packet → Bool
side_brings None = hello.brings
side_brings (Some repo) = request.brings

-- the message has the grammar of the side's next message, and consists of exactly these packets so far
pub record HearsMessage {A H R : Type 0} (server_of : R → Server A) (side : ServerSide A H R) (message : Heard A)
    (packets : List Packet) : Type 0 where
  pub judged : judge_of message ≡ side_judge side.limits server_of side.repo
  pub brought : brings_of message ≡ side_brings side.repo
  pub held : holds_of message packets
