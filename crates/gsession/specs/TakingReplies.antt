-- Reading fetch replies (gitprotocol-v2(5), "fetch"). The indexer reads the pack as the pack arrives. The graph gains
-- the pack's objects after the end of the reply. The manual does not define this order, nor which of several faults is
-- reported.
use Rattle.std.specs.Prelude.{◌≡◌, true, false, ℕ, List, ◌∷◌, ◌++◌, length, All, Contains, Some, None, Result, Ok, Err}
use Rattle.gname.specs.Ids.{Id}
use Rattle.gpkt.specs.Change.{Change}
use Rattle.gpkt.specs.Packets.{Bytes, Packet}
use Rattle.ggrammar.specs.Kinds.{ReadsMessage}
use Rattle.ggrammar.specs.MessageBytes.{known_bytes}
use Rattle.ggrammar.specs.MessageReading.{ReadsRefused}
use Rattle.ggrammar.specs.declared.fault.MessageFault.{MessageFault}
use Rattle.gfetchreply.specs.FetchReplies.{Reading, FetchReply, Acks, Ready, Pack, Says, brings_into, judge}
use Rattle.gfetchreply.specs.FetchHeads.{acknowledged_by, pack_of}
use Rattle.gobject.specs.declared.node.Entry.{Entry}
use Rattle.gobject.specs.Packs.{Indexes, IndexFails}
use Rattle.gdag.specs.Levels.{distinct_of}
use Rattle.gdag.specs.Insert.{Adds, IsRefused}
use Rattle.gdag.specs.declared.fault.GraphFault.{GraphFault}
use Rattle.gdag.specs.declared.fault.GraphFault.TheVariants.{Memory}
use Rattle.gclientrepo.specs.declared.fault.RepoFault.TheVariants.{Graph}
use Rattle.gclientrepo.specs.Repos.{RepoState}
use Rattle.grequest.specs.declared.flag.FetchFlag.TheVariants.{Done}
use Rattle.grequest.specs.Asked.{Fetches, FetchAsked, is_direct, fetch_has}
use Rattle.gsession.specs.Sessions.{SessionState, after_fault}
use Rattle.gsession.specs.declared.stage.Stage.{Stage}
use Rattle.gsession.specs.declared.stage.Stage.TheVariants.{Fetching, Settling}
use Rattle.gsession.specs.declared.fault.ClientFault.{ClientFault}
use Rattle.gsession.specs.declared.fault.ClientFault.TheVariants.{NoOpenRequest, Message, StrangeAck, Index, Repo}
use Rattle.gsession.specs.declared.taken.Taken.{Taken}
use Rattle.gsession.specs.declared.taken.Taken.TheVariants.{Round, PackTaken}

-- the reply has a pack
abbrev pub HasPack : FetchReply → Type 0
HasPack (Acks ids) = ⊥
HasPack (Ready ids pack) = Unit {0}
HasPack (Pack pack) = Unit {0}

-- the first acknowledged id that is not a have of the request; a server may only acknowledge haves (gitprotocol-v2(5),
-- "fetch": `ACK`)
pub record IsFirstStrange (haves acks : List Id) (id : Id) : Type 0 where
  pub front : List Id
  pub rest : List Id
  pub parts : acks ≡ front ++ id ∷ rest
  pub named : All (Contains haves) front
  pub strange : ¬ (Contains haves id)

-- the session after a reply: each acknowledged id is listed once as common, in the order of the first acknowledgments
abbrev pub after_acks : {A : Type 0} → SessionState A → Stage → List Id → SessionState A
after_acks s stage acks = record s { stage = stage; pending = None; commons = distinct_of (s.commons ++ acks) }

-- the graph gains the objects of a list, and the refs and the marks are unchanged
pub record InsertsAll {A : Type 0} (old : RepoState A) (entries : List (Entry A)) (new : RepoState A) (added : ℕ)
    : Type 0 where
  pub adds : Adds old.graph entries new.graph (Ok added)
  pub refs : new.refs ≡ old.refs
  pub marks : new.known ≡ old.known

module _ {A : Type 0} (indexes : Indexes A) (index_fails : IndexFails) where
  -- the graph gains the objects of a list that the indexer may return for the pack
  abbrev pub InsertsPack : RepoState A → Bytes → RepoState A → ℕ → Type 0
  InsertsPack old pack new added = (entries : List (Entry A)) × indexes pack entries × InsertsAll old entries new added

  -- the graph rejects a list of objects that the indexer may return for the pack
  abbrev pub RefusesPack : RepoState A → Bytes → GraphFault → Type 0
  RefusesPack repo pack fault =
      (entries : List (Entry A)) × indexes pack entries × IsRefused repo.graph.format repo.graph.entries entries fault

  -- the indexer accepts the pack of the reply, if the reply has a pack
  abbrev pub TakesPack : FetchReply → Type 0
  TakesPack reply = HasPack reply → ((entries : List (Entry A)) × indexes (pack_of reply) entries)

  -- a reason to reject a complete reply: an acknowledged id that is not a have, a fault of the indexer or of the graph,
  -- or out of memory
  abbrev pub IsReplyFault : List Id → RepoState A → FetchReply → ClientFault A → Type 0
  IsReplyFault haves repo reply (StrangeAck id) = IsFirstStrange haves (acknowledged_by reply) id
  IsReplyFault haves repo reply (Index fault) =
      All (Contains haves) (acknowledged_by reply) × HasPack reply × index_fails (pack_of reply) fault
  IsReplyFault haves repo reply (Repo (Graph Memory)) =
      All (Contains haves) (acknowledged_by reply) × TakesPack reply
  IsReplyFault haves repo reply (Repo (Graph fault)) =
      All (Contains haves) (acknowledged_by reply) × HasPack reply × RefusesPack repo (pack_of reply) fault
  IsReplyFault haves repo reply _ = ⊥

  -- the effect of an accepted reply: acknowledgments add common ids, and a pack adds objects
  abbrev pub TakesHead : SessionState A → RepoState A → FetchReply → SessionState A → RepoState A → Taken → Type 0
  TakesHead old repo_old reply new repo_new (Round common) =
      ¬ (HasPack reply) × (new ≡ after_acks old Fetching (acknowledged_by reply))
      × (common ≡ length new.commons) × (repo_new ≡ repo_old)
  TakesHead old repo_old reply new repo_new (PackTaken added) =
      HasPack reply × (new ≡ after_acks old Settling (acknowledged_by reply))
      × InsertsPack repo_old (pack_of reply) repo_new added

  -- each acknowledged id is one of the request's haves, and the session accepts the reply
  abbrev pub TakesRead : List Id → SessionState A → RepoState A → FetchReply → SessionState A → RepoState A
      → Taken → Type 0
  TakesRead haves old repo_old reply new repo_new taken =
      All (Contains haves) (acknowledged_by reply) × TakesHead old repo_old reply new repo_new taken

  -- the result of applying a complete fetch reply that the session did not read itself: the session accepts the reply,
  -- or a fault ends the session and leaves the repository unchanged
  abbrev pub AcceptsRead : List Id → SessionState A → RepoState A → FetchReply → SessionState A → RepoState A
      → Result Taken (ClientFault A) → Type 0
  AcceptsRead haves old repo_old reply new repo_new (Ok taken) = TakesRead haves old repo_old reply new repo_new taken
  AcceptsRead haves old repo_old reply new repo_new (Err fault) =
      IsReplyFault haves repo_old reply fault × (new ≡ after_fault old fault) × (repo_new ≡ repo_old)

-- ---- reading a reply

-- the parameters for reading the reply to a request
abbrev pub reading_for : {A : Type 0} → SessionState A → FetchAsked → Reading
reading_for s asked =
    record { limits = s.options.limits; format = s.format; direct = is_direct asked; limit = s.limit; ends = s.ends }

-- the session reads a complete fetch reply
abbrev pub ReadsFetch : Reading → Change → FetchReply → Type 0
ReadsFetch reading change reply = ReadsMessage (judge reading) (Says reading) change reply

-- The session fails to read the reply: the packet reader fails, the input ends, or a packet is rejected. The sink for
-- the pack never fails, so memory can run out only for a packet that acknowledges an id.
abbrev pub RefusesFetch : Reading → Change → MessageFault → Type 0
RefusesFetch reading change fault =
    (front : List Packet) × ReadsRefused (judge reading) (brings_into false reading) front change fault

-- this request for objects is the open request
abbrev pub Awaits : {A : Type 0} → SessionState A → FetchAsked → Type 0
Awaits s asked = s.pending ≡ Some (Fetches asked)

-- the open request is a request for objects
abbrev pub AwaitsObjects : {A : Type 0} → SessionState A → Type 0
AwaitsObjects s = (asked : FetchAsked) × Awaits s asked

-- the stage of a session after an accepted fetch reply
abbrev pub stage_after : Taken → Stage
stage_after (Round common) = Fetching
stage_after (PackTaken added) = Settling

-- the session accepted the reply to a request for objects, and no request is open
pub record HasTaken {A : Type 0} (old new : SessionState A) (taken : Taken) : Type 0 where
  pub waits : AwaitsObjects old
  pub pending : new.pending ≡ None
  pub stage : new.stage ≡ stage_after taken
  pub rounds : new.rounds ≡ old.rounds

-- a reply with only acknowledgments adds common ids, and changes nothing else of the session or the repository
abbrev pub AddsCommons : {A : Type 0} → SessionState A → RepoState A → SessionState A → RepoState A → Taken → Type 0
AddsCommons old repo_old new repo_new (Round common) =
    (acks : List Id) × (new ≡ after_acks old Fetching acks) × (repo_new ≡ repo_old)
AddsCommons old repo_old new repo_new (PackTaken added) = Unit {0}

module _ {A : Type 0} (indexes : Indexes A) (index_fails : IndexFails) where
  -- the session reads a complete reply to the open request, and rejects its content
  abbrev pub DeclinesFetch : SessionState A → RepoState A → Change → ClientFault A → Type 0
  DeclinesFetch s repo change fault =
      (asked : FetchAsked) × Awaits s asked
      × ((reply : FetchReply) × ReadsFetch (reading_for s asked) change reply
      × IsReplyFault indexes index_fails asked.haves repo reply fault)

  -- a reason why reading a fetch reply fails: no fetch reply is awaited, a packet is unreadable or rejected, or the
  -- content of a complete reply is rejected
  abbrev pub IsTakeFault : SessionState A → RepoState A → Change → ClientFault A → Type 0
  IsTakeFault s repo change NoOpenRequest = ¬ (AwaitsObjects s) × (change.new ≡ change.old)
  IsTakeFault s repo change (Message fault) =
      (asked : FetchAsked) × Awaits s asked × RefusesFetch (reading_for s asked) change fault
  IsTakeFault s repo change (StrangeAck id) = DeclinesFetch s repo change (StrangeAck id)
  IsTakeFault s repo change (Index fault) = DeclinesFetch s repo change (Index fault)
  IsTakeFault s repo change (Repo (Graph fault)) = DeclinesFetch s repo change (Repo (Graph fault))
  IsTakeFault s repo change _ = ⊥

  -- the result of reading a fetch reply: a complete reply is accepted, or a fault leaves the repository unchanged
  abbrev pub TakesReply : SessionState A → RepoState A → Change → SessionState A → RepoState A
      → Result Taken (ClientFault A) → Type 0
  TakesReply old repo_old change new repo_new (Ok taken) =
      (asked : FetchAsked) × Awaits old asked
      × ((reply : FetchReply) × ReadsFetch (reading_for old asked) change reply
      × TakesRead indexes index_fails asked.haves old repo_old reply new repo_new taken)
  TakesReply old repo_old change new repo_new (Err fault) =
      IsTakeFault old repo_old change fault × (new ≡ after_fault old fault) × (repo_new ≡ repo_old)

  -- the bytes of a fetch reply, and the result of reading the reply, determine the next state of the session
  abbrev pub TakingIsDecided : Type 0
  TakingIsDecided =
      (old one other : SessionState A) (repo repo_one repo_other : RepoState A) (bytes left also : Bytes)
      (result : Result Taken (ClientFault A)) → TakesReply old repo (known_bytes bytes left) one repo_one result
      → TakesReply old repo (known_bytes bytes also) other repo_other result → one ≡ other

  -- once the session accepts the reply to a request with `done`, it requests no more objects
  abbrev pub DoneIsLast : Type 0
  DoneIsLast =
      (old new : SessionState A) (repo repo_new : RepoState A) (change : Change) (asked : FetchAsked) (taken : Taken)
      → Awaits old asked → fetch_has asked Done ≡ true → TakesReply old repo change new repo_new (Ok taken)
      → new.stage ≡ Settling
