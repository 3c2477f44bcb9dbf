-- A turn of a client's conversation: the client's next request, and the effect of the reply (gitprotocol-v2(5),
-- "Command Request").
use Rattle.std.specs.Prelude.{◌≡◌, Bool, false, List, [], ◌∷◌, Option, Ok}
use Rattle.gpkt.specs.Change.{Change}
use Rattle.gpkt.specs.Sending.{Input}
use Rattle.ggrammar.specs.MessageReading.{IsReadFailure}
use Rattle.gsession.specs.declared.fault.ClientFault.{ClientFault}
use Rattle.gsession.specs.declared.fault.ClientFault.TheVariants.{Message}
use Rattle.gname.specs.Names.{Name}
use Rattle.gpkt.specs.Packets.{Packet}
use Rattle.glsreply.specs.LsReplies.{LsReply}
use Rattle.glsreply.specs.LsReplies as ls
use Rattle.gfetchreply.specs.FetchReplies.{FetchReply}
use Rattle.gfetchreply.specs.FetchReplies as fetch
use Rattle.gobject.specs.Packs.{Indexes, IndexFails}
use Rattle.gclientrepo.specs.Repos.{RepoState}
use Rattle.grequest.specs.Asked.{Asked, Empty, Ls, Fetches, FetchAsked}
use Rattle.gsession.specs.TakingReplies.{IsTakeFault, TakesRead, reading_for}
use Rattle.gsession.specs.TakingRefs.{IsLsFault, TakesLines}
use Rattle.gsession.specs.Requesting.{Requests}
use Rattle.gsession.specs.declared.taken.LsTaken.{LsTaken}
use Rattle.gsession.specs.Sessions.{SessionState}
use Rattle.gsession.specs.declared.taken.Taken.{Taken}

-- the state of a client during a conversation: its session, its repository, and the target of the server's unborn HEAD
pub record ClientState (A : Type 0) : Type 0 where
  pub session : SessionState A
  pub repo : RepoState A
  pub unborn : Option Name

-- a request, and the packets of its reply
pub record Turn : Type 0 where
  pub asked : Asked
  pub reply : List Packet

-- the client's next request, after which the session waits for the reply
abbrev pub AsksNext : {A : Type 0} → ClientState A → Asked → SessionState A → Type 0
AsksNext client asked waiting = Requests client.session client.repo.graph.entries waiting (Ok asked)

-- ---- an accepted reply

-- the packets are an ls-refs reply, and the client accepts the reply; the reply determines the requested ref updates
-- and the wants
pub record TakesRefs {A : Type 0} (waiting : SessionState A) (old : ClientState A) (packets : List Packet)
    (new : ClientState A) : Type 0 where
  pub reply : LsReply
  pub says : ls.Says waiting.format waiting.ends packets reply
  pub taken : LsTaken A
  pub takes : TakesLines waiting old.repo.graph.entries reply new.session taken
  pub unborn : new.unborn ≡ taken.unborn
  pub stays : new.repo ≡ old.repo

module _ {A : Type 0} (indexes : Indexes A) (index_fails : IndexFails) where
  -- the packets are a fetch reply, and the client accepts the reply; the reply has acknowledgments, a pack, or both
  pub record TakesObjects (waiting : SessionState A) (asked : FetchAsked) (old : ClientState A) (packets : List Packet)
      (new : ClientState A) : Type 0 where
    pub reply : FetchReply
    pub says : fetch.Says (reading_for waiting asked) packets reply
    pub taken : Taken
    pub takes : TakesRead indexes index_fails asked.haves waiting old.repo reply new.session new.repo taken
    pub unborn : new.unborn ≡ old.unborn

  -- the client accepts the reply to the request
  abbrev pub Takes : SessionState A → Asked → ClientState A → List Packet → ClientState A → Type 0
  Takes waiting Empty old packets new = ⊥
  Takes waiting (Ls asked) old packets new = TakesRefs waiting old packets new
  Takes waiting (Fetches asked) old packets new = TakesObjects waiting asked old packets new

  -- the client makes the request of the turn and accepts its reply
  pub record IsTurn (old : ClientState A) (turn : Turn) (new : ClientState A) : Type 0 where
    pub waiting : SessionState A
    pub asks : AsksNext old turn.asked waiting
    pub takes : Takes waiting turn.asked old turn.reply new

  -- the client completes the turns one after the other
  abbrev pub AreTurns : ClientState A → List Turn → ClientState A → Type 0
  AreTurns first [] last = last ≡ first
  AreTurns first (turn ∷ turns) last = (next : ClientState A) × IsTurn first turn next × AreTurns next turns last

-- ---- a rejected reply

-- the fault reports a failed source exactly if the source failed
abbrev pub FitsSource : {A : Type 0} → Bool → ClientFault A → Type 0
FitsSource down (Message cause) = IsReadFailure false down cause.why
FitsSource down fault = down ≡ false

module _ {A : Type 0} (indexes : Indexes A) (index_fails : IndexFails) where
  -- The client rejects the reply to the request with this fault. A packet is unreadable or rejected, or the content of
  -- the complete reply is rejected.
  abbrev pub IsUntaken : SessionState A → Asked → RepoState A → Change → ClientFault A → Type 0
  IsUntaken waiting Empty repo change cause = ⊥
  IsUntaken waiting (Ls asked) repo change cause = IsLsFault waiting repo.graph.entries change cause
  IsUntaken waiting (Fetches asked) repo change cause =
      IsTakeFault indexes index_fails waiting repo change cause

  -- the client rejects the reply to the request, and the fault reports a failed source exactly if the source failed
  pub record Refuses (waiting : SessionState A) (asked : Asked) (repo : RepoState A) (input : Input)
      (cause : ClientFault A) : Type 0 where
    pub untaken : IsUntaken waiting asked repo input.read cause
    pub source : FitsSource input.is_down cause
