-- Reading ls-refs replies (gitprotocol-v2(5), "ls-refs"). Git's manuals do not say which ref updates and which wants
-- follow from a reply.
use Rattle.std.specs.Prelude.{◌≡◌, ◌⊎◌, ◌<◌, ◌≤◌, List, [], ◌∷◌, length, Some, None, Result, Ok, Err}
use Rattle.gname.specs.Ids.{Id}
use Rattle.gpkt.specs.Change.{Change}
use Rattle.gpkt.specs.Packets.{Packet}
use Rattle.ggrammar.specs.Kinds.{ReadsMessage}
use Rattle.ggrammar.specs.MessageReading.{ReadsRefused}
use Rattle.ggrammar.specs.declared.fault.MessageFault.{MessageFault}
use Rattle.ggrammar.specs.declared.fault.Why.TheVariants.{BadName}
use Rattle.glsreply.specs.LsReplies.{LsReply, Says, brings, judge}
use Rattle.glsreply.specs.WellFormed.{last_frame}
use Rattle.gobject.specs.declared.node.Entry.{Entry}
use Rattle.gdag.specs.declared.fault.GraphFault.TheVariants as graph
use Rattle.gclientrepo.specs.declared.fault.RepoFault.TheVariants as repo
use Rattle.grequest.specs.Asked.{Ls, LsRefsAsked, max_wants}
use Rattle.gsession.specs.Asking.{AreNamed, AreWants, asked_of, asks_by_all, unborn_told}
use Rattle.gsession.specs.Sessions.{SessionState, after_fault}
use Rattle.gsession.specs.declared.stage.Stage.{Stage}
use Rattle.gsession.specs.declared.stage.Stage.TheVariants.{Fetching, Settling}
use Rattle.gsession.specs.declared.fault.ClientFault.{ClientFault}
use Rattle.gsession.specs.declared.fault.ClientFault.TheVariants.{NoOpenRequest, Message, TooManyWants, Repo}
use Rattle.gsession.specs.declared.taken.LsTaken.{LsTaken}

-- the open request is a request for refs
abbrev pub AwaitsRefs : {A : Type 0} → SessionState A → Type 0
AwaitsRefs s = (asked : LsRefsAsked) × (s.pending ≡ Some (Ls asked))

-- the stage after an ls-refs reply: fetching if there are wants, and settling otherwise
abbrev pub stage_for : List Id → Stage
stage_for [] = Settling
stage_for (want ∷ wants) = Fetching

-- the session after it accepted a reply with these wants
abbrev pub with_refs : {A : Type 0} → SessionState A → LsReply → List Id → SessionState A
with_refs s reply wants =
    record s { stage = stage_for wants; pending = None; asks = asked_of s.refspecs reply.lines; wants = wants }

-- the session accepts the refs of a reply, and determines the requested updates and the wants
pub record TakesLines {A : Type 0} (old : SessionState A) (g : List (Entry A)) (reply : LsReply) (new : SessionState A)
    (taken : LsTaken A) : Type 0 where
  pub named : AreNamed {A = A} (asks_by_all old.refspecs reply.lines)
  pub wants : List Id
  pub wanted : AreWants {A = A} g (asked_of old.refspecs reply.lines) wants
  pub few : length wants ≤ max_wants old.options.limits
  pub after : new ≡ with_refs old reply wants
  pub asks : taken.asks ≡ length (asked_of {A = A} old.refspecs reply.lines)
  pub count : taken.wants ≡ length wants
  pub unborn : taken.unborn ≡ unborn_told old.refspecs reply.unborn

-- the destination of a requested update is not a valid ref name; the fault gives the position of the reply's last
-- packet
pub record IsMisnamed {A : Type 0} (s : SessionState A) (reply : LsReply) (fault : MessageFault) : Type 0 where
  pub unnamed : ¬ (AreNamed {A = A} (asks_by_all s.refspecs reply.lines))
  pub frame : fault.frame ≡ last_frame s.ends reply
  pub why : fault.why ≡ BadName

-- the reply leads to more wants than the limits of the session allow
pub record WantsTooMuch {A : Type 0} (s : SessionState A) (g : List (Entry A)) (reply : LsReply) : Type 0 where
  pub named : AreNamed {A = A} (asks_by_all s.refspecs reply.lines)
  pub wants : List Id
  pub wanted : AreWants {A = A} g (asked_of s.refspecs reply.lines) wants
  pub many : max_wants s.options.limits < length wants

-- a reason to reject the refs of a reply: an invalid ref name, too many wants, or out of memory
abbrev pub IsRefsFault : {A : Type 0} → SessionState A → List (Entry A) → LsReply → ClientFault A → Type 0
IsRefsFault s g reply (Message fault) = IsMisnamed s reply fault
IsRefsFault s g reply TooManyWants = WantsTooMuch s g reply
IsRefsFault {A} s g reply (Repo (repo.Graph graph.Memory)) = AreNamed {A = A} (asks_by_all s.refspecs reply.lines)
IsRefsFault s g reply _ = ⊥

-- the session reads a complete ls-refs reply
abbrev pub ReadsRefs : {A : Type 0} → SessionState A → Change → LsReply → Type 0
ReadsRefs s change reply = ReadsMessage (judge s.format s.ends) (Says s.format s.ends) change reply

-- the session fails to read the reply: the packet reader fails, the input ends, or a packet is rejected
abbrev pub RefusesRefs : {A : Type 0} → SessionState A → Change → MessageFault → Type 0
RefusesRefs s change fault =
    (front : List Packet) × ReadsRefused (judge s.format s.ends) brings front change fault

-- the session reads a complete reply, and rejects its refs
abbrev pub ReadsUntaken : {A : Type 0} → SessionState A → List (Entry A) → Change → ClientFault A → Type 0
ReadsUntaken s g change fault = (reply : LsReply) × ReadsRefs s change reply × IsRefsFault s g reply fault

-- a reason why reading an ls-refs reply fails: no ls-refs reply is awaited, a packet is unreadable or rejected, or the
-- refs of a complete reply are rejected
abbrev pub IsLsFault : {A : Type 0} → SessionState A → List (Entry A) → Change → ClientFault A → Type 0
IsLsFault s g change NoOpenRequest = ¬ (AwaitsRefs s) × (change.new ≡ change.old)
IsLsFault s g change (Message fault) =
    AwaitsRefs s × (RefusesRefs s change fault ⊎ ReadsUntaken s g change (Message fault))
IsLsFault s g change TooManyWants = AwaitsRefs s × ReadsUntaken s g change TooManyWants
IsLsFault s g change (Repo fault) = AwaitsRefs s × ReadsUntaken s g change (Repo fault)
IsLsFault s g change _ = ⊥

-- the result of reading an ls-refs reply: the session accepts the refs, or fails
abbrev pub TakesLs : {A : Type 0} → SessionState A → List (Entry A) → Change → SessionState A
    → Result (LsTaken A) (ClientFault A) → Type 0
TakesLs old g change new (Ok taken) =
    AwaitsRefs old × ((reply : LsReply) × ReadsRefs old change reply × TakesLines old g reply new taken)
TakesLs old g change new (Err fault) = IsLsFault old g change fault × (new ≡ after_fault old fault)

-- ---- a complete reply that the session did not read itself

-- a reason to reject a complete ls-refs reply: no ls-refs reply is awaited, or the refs of the reply are rejected
abbrev pub IsUnaccepted : {A : Type 0} → SessionState A → List (Entry A) → LsReply → ClientFault A → Type 0
IsUnaccepted s g reply NoOpenRequest = ¬ (AwaitsRefs s)
IsUnaccepted s g reply fault = AwaitsRefs s × IsRefsFault s g reply fault

-- the result of applying a complete ls-refs reply: the session accepts the refs, or fails
abbrev pub AcceptsRefs : {A : Type 0} → SessionState A → List (Entry A) → LsReply → SessionState A
    → Result (LsTaken A) (ClientFault A) → Type 0
AcceptsRefs old g reply new (Ok taken) = AwaitsRefs old × TakesLines old g reply new taken
AcceptsRefs old g reply new (Err fault) = IsUnaccepted old g reply fault × (new ≡ after_fault old fault)
