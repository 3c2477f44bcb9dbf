-- The steps of a session's calls.
use Rattle.std.specs.Prelude.{◌≡◌, ◌+◌, ◌≤◌, false, cond, List, [], ◌∷◌, ◌++◌, length, All, Contains, Result, Ok, Err}
use Rattle.std.specs.List.{IsDistinct}
use Rattle.std.specs.Str.{bytes_eq}
use Rattle.gname.specs.Ids.{Id, IsIdOf}
use Rattle.gpkt.specs.Change.{Change}
use Rattle.gpkt.specs.Packets.{Bytes}
use Rattle.glsreply.specs.LsReplies.{LsReply}
use Rattle.glsreply.specs.RefTexts.{RefLine}
use Rattle.gfetchreply.specs.FetchReplies.{FetchReply}
use Rattle.gfetchreply.specs.FetchHeads.{FetchHead}
use Rattle.gfetchreply.specs.FetchHeads as head
use Rattle.gobject.specs.declared.fault.IndexFault.{IndexFault}
use Rattle.gobject.specs.declared.node.Entry.{Entry}
use Rattle.gobject.specs.Packs.{Indexes, IndexFails}
use Rattle.gdag.specs.Levels.{is_in}
use Rattle.gdag.specs.declared.fault.GraphFault.TheVariants as graph
use Rattle.grefs.specs.Refspecs.{Refspec}
use Rattle.gclientrepo.specs.declared.ask.Ask.{Ask}
use Rattle.gclientrepo.specs.declared.fault.RepoFault.TheVariants as repo
use Rattle.gclientrepo.specs.Repos.{RepoState}
use Rattle.grequest.specs.Asked.{FetchAsked, is_direct, max_haves}
use Rattle.gsession.specs.Asking.{AreNamed, asked_of, asks_by_all, with_asks}
use Rattle.gsession.specs.Sessions.{SessionState}
use Rattle.gsession.specs.TakingRefs.{IsLsFault, IsRefsFault, TakesLines, TakesLs}
use Rattle.gsession.specs.TakingReplies.{Awaits, IsFirstStrange, IsReplyFault, IsTakeFault, TakesRead, TakesReply}
use Rattle.gsession.specs.declared.fault.ClientFault.{ClientFault}
use Rattle.gsession.specs.declared.fault.ClientFault.TheVariants.{StrangeAck, Repo}
use Rattle.gsession.specs.declared.taken.LsTaken.{LsTaken}
use Rattle.gsession.specs.declared.taken.Taken.{Taken}

-- ---- requested updates

-- the new list is the old list followed by each added update for a ref that has no update yet, and each added update is
-- for a valid ref name
abbrev pub AddsAsks : {A : Type 0} → List (Ask A) → List (Ask A) → List (Ask A) → Type 0
AddsAsks old more new = (new ≡ with_asks old more) × AreNamed more

-- the list has the ref updates that the refspecs request for the lines, and each update is for a valid ref name
abbrev pub FindsAsks : {A : Type 0} → List Refspec → List RefLine → List (Ask A) → Type 0
FindsAsks {A} specs lines asks = (asks ≡ asked_of specs lines) × AreNamed {A = A} (asks_by_all specs lines)

-- ---- the next request

-- the list of prefixes, with the given prefix appended unless the list already contains it
abbrev pub with_prefix : List Bytes → Bytes → List Bytes
with_prefix prefixes prefix = cond (is_in prefixes prefix) prefixes (prefixes ++ prefix ∷ [])

-- the batch has only ids that were not offered before, and fits into a request with the common ids
pub record FitsBatch {A : Type 0} (s : SessionState A) (batch : List Id) : Type 0 where
  pub ids : All (IsIdOf s.format) batch
  pub room : length s.commons + length batch ≤ max_haves s.options.limits
  pub fresh : IsDistinct bytes_eq (s.sent ++ batch)

-- ---- the ls-refs reply

-- the result of accepting or rejecting the refs of a complete reply; a fault does not yet end the session
abbrev pub AnswersRefs : {A : Type 0} → SessionState A → List (Entry A) → LsReply → SessionState A
    → Result (LsTaken A) (ClientFault A) → Type 0
AnswersRefs old g reply new (Ok taken) = TakesLines old g reply new taken
AnswersRefs old g reply new (Err fault) = IsRefsFault old g reply fault × (new ≡ old)

-- the result of reading an ls-refs reply; a fault does not yet end the session
abbrev pub AnswersLs : {A : Type 0} → SessionState A → List (Entry A) → Change → SessionState A
    → Result (LsTaken A) (ClientFault A) → Type 0
AnswersLs old g change new (Ok taken) = TakesLs old g change new (Ok taken)
AnswersLs old g change new (Err fault) = IsLsFault old g change fault × (new ≡ old)

-- ---- the fetch reply

-- the indexer read these bytes of a pack, or failed with a fault that is possible for every pack that begins with these
-- bytes
abbrev pub MayHaveFed : {F : Type 0} → (F → Bytes → Type 0) → IndexFails → Result F IndexFault → Bytes → Type 0
MayHaveFed fed index_fails (Ok feed) bytes = fed feed bytes
MayHaveFed fed index_fails (Err fault) bytes = (more : Bytes) → index_fails (bytes ++ more) fault

-- the fault reports an acknowledged id that is not a have of the request
abbrev pub IsStrangeAck : {A : Type 0} → List Id → List Id → ClientFault A → Type 0
IsStrangeAck haves acks (StrangeAck id) = IsFirstStrange haves acks id
IsStrangeAck haves acks _ = ⊥

-- a reason to reject acknowledgments: an id that is not a have of the request, or out of memory
abbrev pub IsAcksFault : {A : Type 0} → List Id → List Id → ClientFault A → Type 0
IsAcksFault haves acks (StrangeAck id) = IsFirstStrange haves acks id
IsAcksFault haves acks (Repo (repo.Graph graph.Memory)) = All (Contains haves) acks
IsAcksFault haves acks _ = ⊥

-- the reply fits its request: the reply to a request with `done` or without haves never consists only of
-- acknowledgments
abbrev pub FitsHead : FetchAsked → FetchHead → Type 0
FitsHead asked (head.Acks ids) = is_direct asked ≡ false
FitsHead asked _ = Unit {0}

-- the reply fits the open request for objects
abbrev pub FitsOpen : {A : Type 0} → SessionState A → FetchHead → Type 0
FitsOpen s head = (asked : FetchAsked) × Awaits s asked × FitsHead asked head

module _ {A : Type 0} (indexes : Indexes A) (index_fails : IndexFails) where
  -- the result of accepting or rejecting a complete fetch reply; a fault does not yet end the session
  abbrev pub AnswersRead : List Id → SessionState A → RepoState A → FetchReply → SessionState A → RepoState A
      → Result Taken (ClientFault A) → Type 0
  AnswersRead haves old repo_old reply new repo_new (Ok taken) =
      TakesRead indexes index_fails haves old repo_old reply new repo_new taken
  AnswersRead haves old repo_old reply new repo_new (Err fault) =
      IsReplyFault indexes index_fails haves repo_old reply fault × (new ≡ old) × (repo_new ≡ repo_old)

  -- the result of reading a fetch reply; a fault does not yet end the session
  abbrev pub AnswersReply : SessionState A → RepoState A → Change → SessionState A → RepoState A
      → Result Taken (ClientFault A) → Type 0
  AnswersReply old repo_old change new repo_new (Ok taken) =
      TakesReply indexes index_fails old repo_old change new repo_new (Ok taken)
  AnswersReply old repo_old change new repo_new (Err fault) =
      IsTakeFault indexes index_fails old repo_old change fault × (new ≡ old) × (repo_new ≡ repo_old)
