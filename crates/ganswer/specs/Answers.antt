-- The answers of a server to requests (gitprotocol-v2(5), "Command Request").
use Rattle.std.specs.Prelude.{◌≡◌, ⊤, [], Option, Some}
use Rattle.gname.specs.declared.formats.Format.{Format}
use Rattle.gobject.specs.Packs.{PackFails, Packs}
use Rattle.gdag.specs.Graphs.{IsFirstAbsent}
use Rattle.ggrammar.specs.declared.limits.Limits.{Limits}
use Rattle.grequest.specs.Asked.{Asked, FetchAsked, Empty, Ls as LsAsked, Fetches}
use Rattle.glsreply.specs.LsReplies.{LsReply}
use Rattle.gfetchreply.specs.FetchReplies.{FetchReply}
use Rattle.gfetchreply.specs.Views.{IsReplyOf, reply_in}
use Rattle.ganswer.specs.FetchAnswers.{CanServe, FailsToPack, FetchAnswer, IsPackDue}
use Rattle.ganswer.specs.Servers.{Server}
use Rattle.ganswer.specs.LsAnswers.{LsAnswer}
use Rattle.ganswer.specs.declared.fault.ServeFault.{ServeFault}
use Rattle.ganswer.specs.declared.answer.Reply as value
use Rattle.ganswer.specs.declared.answer.Reply.TheVariants as values
use Rattle.ganswer.specs.declared.fault.ServeFault.TheVariants as serve

-- the content of a reply
pub data Reply : Type 0 where
  Nothing : Reply
  Ls : (reply : LsReply) → Reply
  Fetch : (reply : FetchReply) → Reply

abbrev pub reply_of : {A : Type 0} → value.Reply A → Reply
reply_of values.Nothing = Nothing
reply_of (values.Ls reply) = Ls reply
reply_of (values.Fetch reply) = Fetch (reply_in reply)

-- the acknowledged ids of a fetch reply have this object format, and the reply has the limits of the request
abbrev pub HasFormat : {A : Type 0} → Option Limits → Format → value.Reply A → Type 0
HasFormat limits format (values.Fetch reply) =
    (given : Limits) × (limits ≡ Some given) × IsReplyOf given format reply
HasFormat limits format _ = ⊤

-- this reply is an allowed answer of the server to the request
abbrev pub Answers : {A : Type 0} → Server A → Packs A → Asked → Reply → Type 0
Answers server packs Empty Nothing = ⊤
Answers server packs (LsAsked asked) (Ls reply) = LsAnswer server asked reply
Answers server packs (Fetches asked) (Fetch reply) = FetchAnswer server packs asked reply
Answers server packs asked reply = ⊥

-- the possible faults of a fetch request: no wants, the first want that the server does not hold, a fault of the
-- packer, or out of memory
abbrev pub FetchRefuses : {A : Type 0} → Server A → PackFails A → FetchAsked → ServeFault → Type 0
FetchRefuses server fails asked serve.NoWants = asked.wants ≡ []
FetchRefuses server fails asked (serve.NotOurs id) = IsFirstAbsent server.graph.entries asked.wants id
FetchRefuses server fails asked (serve.Pack cause) =
    CanServe server asked × IsPackDue server asked × FailsToPack server fails asked cause
FetchRefuses server fails asked serve.Memory = CanServe server asked
FetchRefuses server fails asked _ = ⊥

-- the possible faults of answering a request; the empty request never fails
abbrev pub Refuses : {A : Type 0} → Server A → PackFails A → Asked → ServeFault → Type 0
Refuses server fails Empty cause = ⊥
Refuses server fails (LsAsked asked) cause = cause ≡ serve.Memory
Refuses server fails (Fetches asked) cause = FetchRefuses server fails asked cause
