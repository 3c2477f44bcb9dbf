-- The answer to a fetch request, before the objects to send are packed (gitprotocol-v2(5), "fetch").
use Rattle.std.specs.Prelude.{◌≡◌, true, false, []}
use Rattle.gdag.specs.Graphs.{IsFirstAbsent}
use Rattle.ggrammar.specs.declared.limits.Limits.{Limits}
use Rattle.grequest.specs.Asked.{FetchAsked, is_direct}
use Rattle.gfetchreply.specs.Values.{Acks}
use Rattle.ganswer.specs.FetchAnswers.{CanServe, IsReadyFor, IsSent, commons_of}
use Rattle.ganswer.specs.Servers.{Server}
use Rattle.ganswer.specs.declared.fault.ServeFault.{ServeFault}
use Rattle.ganswer.specs.declared.fault.ServeFault.TheVariants as serve
use Rattle.ganswer.specs.declared.fetch.BegunFetch.{BegunFetch}
use Rattle.ganswer.specs.declared.fetch.BegunFetch.TheVariants as begun

-- the acknowledgments of a reply: the common ids, with the limits of the request
abbrev pub acks_for : {A : Type 0} → Limits → Server A → FetchAsked → Acks
acks_for limits server asked =
    record { limits = limits; format = server.graph.format; ids = commons_of server asked }

-- the parts of the answer: the common ids to acknowledge, and the objects to send
abbrev pub BeginsWith : {A : Type 0} → Limits → Server A → FetchAsked → BegunFetch A → Type 0
BeginsWith limits server asked (begun.Pack list) = (is_direct asked ≡ true) × IsSent server asked list.items
BeginsWith limits server asked (begun.Ready commons list) =
    (is_direct asked ≡ false) × (commons ≡ acks_for limits server asked) × IsReadyFor server asked
    × IsSent server asked list.items
BeginsWith limits server asked (begun.Acks commons) =
    (is_direct asked ≡ false) × (commons ≡ acks_for limits server asked) × ¬ (IsReadyFor server asked)

-- the server holds all wants, and `fetch` is the answer, before packing, to a request with these limits
pub record BeginsFetch {A : Type 0} (limits : Limits) (server : Server A) (asked : FetchAsked)
    (fetch : BegunFetch A) : Type 0 where
  pub can : CanServe server asked
  pub begins : BeginsWith limits server asked fetch

-- the possible faults of a fetch request before packing: no wants, the first want that the server does not hold, or out
-- of memory
abbrev pub FetchDeclines : {A : Type 0} → Server A → FetchAsked → ServeFault → Type 0
FetchDeclines server asked serve.NoWants = asked.wants ≡ []
FetchDeclines server asked (serve.NotOurs id) = IsFirstAbsent server.graph.entries asked.wants id
FetchDeclines server asked serve.Memory = CanServe server asked
FetchDeclines server asked _ = ⊥
