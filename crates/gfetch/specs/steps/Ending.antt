-- The update of the local refs after a client's dialogue.
use Rattle.std.specs.Prelude.{◌≡◌, Option, Result, Ok, Err}
use Rattle.gname.specs.Names.{Name}
use Rattle.gclientrepo.specs.Changes.{SettlesAsks}
use Rattle.gclientrepo.specs.Repos.{RepoState}
use Rattle.gsession.specs.Sessions.{SessionState}
use Rattle.gsession.specs.declared.fault.ClientFault.TheVariants as client
use Rattle.gfetch.specs.declared.fault.FetchFault.{FetchFault}
use Rattle.gfetch.specs.declared.fault.FetchFault.TheVariants as fetch
use Rattle.gfetch.specs.declared.fetched.Fetched.{Fetched}

-- the result of updating the local refs after the conversation
abbrev pub SettlesFetch : {A : Type 0} → SessionState A → RepoState A → Option Name → RepoState A
    → Result (Fetched A) (FetchFault A) → Type 0
SettlesFetch session old unborn new (Ok fetched) =
    (fetched.settled.asks ≡ session.asks) × SettlesAsks old session.asks new (Ok fetched.settled.updates.items)
    × (fetched.requests ≡ session.rounds) × (fetched.unborn ≡ unborn)
SettlesFetch session old unborn new (Err (fetch.Client (client.Repo cause))) =
    SettlesAsks old session.asks new (Err cause)
SettlesFetch session old unborn new (Err _) = ⊥
