-- Settling: the update of the local refs at the end of a session. Git's manuals do not say when a client may settle.
use Rattle.std.specs.Prelude.{◌≡◌, ◌≢◌, List, [], Result, Ok, Err}
use Rattle.gclientrepo.specs.declared.ask.Ask.{Ask}
use Rattle.gclientrepo.specs.declared.ask.RefUpdate.{RefUpdate}
use Rattle.gclientrepo.specs.Changes.{SettlesAsks}
use Rattle.gclientrepo.specs.Repos.{RepoState}
use Rattle.gsession.specs.Sessions.{SessionState, over}
use Rattle.gsession.specs.declared.stage.Stage.TheVariants.{Settling}
use Rattle.gsession.specs.declared.fault.ClientFault.{ClientFault}
use Rattle.gsession.specs.declared.fault.ClientFault.TheVariants.{NoOpenRequest, Repo}

-- the result of settling: the requested updates and their outcomes, a fault that ends the session, or `NoOpenRequest`
-- if the session can't settle yet
abbrev pub SettlesSession : {A : Type 0} → SessionState A → RepoState A → SessionState A → RepoState A
    → Result (List (Ask A) × List RefUpdate) (ClientFault A) → Type 0
SettlesSession old repo_old new repo_new (Ok settled) =
    (old.stage ≡ Settling) × (settled.0 ≡ old.asks) × (new ≡ record (over old) { asks = [] })
    × SettlesAsks repo_old old.asks repo_new (Ok settled.1)
SettlesSession old repo_old new repo_new (Err (Repo fault)) =
    (old.stage ≡ Settling) × (new ≡ over old) × SettlesAsks repo_old old.asks repo_new (Err fault)
SettlesSession old repo_old new repo_new (Err NoOpenRequest) =
    (old.stage ≢ Settling) × (new ≡ old) × (repo_new ≡ repo_old)
SettlesSession old repo_old new repo_new (Err _) = ⊥
