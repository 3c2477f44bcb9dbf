-- The beginning of a world.
use Rattle.std.specs.Prelude.{◌≡◌, ◌≢◌, List, ◌∷◌, ◌++◌, All, Result, Ok, Err}
use Rattle.gname.specs.Ids.{Id}
use Rattle.gobject.specs.declared.node.Entry.{Entry}
use Rattle.gdag.specs.Laws.{AgreesWith}
use Rattle.gdag.specs.Reach.{Agree}
use Rattle.gclientrepo.specs.Repos.{RepoState}
use Rattle.ganswer.specs.Servers.{Server}
use Rattle.gworld.specs.Events.{Disagrees}
use Rattle.gworld.specs.Worlds.{WorldOf, new_world}
use Rattle.gworld.specs.declared.fault.WorldFault.{WorldFault}
use Rattle.gworld.specs.declared.fault.WorldFault.TheVariants as world

-- the first of the server's ids, in insertion order, under which the client holds a different object
pub record IsFirstDisagreement {A : Type 0} (server client : List (Entry A)) (id : Id) : Type 0 where
  pub front : List (Entry A)
  pub entry : Entry A
  pub back : List (Entry A)
  pub parts : server ≡ front ++ entry ∷ back
  pub agree : All (AgreesWith client) front
  pub disagrees : Disagrees client entry
  pub is : id ≡ entry.id

-- a server and a client's repository that can form a world: they have the same object format, and the same object for
-- each shared id
pub record CanStart {A : Type 0} (server : Server A) (repo : RepoState A) : Type 0 where
  pub format : repo.graph.format ≡ server.graph.format
  pub agree : Agree server.graph.entries repo.graph.entries

-- a reason why a server and a repository can't form a world: different object formats, or different objects under the
-- same id
abbrev pub CannotStart : {A : Type 0} → Server A → RepoState A → WorldFault → Type 0
CannotStart server repo world.TwoFormats = repo.graph.format ≢ server.graph.format
CannotStart server repo (world.Disagree id) =
    (repo.graph.format ≡ server.graph.format)
    × IsFirstDisagreement server.graph.entries repo.graph.entries id
CannotStart server repo (world.NotKept id) = ⊥

-- the result of making a world: a new world of exactly these parts, or the reason why they can't form a world
abbrev pub Starts : {A K : Type 0} → Server A → RepoState A → K → Result (WorldOf A K) WorldFault → Type 0
Starts server repo tools (Ok made) =
    (made ≡ record { tools = tools; world = new_world server repo }) × CanStart server repo
Starts server repo tools (Err fault) = CannotStart server repo fault
