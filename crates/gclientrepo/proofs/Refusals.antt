-- A failed call leaves the repository unchanged.
use Rattle.std.proofs.Common.{◌≡◌, ℕ, List, Err}
use Rattle.gobject.specs.declared.node.Entry.{Entry}
use Rattle.gdag.specs.declared.fault.GraphFault.TheVariants as graph
use Rattle.grefs.specs.declared.fault.RefsFault.TheVariants as refs
use Rattle.gclientrepo.specs.Changes.{AddsLocal, SetsLocal, SettlesAsks}
use Rattle.gclientrepo.specs.Laws.{RefusalsChangeNothing}
use Rattle.gclientrepo.specs.Repos.{RepoState}
use Rattle.gclientrepo.specs.declared.ask.Ask.{Ask}
use Rattle.gclientrepo.specs.declared.fault.RepoFault.{RepoFault}
use Rattle.gclientrepo.specs.declared.fault.RepoFault.TheVariants.{UnconnectedId, NotConnected, MissingParent, Graph, Refs}

module _ {A : Type 0} where
  adding : (old new : RepoState A) (entry : Entry A) (fault : RepoFault A) → AddsLocal old entry new (Err fault) → new ≡ old
  adding old new entry (MissingParent id) is = is.0
  adding old new entry (Graph cause) is = is.0
  adding old new entry fault is = absurd is

  setting : (old new : RepoState A) (name id : List ℕ) (fault : RepoFault A) → SetsLocal old name id new (Err fault) → new ≡ old
  setting old new name id (UnconnectedId missing) is = is.0
  setting old new name id (Refs refs.Refs) is = is.0
  setting old new name id (Refs refs.Memory) is = is.0
  setting old new name id (Graph graph.Memory) is = is.0
  setting old new name id (Graph cause) is = absurd is
  setting old new name id fault is = absurd is

  settling : (old new : RepoState A) (asks : List (Ask A)) (fault : RepoFault A) → SettlesAsks old asks new (Err fault) → new ≡ old
  settling old new asks (NotConnected missing) is = is.0
  settling old new asks (Refs refs.Refs) is = is.0
  settling old new asks (Refs refs.Memory) is = is.0
  settling old new asks (Graph graph.Memory) is = is.0
  settling old new asks (Graph cause) is = absurd is
  settling old new asks fault is = absurd is

  pub refusals_change_nothing : RefusalsChangeNothing A
  refusals_change_nothing = record { adding = adding; setting = setting; settling = settling }
