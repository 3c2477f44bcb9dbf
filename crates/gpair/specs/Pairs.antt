-- A fetch from a server in this process.
use Rattle.std.specs.Prelude.{◌≡◌, ◌⊎◌, Bool, true, false, Result, Ok, Err}
use Rattle.gpkt.specs.Sending.{Input, Output}
use Rattle.ghello.specs.Hello.{Hello}
use Rattle.gobject.specs.Packs.{Indexes, IndexFails}
use Rattle.gclientrepo.specs.Repos.{RepoState}
use Rattle.gfetch.specs.Starts.{Start}
use Rattle.gfetch.specs.declared.fault.FetchFault.{FetchFault}
use Rattle.gfetch.specs.declared.fetched.Fetched.{Fetched}
use Rattle.gclient.specs.GitFetches.{FetchesGit}
use Rattle.gpair.specs.declared.fault.PairFault.{PairFault}
use Rattle.gpair.specs.declared.fault.PairFault.TheVariants as pair

module _ {A : Type 0} (indexes : Indexes A) (index_fails : IndexFails) (start : Start A) (hello : Hello)
    (new : RepoState A) where
  -- the client's conversation over some input and some output
  pub record FetchesSo (result : Result (Fetched A) (FetchFault A)) : Type 0 where
    pub input : Input
    pub output : Output
    pub fetches : FetchesGit indexes index_fails start hello input output new result

  -- the client's conversation failed
  abbrev pub FailsSo : Type 0
  FailsSo = (cause : FetchFault A) × FetchesSo (Err cause)

  -- The result of a fetch between two ends: the result of the client's conversation. The conversation failed if a
  -- message was too long or memory for a message ran out. If memory for the server's buffers ran out, the repository is
  -- unchanged.
  abbrev pub FetchesBetween : Result (Fetched A) (PairFault A) → Type 0
  FetchesBetween (Ok fetched) = FetchesSo (Ok fetched)
  FetchesBetween (Err (pair.Fetch fault)) = FetchesSo (Err fault)
  FetchesBetween (Err pair.TooLong) = FailsSo
  FetchesBetween (Err pair.Memory) = FailsSo ⊎ (new ≡ start.repo)

-- the reason why client and server stopped: a message was too long, memory for a message ran out, or the client failed
-- for another reason
abbrev pub IsPairFault : {A : Type 0} → FetchFault A → Bool → Bool → PairFault A → Type 0
IsPairFault cause true lacks_memory fault = fault ≡ pair.TooLong
IsPairFault cause false true fault = fault ≡ pair.Memory
IsPairFault cause false false fault = fault ≡ pair.Fetch cause
