-- The fetch of a pair's client, and the faults of a pair.
use Rattle.std.proofs.Common.{◌≡◌, ℕ, List, Result, Ok, Err, inl, inr, subst}
use Rattle.ggrammar.specs.declared.ends.Ends.TheVariants.{Plain}
use Rattle.ghello.specs.Hello.{Hello, IsHello}
use Rattle.gfetchreply.specs.Values.{default_limit}
use Rattle.grefs.specs.Refspecs.{Refspec}
use Rattle.gclientrepo.specs.Repos.{RepoState}
use Rattle.gsession.specs.declared.options.PackOptions.{PackOptions}
use Rattle.gsession.specs.Sessions.{no_options}
use Rattle.gfetch.specs.Starts.{start_for, start_of}
use Rattle.gfetch.specs.declared.fault.FetchFault.{FetchFault}
use Rattle.gfetch.specs.declared.fetched.Fetched.{Fetched}
use Rattle.gcmd.specs.Fetching.{plain_index_fails, plain_indexes}
use Rattle.gpair.specs.Pairs.{FetchesBetween, FetchesSo}
use Rattle.gpair.specs.declared.fault.PairFault.{PairFault}
use Rattle.gpair.specs.declared.fault.PairFault.TheVariants as pair
use Rattle.gtcp.specs.Remote.{FetchesAsClient, FetchesInPair, pair_hello}
use Rattle.gtcp.specs.steps.Remote.{program_fault_of}

module _ {A : Type 0} (old : RepoState A) (specs : List Refspec) (new : RepoState A) where
  -- the client's conversation with the default limit, the default options and the first line of a pair
  abbrev Between : Result (Fetched A) (PairFault A) → Type 0
  Between result = FetchesBetween plain_indexes (plain_index_fails A) (start_of old specs default_limit Plain) pair_hello new result

  fetched_so : (result : Result (Fetched A) (FetchFault A)) → IsHello pair_hello
      → FetchesSo plain_indexes (plain_index_fails A) (start_of old specs default_limit Plain) pair_hello new result
      → FetchesAsClient old specs new result
  fetched_so result form so = inl (form, inl so)

  pub fetched_between : (limit : ℕ) (options : PackOptions) (hello : Hello) (result : Result (Fetched A) (PairFault A)) → limit ≡ default_limit → options ≡ no_options
      → hello ≡ pair_hello → FetchesBetween plain_indexes (plain_index_fails A) (start_for old specs limit Plain options) hello new result → Between result
  fetched_between limit options hello result l o h fetches =
      subst (λ (x : Hello). FetchesBetween plain_indexes (plain_index_fails A) (start_of old specs default_limit Plain) x new result) h
      (subst (λ (x : PackOptions). FetchesBetween plain_indexes (plain_index_fails A) (start_for old specs default_limit Plain x) hello new result) o
      (subst (λ (x : ℕ). FetchesBetween plain_indexes (plain_index_fails A) (start_for old specs x Plain options) hello new result) l fetches))

  -- the fetch succeeds
  pub pair_fetches : (fetched : Fetched A) → IsHello pair_hello → Between (Ok fetched) → FetchesInPair old specs new (Ok fetched)
  pair_fetches fetched form so = fetched_so (Ok fetched) form so

  -- the fetch fails
  pub pair_fails : (fault : PairFault A) → IsHello pair_hello → Between (Err fault) → FetchesInPair old specs new (Err (program_fault_of fault))
  pair_fails (pair.Fetch cause) form so = fetched_so (Err cause) form so
  pair_fails pair.TooLong form so = (so.0, fetched_so (Err so.0) form so.1)
  pair_fails pair.Memory form (inl so) = inl (so.0, fetched_so (Err so.0) form so.1)
  pair_fails pair.Memory form (inr same) = inr same
