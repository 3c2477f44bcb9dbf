-- The result of a fetch between two ends.
use Rattle.std.proofs.Common.{◌≡◌, ◌∙◌, Bool, true, false, [], Option, Result, Ok, Err, IfOk, inl, inr, refl, sym, ap, subst, append-nil}
use Rattle.gpkt.specs.Packets.{Bytes}
use Rattle.gpkt.specs.Sending.{Input, Output, Passes, output_of}
use Rattle.gdag.specs.Reach.{Grows}
use Rattle.gobject.specs.Packs.{Indexes, IndexFails}
use Rattle.ghello.specs.Hello.{Hello}
use Rattle.gclientrepo.specs.Repos.{RepoState}
use Rattle.gclientrepo.specs.Settling.{Settles}
use Rattle.gfetch.specs.Conversations.{FetchesOver}
use Rattle.gfetch.specs.Starts.{Start}
use Rattle.gfetch.specs.declared.fault.FetchFault.{FetchFault}
use Rattle.gfetch.specs.declared.fault.FetchFault.TheVariants as fetch
use Rattle.gfetch.specs.declared.fetched.Fetched.{Fetched}
use Rattle.gfetch.proofs.KeptLemmas.{over_grows, over_settles}
use Rattle.gclient.specs.Greetings.{CannotGreet, hello_bytes, tail_of}
use Rattle.gpair.specs.Pairs.{FetchesBetween, FetchesSo, IsPairFault}
use Rattle.gpair.specs.declared.fault.PairFault.{PairFault}
use Rattle.gpair.specs.declared.fault.PairFault.TheVariants as pair

grows_same : {A : Type 0} (old new : RepoState A) → new ≡ old → Grows old.graph.entries new.graph.entries
grows_same old new same = ([], ap (λ r. r.graph.entries) same ∙ sym (append-nil old.graph.entries))

module _ {A : Type 0} (indexes : Indexes A) (index_fails : IndexFails) (start : Start A) (hello : Hello) (new : RepoState A) where
  -- the client writes and flushes the first line, and then fetches
  pub greeted : {W : Type 0} (contents passed_on : W → Option Bytes) (is_down : W → Bool) (first mid last : W) (input : Input)
      (result : Result (Fetched A) (FetchFault A)) → Passes (output_of contents passed_on is_down first mid) (hello_bytes hello)
      → FetchesOver indexes index_fails start input (output_of contents passed_on is_down mid last) new result
      → FetchesSo indexes index_fails start hello new result
  greeted contents passed_on is_down first mid last input result passes fetches = record {
    input = input;
    output = output_of contents passed_on is_down first last;
    fetches = inl (record {
      written = contents mid;
      passed = passed_on mid;
      greets = record { written = passes.written; passed_on = passes.passed_on; up = refl };
      rest = subst (λ (was : Bool). FetchesOver indexes index_fails start input (record (output_of contents passed_on is_down mid last) { was_down = was }) new result)
          passes.up fetches;
    });
  }

  -- the client can't send the first line
  pub not_greeted : (input : Input) (output : Output) → CannotGreet hello input output → new ≡ start.repo
      → FetchesSo indexes index_fails start hello new (Err fetch.WriteFailed)
  not_greeted input output fails same = record { input = input; output = output; fetches = inr (fails, refl, same) }

  -- if the client's fetch fails, the fetch between two ends fails with the fault that `IsPairFault` gives
  pub pair_fails : (cause : FetchFault A) (too_long lacks_memory : Bool) (fault : PairFault A)
      → IsPairFault cause too_long lacks_memory fault → FetchesSo indexes index_fails start hello new (Err cause)
      → FetchesBetween indexes index_fails start hello new (Err fault)
  pair_fails cause true lacks_memory fault is fails =
      subst (λ (met : PairFault A). FetchesBetween indexes index_fails start hello new (Err met)) (sym is) (cause, fails)
  pair_fails cause false true fault is fails =
      subst (λ (met : PairFault A). FetchesBetween indexes index_fails start hello new (Err met)) (sym is) (inl (cause, fails))
  pair_fails cause false false fault is fails =
      subst (λ (met : PairFault A). FetchesBetween indexes index_fails start hello new (Err met)) (sym is) fails

  so_settles : (fetched : Fetched A) → FetchesSo indexes index_fails start hello new (Ok fetched)
      → Settles new.graph.entries start.repo.refs fetched.settled.asks fetched.settled.updates.items new.refs
  so_settles fetched f =
      elim f.fetches as (λ _. Settles new.graph.entries start.repo.refs fetched.settled.asks fetched.settled.updates.items new.refs) [
        | inl h ↦ over_settles indexes index_fails start f.input (tail_of f.output h.written h.passed) new (Ok fetched) h.rest
        | inr n ↦ let is = n.1 in absurd (cc is)
      ]

  so_grows : (result : Result (Fetched A) (FetchFault A)) → FetchesSo indexes index_fails start hello new result
      → Grows start.repo.graph.entries new.graph.entries
  so_grows result f =
      elim f.fetches as (λ _. Grows start.repo.graph.entries new.graph.entries) [
        | inl h ↦ over_grows indexes index_fails start f.input (tail_of f.output h.written h.passed) new result h.rest
        | inr n ↦ grows_same start.repo new n.2
      ]

  -- the refs after a fetch that succeeds
  pub between_settles : (result : Result (Fetched A) (PairFault A)) → FetchesBetween indexes index_fails start hello new result
      → IfOk result (λ fetched. Settles new.graph.entries start.repo.refs fetched.settled.asks fetched.settled.updates.items new.refs)
  between_settles (Ok fetched) f = so_settles fetched f
  between_settles (Err fault) f = tt

  -- the graph only grows
  pub between_grows : (result : Result (Fetched A) (PairFault A)) → FetchesBetween indexes index_fails start hello new result
      → Grows start.repo.graph.entries new.graph.entries
  between_grows (Ok fetched) f = so_grows (Ok fetched) f
  between_grows (Err (pair.Fetch fault)) f = so_grows (Err fault) f
  between_grows (Err pair.TooLong) f = so_grows (Err f.0) f.1
  between_grows (Err pair.Memory) (inl f) = so_grows (Err f.0) f.1
  between_grows (Err pair.Memory) (inr same) = grows_same start.repo new same
