-- Connections that are served one after the other.
use Rattle.std.proofs.Common.{◌≡◌, ℕ, ◌+◌, ◌<◌, Bool, true, false, List, [], ◌∷◌, ◌++◌, Option, None, Ok, Err, inl, refl, ◌∙◌, ap, subst, arith}
use Rattle.std.proofs.lemmas.List.{length-append}
use Rattle.std.proofs.lemmas.List.Elements.{All-append, All-from_recursion}
use Rattle.gobject.specs.Packs.{PackFails, Packs}
use Rattle.ggrammar.specs.declared.ends.Ends.{Ends}
use Rattle.gpkt.specs.Change.{Change}
use Rattle.gpkt.specs.Sending.{Input, Output, output_of}
use Rattle.ganswer.specs.Servers.{Server}
use Rattle.gserver.specs.GitConnections.{ServesGit}
use Rattle.gserver.specs.declared.git_transport.GitEnd.{GitEnd}
use Rattle.gcmd.specs.Programs.{ProgramOutcome}
use Rattle.gcmd.specs.declared.fault.ProgramFault.TheVariants as program
use Rattle.gtcp.specs.Sockets.{IsServed, ServesEach}
use Rattle.gtcp.specs.steps.Sockets.{ServesBetween, input_by, output_by}
use Rattle.gtcp.specs.steps.Remote.{ServesSoFar, Tells}
use Rattle.gtcp.proofs.TellingLemmas.{tells_all, tells_next}

module _ {A : Type 0} (server : Server A) (packs : Packs A) (fails : PackFails A) (path : List ℕ) (ends : Ends) where
  -- serving over a source and a sink that have not failed before counts as serving over a reader and a writer
  pub serves_between : (read written : Change) (input : Input) (output : Output) (ended : GitEnd) → input.read ≡ read
      → output.written ≡ written → output.passed_on ≡ record { old = None; new = None } → input.was_down ≡ false
      → output.was_down ≡ false → ServesGit server packs fails path ends input output ended
      → ServesBetween server packs fails path ends read written ended
  serves_between read written input output ended same_read same_written unknown well up serves =
      let same_input : input ≡ input_by read input.is_down =
      ap (λ (change : Change). record input { read = change }) same_read
      ∙ ap (λ (was : Bool). record { read = read; was_down = was; is_down = input.is_down }) well in
      let same_output : output ≡ output_by written output.is_down =
      ap (λ (change : Change). record output { written = change }) same_written
      ∙ ap (λ (change : Change). record output { written = written; passed_on = change }) unknown
      ∙ ap (λ (was : Bool). record (output_by written output.is_down) { was_down = was }) up in (
        input.is_down,
        output.is_down,
        subst (λ (i : Input). ServesGit server packs fails path ends i (output_by written output.is_down) ended) same_input
            (subst (λ (o : Output). ServesGit server packs fails path ends input o ended) same_output serves),
      )

module _ {A W : Type 0} (contents passed_on : W → Option (List ℕ)) (is_down : W → Bool) (server : Server A)
    (packs : Packs A) (fails : PackFails A) (path : List ℕ) (ends : Ends)
  where
    -- no connection has been served yet
    pub serves_none : (a : W) → ServesSoFar server packs fails path ends (output_of contents passed_on is_down a a) true 0
    serves_none a = record {
      outcomes = [];
      each = All-from_recursion (IsServed server packs fails path ends) [] tt;
      prints = inl (refl, record { written = refl; passed_on = refl; down = refl });
      count = refl;
    }

    -- one more connection is served
    pub serves_next : (a b c : W) (outcome : ProgramOutcome A) (could can : Bool) (count : ℕ)
        → ServesSoFar server packs fails path ends (output_of contents passed_on is_down a b) could count
        → IsServed server packs fails path ends outcome
        → Tells outcome could can (output_of contents passed_on is_down b c)
        → ServesSoFar server packs fails path ends (output_of contents passed_on is_down a c) can (count + 1)
    serves_next a b c outcome could can count so_far served told = record {
      outcomes = so_far.outcomes ++ outcome ∷ [];
      each =
          All-append (IsServed server packs fails path ends) so_far.outcomes (outcome ∷ []) so_far.each
          (All-from_recursion (IsServed server packs fails path ends) (outcome ∷ []) (served, tt));
      prints = tells_next contents passed_on is_down a b c so_far.outcomes outcome could can so_far.prints told;
      count = length-append so_far.outcomes (outcome ∷ []) ∙ ap (λ (n : ℕ). n + 1) so_far.count;
    }

    -- all connections are served
    pub serves_all : (a b : W) (is_up : Bool) (number connections : ℕ)
        → ServesSoFar server packs fails path ends (output_of contents passed_on is_down a b) is_up number
        → number ≡ connections
        → ServesEach server packs fails path ends (output_of contents passed_on is_down a b) connections (Ok tt)
    serves_all a b is_up number connections so_far same = record {
      outcomes = so_far.outcomes;
      each = so_far.each;
      prints = tells_all (output_of contents passed_on is_down a b) _ is_up so_far.prints;
      count = so_far.count ∙ same;
    }

    -- fewer connections are served, because one of them can't be accepted
    pub serves_fewer : (a b : W) (is_up : Bool) (number connections : ℕ)
        → ServesSoFar server packs fails path ends (output_of contents passed_on is_down a b) is_up number
        → number < connections
        → ServesEach server packs fails path ends (output_of contents passed_on is_down a b) connections
        (Err program.Socket)
    serves_fewer a b is_up number connections so_far fewer = record {
      outcomes = so_far.outcomes;
      each = so_far.each;
      prints = tells_all (output_of contents passed_on is_down a b) _ is_up so_far.prints;
      count = (refl, omega (arith, so_far.count, fewer));
    }
