-- The faults of connections, which are printed one after the other.
use Rattle.std.proofs.Common.{◌≡◌, ◌⊎◌, ℕ, Bool, true, false, List, [], ◌∷◌, ◌++◌, Option, Result, Ok, Err, inl, inr, sym, ap, subst, ◌∙◌, append_assoc}
use Rattle.std.proofs.lemmas.Bool.{false≢true}
use Rattle.std.proofs.lemmas.List.{append-nil, flat_map_more}
use Rattle.std.specs.Io.KnownBytes.{Appends}
use Rattle.std.specs.Prelude.{IsSome, is_ok}
use Rattle.gpkt.specs.Sending.{Output, output_of, IsUnwritten, Passes, Sends, SendsSome}
use Rattle.gpkt.proofs.SendingLemmas.{appends_join, passes_join, passes_still}
use Rattle.gpkt.specs.declared.device.Down.{Down}
use Rattle.gcmd.specs.Outputs.{IsSent}
use Rattle.gcmd.specs.Printing.{fault_line}
use Rattle.gcmd.specs.Programs.{ProgramOutcome}
use Rattle.gcmd.specs.declared.fault.ProgramFault.{ProgramFault}
use Rattle.gtcp.specs.steps.Remote.{PrintsSoFar, Tells}
use Rattle.gtcp.specs.Telling.{PrintsFaults, PrintsNone, fault_in, fault_lines, faults_of}

module _ {W : Type 0} (contents passed_on : W → Option (List ℕ)) (is_down : W → Bool) where
  -- if the sink failed after a prefix of `bytes`, this remains true while nothing more is written
  some_still : (a b c : W) (bytes : List ℕ) → SendsSome (output_of contents passed_on is_down a b) bytes
      → IsUnwritten (output_of contents passed_on is_down b c) → SendsSome (output_of contents passed_on is_down a c) bytes
  some_still a b c bytes some still = record {
    front = some.front;
    rest = some.rest;
    parts = some.parts;
    written = subst (λ (now : Option (List ℕ)). Appends (contents a) now some.front) (sym still.written) some.written;
    down = still.down ∙ some.down;
  }

-- if the sink failed after a prefix of `bytes`, it failed after a prefix of `bytes ++ more`
some_longer : (output : Output) (bytes more : List ℕ) → SendsSome output bytes → SendsSome output (bytes ++ more)
some_longer output bytes more some = record {
  front = some.front;
  rest = some.rest ++ more;
  parts = ap (λ (now : List ℕ). now ++ more) some.parts ∙ append_assoc some.front some.rest more;
  written = some.written;
  down = some.down;
}

-- trying to write and flush the line of a fault is an effect that `Tells` allows, if the sink worked before
pub tells_printed : {A : Type 0} (output : Output) (fault : ProgramFault A) (printed : Result (Unit {0}) Down) (could : Bool)
    → could ≡ true → IsSent output printed (fault_line fault) → Tells (Err fault) could (is_ok printed) output
tells_printed output fault printed false h sent = absurd (false≢true h)
tells_printed output fault (Ok done) true h sent = sent
tells_printed output fault (Err down) true h (inl at_write) = at_write.0
tells_printed output fault (Err down) true h (inr at_flush) = record {
  front = fault_line fault;
  rest = [];
  parts = sym (append-nil (fault_line fault));
  written = at_flush.written;
  down = at_flush.down;
}

module _ {A W : Type 0} (contents passed_on : W → Option (List ℕ)) (is_down : W → Bool) where
  -- ---- sinks to which nothing more is written

  none_still : (a b c : W) (faults : List (ProgramFault A)) → PrintsNone (output_of contents passed_on is_down a b) faults
      → IsUnwritten (output_of contents passed_on is_down b c) → PrintsNone (output_of contents passed_on is_down a c) faults
  none_still a b c faults none still = (
    none.0,
    record {
      written = still.written ∙ none.1.written;
      passed_on = still.passed_on ∙ none.1.passed_on;
      down = still.down ∙ none.1.down;
    },
  )

  up_still : (a b c : W) (faults : List (ProgramFault A))
      → PrintsNone (output_of contents passed_on is_down a b) faults ⊎ Passes (output_of contents passed_on is_down a b) (fault_lines faults)
      → IsUnwritten (output_of contents passed_on is_down b c)
      → PrintsNone (output_of contents passed_on is_down a c) faults ⊎ Passes (output_of contents passed_on is_down a c) (fault_lines faults)
  up_still a b c faults (inl none) still = inl (none_still a b c faults none still)
  up_still a b c faults (inr all) still = inr (passes_still contents passed_on is_down a b c (fault_lines faults) all still)

  -- ---- the line of one more fault

  lines_more : (faults : List (ProgramFault A)) (fault : ProgramFault A)
      → fault_lines faults ++ fault_line fault ≡ fault_lines (faults ++ fault ∷ [])
  lines_more faults fault = flat_map_more fault_line [] faults fault

  lines_first : (faults : List (ProgramFault A)) (fault : ProgramFault A) → faults ≡ []
      → fault_line fault ≡ fault_lines (faults ++ fault ∷ [])
  lines_first faults fault none =
      sym (ap (λ (fs : List (ProgramFault A)). fault_lines fs ++ fault_line fault) none) ∙ lines_more faults fault

  all_more : (a b c : W) (faults : List (ProgramFault A)) (fault : ProgramFault A)
      → PrintsNone (output_of contents passed_on is_down a b) faults ⊎ Passes (output_of contents passed_on is_down a b) (fault_lines faults)
      → Sends (output_of contents passed_on is_down b c) (fault_line fault)
      → Passes (output_of contents passed_on is_down a c) (fault_lines (faults ++ fault ∷ []))
  all_more a b c faults fault (inl none) next =
      subst (Passes (output_of contents passed_on is_down a c)) (lines_first faults fault none.0)
      (record {
        written = subst (λ (old : Option (List ℕ)). Appends old (contents c) (fault_line fault)) none.1.written next.written;
        passed_on = λ known passed. next.passed_on (subst IsSome (sym none.1.passed_on) passed);
        up = next.up;
      })
  all_more a b c faults fault (inr all) next =
      subst (Passes (output_of contents passed_on is_down a c)) (lines_more faults fault)
      (passes_join contents passed_on is_down a b c (fault_lines faults) (fault_line fault) all
      (record { written = next.written; passed_on = λ known. next.passed_on; up = next.up }))

  some_more : (a b c : W) (faults : List (ProgramFault A)) (fault : ProgramFault A)
      → PrintsNone (output_of contents passed_on is_down a b) faults ⊎ Passes (output_of contents passed_on is_down a b) (fault_lines faults)
      → SendsSome (output_of contents passed_on is_down b c) (fault_line fault)
      → SendsSome (output_of contents passed_on is_down a c) (fault_lines (faults ++ fault ∷ []))
  some_more a b c faults fault (inl none) next =
      subst (SendsSome (output_of contents passed_on is_down a c)) (lines_first faults fault none.0)
      (record {
        front = next.front;
        rest = next.rest;
        parts = next.parts;
        written = subst (λ (old : Option (List ℕ)). Appends old (contents c) next.front) none.1.written next.written;
        down = next.down;
      })
  some_more a b c faults fault (inr all) next =
      subst (SendsSome (output_of contents passed_on is_down a c)) (lines_more faults fault)
      (record {
        front = fault_lines faults ++ next.front;
        rest = next.rest;
        parts =
            ap (λ (line : List ℕ). fault_lines faults ++ line) next.parts
            ∙ sym (append_assoc (fault_lines faults) next.front next.rest);
        written = appends_join (contents a) (contents b) (contents c) (fault_lines faults) next.front all.written next.written;
        down = next.down;
      })

  -- ---- the outcome of one more connection

  still_so : (a b c : W) (faults : List (ProgramFault A)) (is_up : Bool)
      → PrintsSoFar (output_of contents passed_on is_down a b) faults is_up
      → IsUnwritten (output_of contents passed_on is_down b c)
      → PrintsSoFar (output_of contents passed_on is_down a c) faults is_up
  still_so a b c faults true so_far still = up_still a b c faults so_far still
  still_so a b c faults false so_far still =
      some_still contents passed_on is_down a b c (fault_lines faults) so_far still

  prints_next : (a b c : W) (faults : List (ProgramFault A)) (outcome : ProgramOutcome A) (could can : Bool)
      → PrintsSoFar (output_of contents passed_on is_down a b) faults could
      → Tells outcome could can (output_of contents passed_on is_down b c)
      → PrintsSoFar (output_of contents passed_on is_down a c) (faults ++ fault_in outcome) can
  prints_next a b c faults (Ok done) could can so_far (still, same) =
      subst (λ (all : List (ProgramFault A)). PrintsSoFar (output_of contents passed_on is_down a c) all can)
      (sym (append-nil faults))
      (subst (PrintsSoFar (output_of contents passed_on is_down a c) faults) (sym same)
      (still_so a b c faults could so_far still))
  prints_next a b c faults (Err fault) false can so_far (still, same) =
      subst (PrintsSoFar (output_of contents passed_on is_down a c) (faults ++ fault ∷ [])) (sym same)
      (subst (SendsSome (output_of contents passed_on is_down a c)) (lines_more faults fault)
      (some_longer (output_of contents passed_on is_down a c) (fault_lines faults) (fault_line fault)
      (some_still contents passed_on is_down a b c (fault_lines faults) so_far still)))
  prints_next a b c faults (Err fault) true true so_far next = inr (all_more a b c faults fault so_far next)
  prints_next a b c faults (Err fault) true false so_far next = some_more a b c faults fault so_far next

  -- the printed faults of several connections, and of one more
  pub tells_next : (a b c : W) (outcomes : List (ProgramOutcome A)) (outcome : ProgramOutcome A) (could can : Bool)
      → PrintsSoFar (output_of contents passed_on is_down a b) (faults_of outcomes) could
      → Tells outcome could can (output_of contents passed_on is_down b c)
      → PrintsSoFar (output_of contents passed_on is_down a c) (faults_of (outcomes ++ outcome ∷ [])) can
  tells_next a b c outcomes outcome could can so_far next =
      subst (λ (all : List (ProgramFault A)). PrintsSoFar (output_of contents passed_on is_down a c) all can)
      (flat_map_more fault_in [] outcomes outcome)
      (prints_next a b c (faults_of outcomes) outcome could can so_far next)

-- ---- the faults of all connections

pub tells_all : {A : Type 0} (output : Output) (faults : List (ProgramFault A)) (is_up : Bool)
    → PrintsSoFar output faults is_up → PrintsFaults output faults
tells_all output faults true (inl none) = inl none
tells_all output faults true (inr all) = inr (inl all)
tells_all output faults false some = inr (inr some)
