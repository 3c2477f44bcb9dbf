-- Texts that grow by one line at a time, and the printed lines of faults.
use Rattle.std.proofs.Common.{◌≡◌, ℕ, ◌+◌, ◌≤◌, ◌<◌, List, [], ◌∷◌, ◌++◌, length, take, get_or, codes, sym, ap, subst, ◌∙◌}
use Rattle.std.proofs.lemmas.List.{flat_map_more, take_all, take_more}
use Rattle.std.specs.List.{flat_map}
use Rattle.gpkt.specs.Sending.{Output}
use Rattle.gcmd.specs.Programs.{Prints}
use Rattle.gscenario.specs.declared.fault.ScenarioFault.{ScenarioFault}
use Rattle.gscenario.specs.declared.fault.ScenarioFault.TheVariants as scenario
use Rattle.gworld.specs.declared.fault.WorldFault.{WorldFault}
use Rattle.gworld.specs.declared.fault.WorldFault.TheVariants as world
use Rattle.gsimulate.specs.Faults.{disagreement, scenario_line, simulation_fault_line, unkept, world_line, wrong_line}
use Rattle.gsimulate.specs.declared.fault.SimulationFault.{SimulationFault}

module _ {X : Type 0} (line : X → List ℕ) (xs : List X) (place : ℕ) where
  pub lines_more : (x : X) (first old new : List ℕ) → place < length xs → x ≡ get_or xs place x
      → old ≡ first ++ flat_map line (take place xs) → new ≡ old ++ line x
      → new ≡ first ++ flat_map line (take (place + 1) xs)
  lines_more x first old new inside is so_far put =
      let next : take (place + 1) xs ≡ take place xs ++ x ∷ [] =
      take_more xs place x inside ∙ sym (ap (λ (y : X). take place xs ++ y ∷ []) is) in
      put
      ∙ ap (λ (text : List ℕ). text ++ line x) so_far
      ∙ flat_map_more line first (take place xs) x
      ∙ sym (ap (λ (shown : List X). first ++ flat_map line shown) next)

  pub lines_all : (first now : List ℕ) → length xs ≤ place → now ≡ first ++ flat_map line (take place xs)
      → now ≡ first ++ flat_map line xs
  lines_all first now past so_far = so_far ∙ ap (λ (shown : List X). first ++ flat_map line shown) (take_all place xs past)

-- ---- faults

-- if `fault` is about a malformed line of the scenario, and the text for this malformed line is printed, then the text
-- for `fault` is printed
pub prints_scenario : (errors : Output) (fault : ScenarioFault) (line : ℕ) → fault ≡ scenario.Scenario line → Prints errors (wrong_line line)
    → Prints errors (scenario_line fault)
prints_scenario errors fault line same h = subst (λ (f : ScenarioFault). Prints errors (scenario_line f)) (sym same) h

-- if `fault` is `Memory` and the line for `Memory` is printed, then the line for `fault` is printed
pub prints_no_memory : (errors : Output) (fault : ScenarioFault) → fault ≡ scenario.Memory → Prints errors (codes "gitv2: fault 91 Memory\n")
    → Prints errors (scenario_line fault)
prints_no_memory errors fault same h = subst (λ (f : ScenarioFault). Prints errors (scenario_line f)) (sym same) h

-- if `fault` is a disagreement about `id` and this disagreement is reported, then `fault` is reported
pub prints_disagreement : (errors : Output) (fault : WorldFault) (id : List ℕ) → fault ≡ world.Disagree id → Prints errors (disagreement id)
    → Prints errors (world_line fault)
prints_disagreement errors fault id same h = subst (λ (f : WorldFault). Prints errors (world_line f)) (sym same) h

-- if `fault` is about an id that is not kept and this id is reported, then `fault` is reported
pub prints_unkept : (errors : Output) (fault : WorldFault) (id : List ℕ) → fault ≡ world.NotKept id → Prints errors (unkept id)
    → Prints errors (world_line fault)
prints_unkept errors fault id same h = subst (λ (f : WorldFault). Prints errors (world_line f)) (sym same) h

-- if `fault` is a difference in object formats and the line for two formats is printed, then `fault` is reported
pub prints_two_formats : (errors : Output) (fault : WorldFault) → fault ≡ world.TwoFormats → Prints errors (codes "gitv2: fault 97 TwoFormats\n")
    → Prints errors (world_line fault)
prints_two_formats errors fault same h = subst (λ (f : WorldFault). Prints errors (world_line f)) (sym same) h

module _ {A : Type 0} (errors : Output) (fault : SimulationFault A) where
  -- if the line for a fault equal to `fault` is printed, then the line for `fault` is printed
  pub prints_fault : (same : SimulationFault A) → fault ≡ same → Prints errors (simulation_fault_line same) → Prints errors (simulation_fault_line fault)
  prints_fault other same h = subst (λ (f : SimulationFault A). Prints errors (simulation_fault_line f)) (sym same) h
