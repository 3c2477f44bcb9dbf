-- The contract of a simulation, proved from the contracts of its steps.
use Rattle.std.proofs.Common.{◌≡◌, List, Err, inl, inr, refl, sym, ap, subst}
use Rattle.gpkt.specs.Sending.{Output, IsUnwritten}
use Rattle.grefs.specs.RefLists.{RefList}
use Rattle.gscenario.specs.declared.event.Event.{Event}
use Rattle.gworld.specs.Promises.{Promises}
use Rattle.gworld.specs.Runs.{RunWith}
use Rattle.gworld.specs.Worlds.{WorldOf, WorldState, new_world}
use Rattle.gworld.specs.declared.outcome.Outcome.{Outcome}
use Rattle.gsimulate.specs.Lines.{simulated_text}
use Rattle.gsimulate.specs.steps.Simulating.{BeginsWith}
use Rattle.gsimulate.specs.Simulating.{CannotBegin, Ending, IsStopped, Shows, Simulates, StopsBefore, plain_tools}
use Rattle.gsimulate.specs.declared.fault.SimulationFault.{SimulationFault}
use Rattle.gsimulate.specs.declared.fault.SimulationFault.TheVariants as faults
use Rattle.gsimulate.specs.declared.simulate.Simulation.{Simulation}

-- `Shows` carries over to equal outcomes and equal refs
pub shows_same : {A : Type 0} (outcomes shown : List Outcome) (refs at : RefList) (output : Output) (ending : Ending A) → shown ≡ outcomes
    → at ≡ refs → Shows (simulated_text shown at) output ending → Shows (simulated_text outcomes refs) output ending
shows_same outcomes shown refs at output ending same stand h =
    subst (λ (these : RefList). Shows (simulated_text outcomes these) output ending) stand
    (subst (λ (these : List Outcome). Shows (simulated_text these at) output ending) same h)

-- equal values of `WorldOf` have the same world state
pub same_world : {A K : Type 0} (made other : WorldOf A K) → made ≡ other → made.world ≡ other.world
same_world {A} {K} made other same = ap (λ (it : WorldOf A K). it.world) same

stops_before : {A : Type 0} (files : Simulation) (fault : SimulationFault A) → CannotBegin files fault → StopsBefore files fault
stops_before files (faults.Program fault) h = h
stops_before files (faults.Scenario fault) h = h
stops_before files (faults.World fault) h = h
stops_before files faults.Memory h = absurd h

module _ {A : Type 0} (files : Simulation) (output : Output) where
  -- a simulation that ends with a fault before its first event
  pub not_begun : (fault cause : SimulationFault A) → CannotBegin files cause → fault ≡ cause → IsUnwritten output
      → Simulates files output (Err fault)
  not_begun fault cause cannot same unwritten = inr (record {
    fault = fault;
    stops = stops_before files fault (subst (CannotBegin files) (sym same) cannot);
    met = refl;
    unwritten = unwritten;
  })

  module _ {K : Type 0} (begun : WorldOf A K) (events : List (Event A)) (begins : BeginsWith files begun events) where
    -- a simulation whose events all happened
    pub is_simulated : (outcomes : List Outcome) (new : WorldState A) (ending : Ending A)
        → RunWith (Promises (plain_tools A)) begun.world events outcomes new
        → Shows (simulated_text outcomes new.repo.refs) output ending → Simulates files output ending
    is_simulated outcomes new ending run shows = inl (record {
      server = begins.server;
      repo = begins.repo;
      events = begins.events;
      names = begins.names;
      opens = begins.opens;
      reads = begins.reads;
      so = (
        begins.so.0,
        record {
          outcomes = outcomes;
          new = new;
          run =
              subst (λ (happening : List (Event A)). RunWith (Promises (plain_tools A)) (new_world begins.server begins.repo) happening outcomes new) begins.so.1.1
              (subst (λ (world : WorldState A). RunWith (Promises (plain_tools A)) world events outcomes new) begins.so.1.0 run);
          shows = shows;
        },
      );
    })

    -- a simulation that ran out of memory before an event
    pub is_stopped : IsStopped begun.world events → IsUnwritten output
        → Simulates {A = A} files output (Err faults.Memory)
    is_stopped stopped unwritten = inr (record {
      fault = faults.Memory;
      stops = record {
        server = begins.server;
        repo = begins.repo;
        events = begins.events;
        names = begins.names;
        opens = begins.opens;
        reads = begins.reads;
        so = (
          begins.so.0,
          subst (IsStopped (new_world begins.server begins.repo)) begins.so.1.1
              (subst (λ (world : WorldState A). IsStopped world events) begins.so.1.0 stopped),
        );
      };
      met = refl;
      unwritten = unwritten;
    })
