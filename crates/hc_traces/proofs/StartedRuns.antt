-- Runs from initial states.
use Rattle.std.proofs.Common.{◌≡◌, ℕ, List, subst}
use Rattle.std.specs.Prelude.{Option}
use Rattle.std.specs.Io.KnownBytes.{Appends}
use Rattle.hc_signal.specs.declared.signal.Port.{Port}
use Rattle.hc_signal.specs.Tree.{Tree, IsWhole}
use Rattle.hc_signal.specs.Occurrences.{HasCombLoop}
use Rattle.hc_canon.proofs.Isomorphisms.{same-refl}
use Rattle.hc_bench.specs.declared.kinds.Step.{Step}
use Rattle.hc_bench.specs.Listing.{CycleRow, listing}
use Rattle.hc_bench.specs.Playing.{IsListed}
use Rattle.hc_bench.specs.Simulation.{initial_inputs}
use Rattle.hc_bench.specs.Trace.{Trace, IsRun, Simulation, IsSimulation, IsAtStart}
use Rattle.hc_trees.specs.Twins.{HavePartners}
use Rattle.hc_traces.proofs.Traces.{trace_once}
use Rattle.hc_traces.proofs.TwinTraces.{runs_of_same}

-- whatever the order in which the initial states have their registers and memories
pub run_once : HavePartners → (t : Tree) → IsWhole t → ¬ HasCombLoop t → (steps : List Step) (rows others : List CycleRow) → IsRun t steps rows → IsRun t steps others → rows ≡ others
run_once laws t whole free steps rows others (state, initial, run) (other, initial_too, run_too) =
    trace_once t whole free initial_too.whole (runs_of_same laws t t (same-refl t) whole whole free free state other initial initial_too (initial_inputs t) 0 steps rows run) run_too

pub listing_of_run : HavePartners → (outputs : List Port) (sim : Simulation) (steps : List Step) (rows : List CycleRow) (old new : Option (List ℕ)) → IsSimulation sim
    → IsAtStart sim → IsRun sim.tree steps rows → IsListed outputs sim steps old new → Appends old new (listing outputs rows)
listing_of_run laws outputs sim steps rows old new is begun run listed =
    let here : IsRun sim.tree steps listed.rows = (sim.state, begun.state, subst (λ (i : List ℕ). Trace sim.tree sim.state i 0 steps listed.rows) begun.inputs listed.trace) in
    subst (λ (l : List CycleRow). Appends old new (listing outputs l)) (run_once laws sim.tree is.whole is.no_loop steps listed.rows rows here run) listed.taken
