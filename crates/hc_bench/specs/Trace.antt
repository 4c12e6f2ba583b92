-- Cycles and whole runs of a bench.
use Rattle.std.specs.Prelude.{◌≡◌, ℕ, zero, suc, ◌<◌, ◌≤◌, List, [], ◌∷◌, length, replicate, slice_set}
use Rattle.hc_bits.specs.BitVector.{BitVector}
use Rattle.hc_signal.specs.Tree.{Tree, graph, IsWhole}
use Rattle.hc_signal.specs.Checked.{IsChecked}
use Rattle.hc_signal.specs.Occurrences.{Occurrence, HasCombLoop}
use Rattle.hc_bench.specs.declared.kinds.Step.{Step}
use Rattle.hc_bench.specs.declared.kinds.Step.TheVariants.{Set, Cycle, Reset}
use Rattle.hc_bench.specs.Listing.{CycleRow}
use Rattle.hc_bench.specs.Simulation.{State, IsSettled, IsStateOf, IsInitialState, clock_edge, reset, outputs_of, initial_inputs}

-- One cycle: the values settle, the clock edge comes, and the values settle again.
pub record IsCycle (t : Tree) (state : State) (inputs : List ℕ) (next : State) (before after : List ℕ) : Type 0 where
  pub v : Occurrence → ℕ
  pub w : Occurrence → ℕ
  pub settled : IsSettled t state inputs v
  pub edge : next ≡ clock_edge t v state
  pub settled_again : IsSettled t next inputs w
  pub before_is : before ≡ outputs_of t v
  pub after_is : after ≡ outputs_of t w

-- The steps give these rows, from this state, these inputs and this number of cycles before.
pub data Trace (t : Tree) : (state : State) (inputs : List ℕ) (count : ℕ) (steps : List Step) (rows : List CycleRow) → Type 0 where
  stop : {state : State} {inputs : List ℕ} {count : ℕ} → Trace t state inputs count [] []
  set : {state : State} {inputs : List ℕ} {count port : ℕ} {x : BitVector} {steps : List Step} {rows : List CycleRow} → port < length inputs
      → Trace t state (slice_set inputs port x.value) count steps rows → Trace t state inputs count (Set port x ∷ steps) rows
  start : {state : State} {inputs : List ℕ} {count : ℕ} {steps : List Step} {rows : List CycleRow} → Trace t (reset t state) inputs count steps rows → Trace t state inputs count (Reset ∷ steps) rows
  past : {state : State} {inputs : List ℕ} {count : ℕ} {steps : List Step} {rows : List CycleRow} → Trace t state inputs count steps rows → Trace t state inputs count (Cycle zero ∷ steps) rows
  cycle : {state next : State} {inputs before after : List ℕ} {count times : ℕ} {steps : List Step} {rows : List CycleRow} → IsCycle t state inputs next before after
      → Trace t next inputs (suc count) (Cycle times ∷ steps) rows
      → Trace t state inputs count (Cycle (suc times) ∷ steps) (record { cycle = count; before = before; after = after } ∷ rows)

-- From the initial state and inputs the steps give these rows.
abbrev pub IsRun : Tree → List Step → List CycleRow → Type 0
IsRun t steps rows = (state : State) × IsInitialState t state × Trace t state (initial_inputs t) 0 steps rows

-- The first steps are a beginning of the others, where the last `cycle` may have fewer times.
pub data Begins : List Step → List Step → Type 0 where
  none : {steps : List Step} → Begins [] steps
  part : {k n : ℕ} {steps : List Step} → k ≤ n → Begins (Cycle k ∷ []) (Cycle n ∷ steps)
  more : {step : Step} {front steps : List Step} → Begins front steps → Begins (step ∷ front) (step ∷ steps)

-- ---- simulators

-- what a simulator runs, with the outputs before and after its last clock edge
pub record Simulation : Type 0 where
  pub tree : Tree
  pub state : State
  pub inputs : List ℕ
  pub before : List ℕ
  pub after : List ℕ

-- The tree is whole and without a combinational loop, and its graph is checked. The state, the inputs and the outputs are
-- those of the tree.
pub record IsSimulation (sim : Simulation) : Type 0 where
  pub whole : IsWhole sim.tree
  pub checked : IsChecked (graph sim.tree)
  pub no_loop : ¬ HasCombLoop sim.tree
  pub state : IsStateOf sim.tree sim.state
  pub inputs : length sim.inputs ≡ length (graph sim.tree).ports.inputs
  pub before : length sim.before ≡ length (graph sim.tree).ports.outputs
  pub after : length sim.after ≡ length (graph sim.tree).ports.outputs

-- A simulator at the start of a run: the initial state and inputs, and outputs of 0.
pub record IsAtStart (sim : Simulation) : Type 0 where
  pub state : IsInitialState sim.tree sim.state
  pub inputs : sim.inputs ≡ initial_inputs sim.tree
  pub before : sim.before ≡ replicate (length (graph sim.tree).ports.outputs) 0
  pub after : sim.after ≡ replicate (length (graph sim.tree).ports.outputs) 0

-- One cycle was run: what is new are the state and the outputs.
pub record RunsCycle (old new : Simulation) : Type 0 where
  pub cycle : IsCycle old.tree old.state old.inputs new.state new.before new.after
  pub tree : new.tree ≡ old.tree
  pub inputs : new.inputs ≡ old.inputs
