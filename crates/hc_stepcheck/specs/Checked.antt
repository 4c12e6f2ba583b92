-- What each part of the check of a plan shows.
use Rattle.std.specs.Prelude.{◌≡◌, ℕ, ◌<◌, List, [], length, slice_get, Some}
use Rattle.hc_signal.specs.Member.{Has}
use Rattle.hc_signal.specs.declared.signal.NodeId.{NodeId}
use Rattle.hc_signal.specs.declared.signal.Node.{Node}
use Rattle.hc_signal.specs.declared.signal.Node.TheVariants.{Input}
use Rattle.hc_signal.specs.Graph.{Graph}
use Rattle.hc_signal.specs.Lawful.{NodeAt}
use Rattle.hc_signal.specs.Occurrences.{comb_fanin}
use Rattle.hc_canon.specs.FormView.{FormView}
use Rattle.hc_steps.specs.Plan.{Step, make, take, pass, run, Part, steps_at, Fact, made, passed, ran, fact, facts, Begins, HasStep, IsReady, AreReady, IsGiven}
use Rattle.hc_steps.specs.Tables.{IsState, row}
use Rattle.hc_steps.specs.Views.{IsKnownAt, part_of, ran_at}
use Rattle.hc_steps.specs.Compiled.{PlanView, graph_of_kid, parts_of_kid, part_of_kid}

-- ---- one step

abbrev pub IsReadyAt : List FormView → List PlanView → FormView → List Part → ℕ → ℕ → Step → Type 0
IsReadyAt entries plans form plan j s step = IsReady form.circuit (graph_of_kid entries form) (parts_of_kid plans form) (IsKnownAt form.circuit plan j s) step

-- each step of a part may come after those before it
abbrev pub IsPartReady : List FormView → List PlanView → FormView → List Part → ℕ → Type 0
IsPartReady entries plans form plan j = AreReady form.circuit (graph_of_kid entries form) (parts_of_kid plans form) (Begins form.circuit plan j) [] (steps_at plan j)

-- part j is listed with those that read a node
abbrev pub IsReaderListed : Graph → PlanView → ℕ → ℕ → Type 0
IsReaderListed g plan j n = (¬ (part_of plan.spots n ≡ j) → part_of plan.spots n < length plan.parts → Has (row plan.readers (part_of plan.spots n)) j)
    × ((k : ℕ) → NodeAt g n (Input k) → Has (row plan.input_readers k) j)

abbrev pub AreReadersListed : Graph → PlanView → ℕ → List NodeId → Type 0
AreReadersListed g plan j ids = (n : NodeId) → Has ids n → IsReaderListed g plan j n.0

-- what the tables are to have of a step of part j
abbrev pub IsListed : List FormView → List PlanView → FormView → PlanView → ℕ → Step → Type 0
IsListed entries plans form plan j (make m) = (x : Node) → NodeAt form.circuit m x → AreReadersListed form.circuit plan j (comb_fanin x) × (IsState x → Has plan.state_parts j)
IsListed entries plans form plan j (pass n i port) = IsReaderListed form.circuit plan j n
IsListed entries plans form plan j (take m i port) =
    (w : NodeId) → slice_get (graph_of_kid entries form i).outputs port ≡ Some w → ¬ (ran_at plan.first_part plan.ran i (part_of_kid plans form i w.0) ≡ j)
    → Has (row plan.takers (ran_at plan.first_part plan.ran i (part_of_kid plans form i w.0))) j
IsListed entries plans form plan j (run i b) = j ≡ ran_at plan.first_part plan.ran i b

-- ---- coverage

abbrev pub AreNodesGiven : Graph → List Part → Type 0
AreNodesGiven g plan = (n : ℕ) (x : Node) → NodeAt g n x → HasStep x → IsGiven plan (made n)

-- all inputs of an instance are passed, and all parts of it are run
abbrev pub AreInputsGiven : List FormView → FormView → List Part → ℕ → Type 0
AreInputsGiven entries form plan i = (port n : ℕ) → NodeAt (graph_of_kid entries form i) n (Input port) → IsGiven plan (passed i port)

abbrev pub AreRunsGiven : List PlanView → FormView → List Part → ℕ → Type 0
AreRunsGiven plans form plan i = (part : ℕ) (f : Fact) → Has (facts (steps_at (parts_of_kid plans form i) part)) f → IsGiven plan (ran i part)

-- ---- all steps

abbrev pub AreListedIn : List FormView → List PlanView → FormView → PlanView → ℕ → Type 0
AreListedIn entries plans form plan j = (step : Step) → Has (steps_at plan.parts j) step → IsListed entries plans form plan j step

-- only part a may compute what the step computes
abbrev pub IsStepNoted : PlanView → ℕ → Step → Type 0
IsStepNoted plan a step = (n : ℕ) → fact step ≡ made n → a ≡ part_of plan.spots n

abbrev pub AreStepsNoted : PlanView → ℕ → Type 0
AreStepsNoted plan a = (step : Step) → Has (steps_at plan.parts a) step → IsStepNoted plan a step
