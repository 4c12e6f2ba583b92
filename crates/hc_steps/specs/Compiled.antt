-- The compiled plans of entries, each over those of its kids.
use Rattle.std.specs.Prelude.{◌≡◌, ℕ, Bool, List, [], slice_get, Option, Some, None}
use Rattle.hc_signal.specs.Member.{Has}
use Rattle.hc_signal.specs.Graph.{Graph}
use Rattle.hc_signal.specs.Tree.{empty}
use Rattle.hc_canon.specs.declared.form.EntryId.{EntryId}
use Rattle.hc_canon.specs.FormView.{FormView}
use Rattle.hc_dbstate.specs.Uses.{Uses, IsMarked}
use Rattle.hc_steps.specs.Plan.{Part, steps_at, made, facts, IsPlan}
use Rattle.hc_steps.specs.Tables.{Tables, AreTables}
use Rattle.hc_steps.specs.declared.spot.Spot.{Spot}
use Rattle.hc_steps.specs.Views.{part_of, ran_at}

-- A compiled plan: its parts, its tables, and of each node where its step stands. The parts that run parts of instances
-- stand in one list, and those of an instance from its own start on.
pub record PlanView : Type 0 where
  pub parts : List Part
  pub readers : List (List ℕ)
  pub takers : List (List ℕ)
  pub input_readers : List (List ℕ)
  pub state_parts : List ℕ
  pub first_part : List ℕ
  pub ran : List ℕ
  pub spots : List Spot

abbrev pub tables_of : PlanView → Tables
tables_of plan = record { readers = plan.readers; takers = plan.takers; input_readers = plan.input_readers; state_parts = plan.state_parts; ran_in = ran_at plan.first_part plan.ran }

-- the circuit of an instance of a form, and the plan of its entry
abbrev pub entry_in : List FormView → Option EntryId → Option FormView
entry_in entries None = None
entry_in entries (Some id) = slice_get entries id.0

abbrev pub circuit_in : Option FormView → Graph
circuit_in None = empty
circuit_in (Some form) = form.circuit

abbrev pub graph_of_kid : List FormView → FormView → ℕ → Graph
graph_of_kid entries form i = circuit_in (entry_in entries (slice_get form.kids i))

abbrev pub plan_in : List PlanView → Option EntryId → Option PlanView
plan_in plans None = None
plan_in plans (Some id) = slice_get plans id.0

abbrev pub parts_in : Option PlanView → List Part
parts_in None = []
parts_in (Some plan) = plan.parts

abbrev pub parts_of_kid : List PlanView → FormView → ℕ → List Part
parts_of_kid plans form i = parts_in (plan_in plans (slice_get form.kids i))

-- only that part computes the node
abbrev pub IsNoted : PlanView → Type 0
IsNoted plan = (a n : ℕ) → Has (facts (steps_at plan.parts a)) (made n) → a ≡ part_of plan.spots n

abbrev pub AreNoted : List PlanView → Type 0
AreNoted plans = (k : ℕ) (plan : PlanView) → slice_get plans k ≡ Some plan → IsNoted plan

abbrev pub part_of_in : Option PlanView → ℕ → ℕ
part_of_in None n = 0
part_of_in (Some plan) n = part_of plan.spots n

-- the part of an instance's plan that computes a node
abbrev pub part_of_kid : List PlanView → FormView → ℕ → ℕ → ℕ
part_of_kid plans form i n = part_of_in (plan_in plans (slice_get form.kids i)) n

-- the plan of an entry among those of all
pub record IsCompiled (entries : List FormView) (plans : List PlanView) (form : FormView) (plan : PlanView) : Type 0 where
  pub is_plan : IsPlan form.circuit (graph_of_kid entries form) (parts_of_kid plans form) plan.parts
  pub tables : AreTables form.circuit (graph_of_kid entries form) (parts_of_kid plans form) plan.parts (tables_of plan)
  pub noted : IsNoted plan

-- an entry with this form has its plan at its place
abbrev pub IsPlanned : List FormView → List PlanView → EntryId → FormView → Type 0
IsPlanned entries plans id form = (plan : PlanView) × (slice_get plans id.0 ≡ Some plan) × IsCompiled entries plans form plan

-- each entry that the top uses has
abbrev pub AreCompiled : List FormView → EntryId → List PlanView → Type 0
AreCompiled entries top plans = (id : EntryId) (form : FormView) → Uses entries top id → slice_get entries id.0 ≡ Some form → IsPlanned entries plans id form

abbrev pub AreMarkedCompiled : List FormView → List Bool → List PlanView → Type 0
AreMarkedCompiled entries marks plans = (id : EntryId) (form : FormView) → IsMarked marks id → slice_get entries id.0 ≡ Some form → IsPlanned entries plans id form
