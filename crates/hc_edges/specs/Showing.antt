-- What the rows stand for, where their contents change.
use Rattle.std.specs.Prelude.{◌≡◌, ℕ, List, [], length, Some}
use Rattle.hc_canon.specs.declared.form.EntryId.{EntryId}
use Rattle.hc_canon.specs.FormView.{FormView}
use Rattle.hc_bench.specs.Simulation.{State}
use Rattle.hc_signal.specs.Occurrences.{IsReachedPath}
use Rattle.hc_steps.specs.Compiled.{PlanView}
use Rattle.hc_settling.specs.Known.{AreMarked, ArePlans}
use Rattle.hc_settling.specs.Tables.{AreTablesOf}
use Rattle.hc_store.specs.declared.store.Store.{Store}
use Rattle.hc_store.specs.Given.{Given, IsInstance}
use Rattle.hc_store.specs.Scene.{AreAmong, Scene, Shows, mark, number}

-- the same tree with another state
abbrev pub with_state : Scene → State → Scene
with_state s state = record { tree = s.tree; plans = s.plans; tables = s.tables; state = state; inputs = s.inputs; place = s.place }

-- instance p, of this entry, stands at the path
pub record StandsFor (s : Scene) (g : Given) (path : List ℕ) (p : ℕ) (id : EntryId) (form : FormView) (plan : PlanView) : Type 0 where
  pub place : s.place path ≡ Some p
  pub is : IsInstance g p id form plan

-- The rows stand for the whole tree: each reached instance has its rows, all have plans with tables, and the tables name the parts
-- that read registers and memories as the compiled plans do.
pub record ShowsAll (s : Scene) (g : Given) : Type 0 where
  pub shows : Shows s g
  pub top : s.place [] ≡ Some 0
  pub plans : ArePlans s.tree s.plans
  pub tables : AreTablesOf s.tree s.plans s.tables
  pub places : (path : List ℕ) → IsReachedPath s.tree path → (p : ℕ) × (id : EntryId) × (form : FormView) × (plan : PlanView) × StandsFor s g path p id form plan
  pub state_parts : (path : List ℕ) (p : ℕ) (id : EntryId) (form : FormView) (plan : PlanView) → StandsFor s g path p id form plan → AreAmong (s.tables path).state_parts plan.state_parts (length plan.parts)

-- the marks are right for what the rows stand for
abbrev pub AreMarkedIn : Scene → Store → Type 0
AreMarkedIn s store = AreMarked s.tree s.plans s.state s.inputs (number s store.values) (mark s store.stale)
