-- What a simulator makes for an entry, and the scene that it stands for.
use Rattle.std.specs.Prelude.{◌≡◌, ℕ, ◌<◌, List, [], length, map, slice_get, Some}
use Rattle.hc_signal.specs.declared.signal.Node.{Node}
use Rattle.hc_signal.specs.Lawful.{NodeAt}
use Rattle.hc_signal.specs.Tree.{IsWhole}
use Rattle.hc_canon.specs.declared.form.EntryId.{EntryId}
use Rattle.hc_canon.specs.FormView.{FormView}
use Rattle.hc_dbstate.specs.History.{History, IsLegal}
use Rattle.hc_dbstate.specs.Unfolding.{unfolding_of}
use Rattle.hc_bench.specs.Simulation.{State}
use Rattle.hc_rows.specs.Rows.{row_at}
use Rattle.hc_steps.specs.Plan.{IsPlain}
use Rattle.hc_steps.specs.Compiled.{AreCompiled, PlanView}
use Rattle.hc_layout.specs.Layout.{IsLayout, Layout, place}
use Rattle.hc_layout.specs.Up.{IsUp}
use Rattle.hc_settling.specs.Compiled.{parts_at, tables_at}
use Rattle.hc_settling.specs.Known.{AreMarked, KeepsConstants, KeepsInputs}
use Rattle.hc_settling.specs.Settling.{Board}
use Rattle.hc_values.specs.Rows.{widths, node_widths, memory_widths}
use Rattle.hc_values.specs.Values.{HasStateFor}
use Rattle.hc_store.specs.Given.{Given}
use Rattle.hc_store.specs.Scene.{Scene}
use Rattle.hc_store.specs.Stored.{kept_of}

-- instance p is of an entry with this form
abbrev pub IsOfForm : Given → ℕ → FormView → Type 0
IsOfForm g p form = (id : EntryId) × (slice_get g.entries p ≡ Some id) × (slice_get g.forms id.0 ≡ Some form)

-- Each instance has a register for each node and words for each memory of its circuit, of their widths.
pub record HasRows (g : Given) : Type 0 where
  pub registers : (p : ℕ) (form : FormView) → IsOfForm g p form → widths (row_at g.registers p) ≡ node_widths form.circuit.nodes
  pub words : (p : ℕ) (form : FormView) → IsOfForm g p form → map widths (row_at g.words p) ≡ map memory_widths form.circuit.memories

-- the parts of each plan have numbers of 32 bits
abbrev pub AreShort : List PlanView → Type 0
AreShort plans = (k : ℕ) (plan : PlanView) → slice_get plans k ≡ Some plan → length plan.parts < 4294967296

-- In a legal history: the forms, the compiled plans of an entry and of all that it uses, its instances by their numbers, of each
-- part the number of the part that runs it, and rows for the state.
pub record IsMade (h : History) (top : EntryId) (g : Given) (l : Layout) : Type 0 where
  pub legal : IsLegal h
  pub there : top.0 < length h.entries
  pub whole : IsWhole (unfolding_of h.entries top)
  pub forms : g.forms ≡ h.entries
  pub compiled : AreCompiled h.entries top g.plans
  pub short : AreShort g.plans
  pub layout : IsLayout h.entries top l
  pub entries : g.entries ≡ l.entries
  pub first : g.first ≡ l.first
  pub up : IsUp h.entries g.plans l g.up
  pub rows : HasRows g

-- the unfolding of the entry, with the plans and tables of the entries, and the number of each instance
abbrev pub scene_of : History → EntryId → Given → Layout → State → List ℕ → Scene
scene_of h top g l state inputs = record {
  tree = unfolding_of h.entries top;
  plans = parts_at h.entries g.plans top;
  tables = tables_at h.entries g.plans top;
  state = state;
  inputs = inputs;
  place = place h.entries l;
}

-- The state has, of each instance, what its nodes read in the instance's registers and words.
abbrev pub HasState : History → Given → Layout → State → Type 0
HasState h g l state = (p : ℕ) (path : List ℕ) (form : FormView) (n : ℕ) (x : Node) → place h.entries l path ≡ Some p → IsOfForm g p form
    → NodeAt form.circuit n x → IsPlain x → HasStateFor state path (kept_of g [] p) n x

-- The marks are right, and the numbers of constants and of the inputs of the top are theirs.
pub record IsConsistent (s : Scene) (b : Board) : Type 0 where
  pub marks : AreMarked s.tree s.plans s.state s.inputs b.vals b.stale
  pub constants : KeepsConstants s.tree b.vals
  pub inputs : KeepsInputs s.tree s.inputs b.vals
