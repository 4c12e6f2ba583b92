-- What stays while the numbers of a hierarchy settle, and what its plans say of it.
use Rattle.std.specs.Prelude.{◌≡◌, ℕ, ◌+◌, ◌<◌, List, length, map, slice_get, Some}
use Rattle.hc_bits.specs.BitVector.{BitVector}
use Rattle.hc_signal.specs.Member.{Has}
use Rattle.hc_signal.specs.declared.signal.NodeId.{NodeId}
use Rattle.hc_signal.specs.declared.signal.NodeRow.{NodeRow}
use Rattle.hc_signal.specs.declared.signal.Node.TheVariants.{Input, InstOut}
use Rattle.hc_signal.specs.Lawful.{HasWidth}
use Rattle.hc_canon.specs.declared.form.EntryId.{EntryId}
use Rattle.hc_canon.specs.FormView.{FormView}
use Rattle.hc_rows.specs.Rows.{row_at, flat}
use Rattle.hc_steps.specs.Plan.{Step, make, take, pass, run, steps_at, IsPlain}
use Rattle.hc_steps.specs.Compiled.{PlanView}
use Rattle.hc_values.specs.Rows.{widths, node_widths, memory_widths}
use Rattle.hc_store.specs.Marks.{AreUp}

-- The forms and the plans of the entries; of each instance its entry and its first own instance, its registers and memories;
-- of each part of each instance the number of the part that runs it.
pub record Given : Type 0 where
  pub forms : List FormView
  pub plans : List PlanView
  pub entries : List EntryId
  pub first : List ℕ
  pub up : List (List ℕ)
  pub registers : List (List BitVector)
  pub words : List (List (List BitVector))

-- instance p is of this entry
pub record IsInstance (g : Given) (p : ℕ) (id : EntryId) (form : FormView) (plan : PlanView) : Type 0 where
  pub entry : slice_get g.entries p ≡ Some id
  pub found : slice_get g.forms id.0 ≡ Some form
  pub planned : slice_get g.plans id.0 ≡ Some plan

-- the form of an instance of a form
pub record IsKidForm (forms : List FormView) (form : FormView) (i : ℕ) (kid : EntryId) (inner : FormView) : Type 0 where
  pub entry : slice_get form.kids i ≡ Some kid
  pub found : slice_get forms kid.0 ≡ Some inner

-- What a step names is there, and both ends of a wire have one width. The node of an input has the input's number.
abbrev pub FitsStep : List FormView → FormView → Step → Type 0
FitsStep forms form (make n) = (row : NodeRow) × (slice_get form.circuit.nodes n ≡ Some row) × IsPlain row.node
FitsStep forms form (take n i port) = (row : NodeRow) × (kid : EntryId) × (inner : FormView) × (w : NodeId)
    × (slice_get form.circuit.nodes n ≡ Some row) × (row.node ≡ InstOut (record { 0 = i }) port)
    × IsKidForm forms form i kid inner × (slice_get inner.circuit.outputs port ≡ Some w) × HasWidth inner.circuit w row.width
FitsStep forms form (pass n i port) = (row : NodeRow) × (kid : EntryId) × (inner : FormView) × (input : NodeRow)
    × (slice_get form.circuit.nodes n ≡ Some row)
    × IsKidForm forms form i kid inner × (slice_get inner.circuit.nodes port ≡ Some input) × (input.node ≡ Input port) × (input.width ≡ row.width)
FitsStep forms form (run i part) = (kid : EntryId) × (slice_get form.kids i ≡ Some kid)

-- Instance p has its rows. Its own instances stand side by side, each of a lower entry.
pub record IsFitAt (g : Given) (p : ℕ) (id : EntryId) (form : FormView) (plan : PlanView) : Type 0 where
  pub parts : length (row_at g.up p) ≡ length plan.parts
  pub few : length plan.parts < 4294967296
  pub registers : widths (row_at g.registers p) ≡ node_widths form.circuit.nodes
  pub words : map widths (row_at g.words p) ≡ map memory_widths form.circuit.memories
  pub first : p < length g.first
  pub kids : (i first : ℕ) (kid : EntryId) → slice_get form.kids i ≡ Some kid → slice_get g.first p ≡ Some first → (kid.0 < id.0) × (slice_get g.entries (first + i) ≡ Some kid)
  pub steps : (part : ℕ) (step : Step) → Has (steps_at plan.parts part) step → FitsStep g.forms form step

pub record IsFit (g : Given) : Type 0 where
  pub instances : (p : ℕ) → p < length g.entries → (id : EntryId) × (form : FormView) × (plan : PlanView) × IsInstance g p id form plan × IsFitAt g p id form plan
  pub up : AreUp (flat g.up)

-- this step stands in the part of instance p
abbrev pub IsStepAt : Given → ℕ → ℕ → Step → Type 0
IsStepAt g p part step = (id : EntryId) × (form : FormView) × (plan : PlanView) × IsInstance g p id form plan × Has (steps_at plan.parts part) step
