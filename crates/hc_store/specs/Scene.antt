-- What the rows stand for: a tree with plans and tables by path, its state and its inputs.
use Rattle.std.specs.Prelude.{◌≡◌, ℕ, suc, ◌+◌, ◌<◌, Bool, false, List, [], ◌∷◌, length, slice_get, Option, Some, None}
use Rattle.hc_bits.specs.BitVector.{BitVector}
use Rattle.hc_signal.specs.Member.{Has}
use Rattle.hc_signal.specs.declared.signal.Node.{Node}
use Rattle.hc_signal.specs.Lawful.{NodeAt}
use Rattle.hc_signal.specs.Tree.{Tree}
use Rattle.hc_signal.specs.Occurrences.{Occurrence, graph_at}
use Rattle.hc_canon.specs.declared.form.EntryId.{EntryId}
use Rattle.hc_canon.specs.FormView.{FormView}
use Rattle.hc_bench.specs.Simulation.{State}
use Rattle.hc_rows.specs.Rows.{row_at, number_of}
use Rattle.hc_steps.specs.Plan.{Step, run, Part, steps_at, IsPlain}
use Rattle.hc_steps.specs.Tables.{Tables, row}
use Rattle.hc_steps.specs.Compiled.{PlanView}
use Rattle.hc_settling.specs.Settling.{Board, Walks, Settles}
use Rattle.hc_values.specs.Rows.{number_at}
use Rattle.hc_values.specs.Values.{HasStateFor}
use Rattle.hc_store.specs.declared.store.Store.{Store}
use Rattle.hc_store.specs.Given.{Given, IsInstance}
use Rattle.hc_store.specs.Stored.{kept_of}

-- a tree with plans and tables by path, its state and inputs, and the number of the instance at each path
pub record Scene : Type 0 where
  pub tree : Tree
  pub plans : List ℕ → List Part
  pub tables : List ℕ → Tables
  pub state : State
  pub inputs : List ℕ
  pub place : List ℕ → Option ℕ

-- ---- rows by path

abbrev pub row_for : {X : Type 0} → List (List X) → Option ℕ → List X
row_for rows None = []
row_for rows (Some p) = row_at rows p

abbrev pub flag_of : Option Bool → Bool
flag_of None = false
flag_of (Some flag) = flag

abbrev pub number : Scene → List (List BitVector) → Occurrence → ℕ
number s values o = number_at (row_for values (s.place o.path)) o.node

abbrev pub mark : Scene → List (List Bool) → List ℕ → ℕ → Bool
mark s stale path part = flag_of (slice_get (row_for stale (s.place path)) part)

abbrev pub board : Scene → Store → Board
board s store = record { vals = number s store.values; stale = mark s store.stale }

-- ---- what stays

-- the parts of one list that are there, of so many, are in the other
abbrev pub AreAmong : List ℕ → List ℕ → ℕ → Type 0
AreAmong parts all many = (k : ℕ) → Has parts k → Has all k × (k < many)

pub record IsShown (s : Scene) (g : Given) (p : ℕ) (path : List ℕ) (form : FormView) (plan : PlanView) : Type 0 where
  pub circuit : graph_at s.tree path ≡ form.circuit
  pub parts : s.plans path ≡ plan.parts
  pub readers : (a : ℕ) → AreAmong (row (s.tables path).readers a) (row plan.readers a) (length plan.parts)
  pub takers : (a : ℕ) → AreAmong (row (s.tables path).takers a) (row plan.takers a) (length plan.parts)
  pub input_readers : (k : ℕ) → AreAmong (row (s.tables path).input_readers k) (row plan.input_readers k) (length plan.parts)
  pub kids : (i first : ℕ) (kid : EntryId) → slice_get form.kids i ≡ Some kid → slice_get g.first p ≡ Some first → s.place (i ∷ path) ≡ Some (first + i)
  pub state : (n : ℕ) (x : Node) → NodeAt form.circuit n x → IsPlain x → HasStateFor s.state path (kept_of g [] p) n x

-- The instances stand for those of the tree, each at its path.
pub record Shows (s : Scene) (g : Given) : Type 0 where
  pub apart : (p : ℕ) (path other : List ℕ) → s.place path ≡ Some p → s.place other ≡ Some p → path ≡ other
  pub instances : (p : ℕ) (path : List ℕ) (id : EntryId) (form : FormView) (plan : PlanView) → s.place path ≡ Some p → IsInstance g p id form plan → IsShown s g p path form plan
  -- the part that runs a part of an instance is the one that `up` names
  pub up : (q i : ℕ) (path : List ℕ) (part b u : ℕ) → s.place (i ∷ path) ≡ Some q → Has (steps_at (s.plans path) part) (run i b) → slice_get (row_at g.up q) b ≡ Some u
      → (p : ℕ) × (s.place path ≡ Some p) × (part < length (row_at g.up p)) × (u ≡ number_of g.up p part)

-- ---- what steps do

abbrev pub WalksIn : Scene → List ℕ → ℕ → List Step → Board → Board → Type 0
WalksIn s path part steps old new = Walks s.tree s.plans s.tables s.state s.inputs path part steps old new

-- The step of the part of instance p was taken, whatever the rows stand for: a walk that goes on from here is one from before.
abbrev pub TakesStep : Given → ℕ → ℕ → Step → (old new : Store) → Type 0
TakesStep g p part step old new = (s : Scene) (path : List ℕ) (rest : List Step) (last : Board) → Shows s g → s.place path ≡ Some p → WalksIn s path part rest (board s new) last
    → WalksIn s path part (step ∷ rest) (board s old) last

-- the part of instance p was run
abbrev pub RunsPart : Given → ℕ → ℕ → (old new : Store) → Type 0
RunsPart g p part old new = (s : Scene) (path : List ℕ) → Shows s g → s.place path ≡ Some p → WalksIn s path part (steps_at (s.plans path) part) (board s old) (board s new)

-- The step is under way, and a part of an instance of a lower entry is to be run: whatever rows that leaves, the step is taken
-- then.
pub record IsBegun (g : Given) (p part : ℕ) (step : Step) (q below : ℕ) (old mid : Store) : Type 0 where
  pub there : q < length g.entries
  pub lower : (id kid : EntryId) → slice_get g.entries p ≡ Some id → slice_get g.entries q ≡ Some kid → kid.0 < id.0
  pub runs : (new : Store) → RunsPart g q below mid new → TakesStep g p part step old new

-- The part of the top was run if it was stale: a settling that goes on behind it is one from it on.
abbrev pub SettlesPart : Given → ℕ → (old new : Store) → Type 0
SettlesPart g part old new = (s : Scene) (last : Board) → Shows s g → s.place [] ≡ Some 0
    → Settles s.tree s.plans s.tables s.state s.inputs (suc part) (board s new) last → Settles s.tree s.plans s.tables s.state s.inputs part (board s old) last

-- Each part of the top that is stale was run, in order.
abbrev pub SettlesTop : Given → (old new : Store) → Type 0
SettlesTop g old new = (s : Scene) → Shows s g → s.place [] ≡ Some 0 → Settles s.tree s.plans s.tables s.state s.inputs 0 (board s old) (board s new)

-- The numbers are those after a settling of the top, and no part is stale.
abbrev pub SettlesAll : Given → (old new : Store) → Type 0
SettlesAll g old new = (s : Scene) → Shows s g → s.place [] ≡ Some 0
    → ((last : Board) × Settles s.tree s.plans s.tables s.state s.inputs 0 (board s old) last × (last.vals ≡ number s new.values))
    × ((path : List ℕ) (part : ℕ) → mark s new.stale path part ≡ false)
