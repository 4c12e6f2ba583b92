-- Who reads what: the parts of a plan that are to be run again where a number changes, and the tables that name them.
use Rattle.std.specs.Prelude.{◌≡◌, ℕ, List, [], slice_get, Option, Some, None}
use Rattle.hc_signal.specs.Member.{Has}
use Rattle.hc_signal.specs.declared.signal.Node.{Node}
use Rattle.hc_signal.specs.declared.signal.Node.TheVariants.{Input, Wire, Const, Two, Not, Mux, Cat, Select, Reg, Read, InstOut, Op}
use Rattle.hc_signal.specs.Graph.{Graph}
use Rattle.hc_signal.specs.Lawful.{NodeAt}
use Rattle.hc_signal.specs.Occurrences.{comb_fanin}
use Rattle.hc_steps.specs.Plan.{make, take, pass, run, Part, steps_at, made, facts, id_of}

-- part j reads the number of a node of its own circuit
pub data Reads (g : Graph) (plan : List Part) (j : ℕ) : ℕ → Type 0 where
  by_make : {n m : ℕ} (x : Node) → Has (steps_at plan j) (make m) → NodeAt g m x → Has (comb_fanin x) (id_of n) → Reads g plan j n
  by_pass : {n i port : ℕ} → Has (steps_at plan j) (pass n i port) → Reads g plan j n

-- part j takes the number of an output wire of instance i
pub data Takes (graphs : ℕ → Graph) (plan : List Part) (j i : ℕ) : ℕ → Type 0 where
  by_take : {w m port : ℕ} → Has (steps_at plan j) (take m i port) → slice_get (graphs i).outputs port ≡ Some (id_of w) → Takes graphs plan j i w

abbrev pub IsState : Node → Type 0
IsState (Reg next enable clear init) = Unit {0}
IsState (Read m addr) = Unit {0}
IsState (Input port) = ⊥
IsState (Wire driver) = ⊥
IsState (Const c) = ⊥
IsState (Two op a b) = ⊥
IsState (Not a) = ⊥
IsState (Mux sel cases) = ⊥
IsState (Cat parts) = ⊥
IsState (Select a hi lo) = ⊥
IsState (InstOut i port) = ⊥
IsState (Op kind args) = ⊥

-- a list of a table, none past its end
abbrev pub row_of : Option (List ℕ) → List ℕ
row_of None = []
row_of (Some row) = row

abbrev pub row : List (List ℕ) → ℕ → List ℕ
row table k = row_of (slice_get table k)

pub record Tables : Type 0 where
  pub readers : List (List ℕ)
  pub takers : List (List ℕ)
  pub input_readers : List (List ℕ)
  pub state_parts : List ℕ
  pub ran_in : ℕ → ℕ → ℕ

-- Each list has all parts that it is to have, but for the part itself.
pub record AreTables (g : Graph) (graphs : ℕ → Graph) (plans : ℕ → List Part) (plan : List Part) (tables : Tables) : Type 0 where
  pub readers : (a j n : ℕ) → Has (facts (steps_at plan a)) (made n) → Reads g plan j n → ¬ (a ≡ j) → Has (row tables.readers a) j
  pub takers : (a j i b w : ℕ) → Has (steps_at plan a) (run i b) → Has (facts (steps_at (plans i) b)) (made w) → Takes graphs plan j i w → ¬ (a ≡ j) → Has (row tables.takers a) j
  pub inputs : (k j n : ℕ) → NodeAt g n (Input k) → Reads g plan j n → Has (row tables.input_readers k) j
  pub state : (j n : ℕ) (x : Node) → Has (steps_at plan j) (make n) → NodeAt g n x → IsState x → Has tables.state_parts j
  pub one_run : (a i b : ℕ) → Has (steps_at plan a) (run i b) → a ≡ tables.ran_in i b
  pub one_step : (a b n : ℕ) → Has (facts (steps_at plan a)) (made n) → Has (facts (steps_at plan b)) (made n) → a ≡ b
