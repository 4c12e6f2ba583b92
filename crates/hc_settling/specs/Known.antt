-- What is known of the numbers that a hierarchical simulator keeps: while they settle, and in instances that are still.
use Rattle.std.specs.Prelude.{◌≡◌, ℕ, Bool, false, List, [], ◌∷◌, slice_get, slice_index, Some}
use Rattle.hc_signal.specs.Member.{Has}
use Rattle.hc_signal.specs.declared.signal.NodeRow.{NodeRow}
use Rattle.hc_signal.specs.declared.signal.Node.TheVariants.{Input, Const}
use Rattle.hc_signal.specs.Tree.{Tree}
use Rattle.hc_signal.specs.Occurrences.{Occurrence, graph_at, NodeIs, IsReachedPath, IsReachedOccurrence}
use Rattle.hc_bits.specs.BitVector.{BitVector}
use Rattle.hc_bench.specs.Simulation.{State, value}
use Rattle.hc_steps.specs.Plan.{Step, make, take, pass, run, Part, steps_at, Fact, made, passed, ran, facts, Begins, IsPlan}

abbrev pub at_path : List ℕ → ℕ → Occurrence
at_path p n = record { path = p; node = n }

-- each instance that is reached has a plan
abbrev pub ArePlans : Tree → (List ℕ → List Part) → Type 0
ArePlans t plans = (p : List ℕ) → IsReachedPath t p → IsPlan (graph_at t p) (λ i. graph_at t (i ∷ p)) (λ i. plans (i ∷ p)) (plans p)

-- the kept number is the right one, v's
abbrev pub IsRight : (vals v : Occurrence → ℕ) → Tree → Occurrence → Type 0
IsRight vals v t s = IsReachedOccurrence t s → vals s ≡ v s

-- What a step made known of the instance at a path: the number of the node is right; that of the instance's input is; all that
-- the part of the instance makes known, is known there.
pub data IsKnown (t : Tree) (plans : List ℕ → List Part) (vals v : Occurrence → ℕ) : List ℕ → Fact → Type 0 where
  is_made : {p : List ℕ} {n : ℕ} → IsRight vals v t (at_path p n) → IsKnown t plans vals v p (made n)
  is_passed : {p : List ℕ} {i port : ℕ} → ((n : ℕ) → NodeIs t (i ∷ p) n (Input port) → IsRight vals v t (at_path (i ∷ p) n)) → IsKnown t plans vals v p (passed i port)
  is_run : {p : List ℕ} {i part : ℕ} → ((f : Fact) → Has (facts (steps_at (plans (i ∷ p)) part)) f → IsKnown t plans vals v (i ∷ p) f) → IsKnown t plans vals v p (ran i part)

-- The number of a node is that of its kept operands.
abbrev pub IsBalancedNode : Tree → State → List ℕ → (Occurrence → ℕ) → List ℕ → ℕ → Type 0
IsBalancedNode t state inputs vals p n = (row : NodeRow) → slice_get (graph_at t p).nodes n ≡ Some row → vals (at_path p n) ≡ value t state inputs vals p n row.node

-- A step would change nothing.
abbrev pub IsBalanced : Tree → State → List ℕ → (Occurrence → ℕ) → List ℕ → Step → Type 0
IsBalanced t state inputs vals p (make n) = IsBalancedNode t state inputs vals p n
IsBalanced t state inputs vals p (take n i port) = IsBalancedNode t state inputs vals p n
IsBalanced t state inputs vals p (pass n i port) = (m : ℕ) → NodeIs t (i ∷ p) m (Input port) → IsReachedOccurrence t (at_path (i ∷ p) m) → vals (at_path (i ∷ p) m) ≡ vals (at_path p n)
IsBalanced t state inputs vals p (run i part) = Unit {0}

-- A step was taken: its place has what the kept numbers gave, or the part of the instance made its facts known.
abbrev pub IsTaken : Tree → (List ℕ → List Part) → State → List ℕ → (vals new v : Occurrence → ℕ) → List ℕ → Step → Type 0
IsTaken t plans state inputs vals new v p (make n) = (row : NodeRow) → slice_get (graph_at t p).nodes n ≡ Some row → new (at_path p n) ≡ value t state inputs vals p n row.node
IsTaken t plans state inputs vals new v p (take n i port) = (row : NodeRow) → slice_get (graph_at t p).nodes n ≡ Some row → new (at_path p n) ≡ value t state inputs vals p n row.node
IsTaken t plans state inputs vals new v p (pass n i port) = (m : ℕ) → NodeIs t (i ∷ p) m (Input port) → IsReachedOccurrence t (at_path (i ∷ p) m) → new (at_path (i ∷ p) m) ≡ vals (at_path p n)
IsTaken t plans state inputs vals new v p (run i part) = ((f : Fact) → Begins (graph_at t (i ∷ p)) (plans (i ∷ p)) part f → IsKnown t plans vals v (i ∷ p) f) → (f : Fact)
    → Has (facts (steps_at (plans (i ∷ p)) part)) f → IsKnown t plans new v (i ∷ p) f

-- A part of the instance at a path is still: no step of it, and none of a part of an instance that it runs, would change
-- anything.
pub data IsStill (t : Tree) (plans : List ℕ → List Part) (state : State) (inputs : List ℕ) (vals : Occurrence → ℕ) : List ℕ → ℕ → Type 0 where
  still : {p : List ℕ} {part : ℕ} → ((s : Step) → Has (steps_at (plans p) part) s → IsBalanced t state inputs vals p s)
      → ((i b : ℕ) → Has (steps_at (plans p) part) (run i b) → IsStill t plans state inputs vals (i ∷ p) b) → IsStill t plans state inputs vals p part

-- The marks are right: no step of a part that is not stale would change anything, and no part that it runs is stale.
abbrev pub AreMarked : Tree → (List ℕ → List Part) → State → List ℕ → (Occurrence → ℕ) → (List ℕ → ℕ → Bool) → Type 0
AreMarked t plans state inputs vals stale = (p : List ℕ) (part : ℕ) → IsReachedPath t p → stale p part ≡ false
    → ((s : Step) → Has (steps_at (plans p) part) s → IsBalanced t state inputs vals p s) × ((i b : ℕ) → Has (steps_at (plans p) part) (run i b) → stale (i ∷ p) b ≡ false)

-- a constant is kept from the start
abbrev pub KeepsConstants : Tree → (Occurrence → ℕ) → Type 0
KeepsConstants t vals = (p : List ℕ) (n : ℕ) (c : BitVector) → NodeIs t p n (Const c) → IsReachedOccurrence t (at_path p n) → vals (at_path p n) ≡ c.value

-- the kept number of each input of the top is the input
abbrev pub KeepsInputs : Tree → List ℕ → (Occurrence → ℕ) → Type 0
KeepsInputs t inputs vals = (n port : ℕ) → NodeIs t [] n (Input port) → IsReachedOccurrence t (at_path [] n) → vals (at_path [] n) ≡ slice_index inputs port
