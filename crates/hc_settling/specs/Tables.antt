-- The tables of all instances of a tree, and what a node reads of the state.
use Rattle.std.specs.Prelude.{◌≡◌, ℕ, List, ◌∷◌}
use Rattle.hc_signal.specs.declared.signal.Node.{Node}
use Rattle.hc_signal.specs.declared.signal.Node.TheVariants.{Reg, Read}
use Rattle.hc_signal.specs.Tree.{Tree}
use Rattle.hc_signal.specs.Occurrences.{graph_at, IsReachedPath}
use Rattle.hc_bench.specs.Simulation.{State, register_value, memory_words}
use Rattle.hc_steps.specs.Plan.{Part}
use Rattle.hc_steps.specs.Tables.{Tables, AreTables}
use Rattle.hc_settling.specs.Known.{at_path}

-- what the number of a node says of the state is the same in both
abbrev pub IsSameState : State → State → List ℕ → ℕ → Node → Type 0
IsSameState old new p n (Reg next enable clear init) = register_value old (at_path p n) ≡ register_value new (at_path p n)
IsSameState old new p n (Read m addr) = memory_words old (at_path p m.0) ≡ memory_words new (at_path p m.0)
IsSameState old new p n other = Unit {0}

-- each reached instance has its tables
abbrev pub AreTablesOf : Tree → (List ℕ → List Part) → (List ℕ → Tables) → Type 0
AreTablesOf t plans tables = (p : List ℕ) → IsReachedPath t p → AreTables (graph_at t p) (λ i. graph_at t (i ∷ p)) (λ i. plans (i ∷ p)) (plans p) (tables p)
