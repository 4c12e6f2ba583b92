-- Directed graphs: each node has a list of those where its arrows go.
use Rattle.std.specs.Prelude.{ℕ, ◌<◌, List, [], ◌∷◌}
use Rattle.hc_signal.specs.Member.{Has}
use Rattle.hc_signal.specs.declared.signal.NodeId.{NodeId}

-- the nodes that a walk along arrows comes to
pub data Arrows (next : ℕ → List NodeId) : NodeId → NodeId → Type 0 where
  here : {n : NodeId} → Arrows next n n
  on : {n k m : NodeId} → Has (next n.0) k → Arrows next k m → Arrows next n m

-- a walk from a root comes to the node
abbrev pub IsFound : (ℕ → List NodeId) → List NodeId → NodeId → Type 0
IsFound next roots n = (root : NodeId) × Has roots root × Arrows next root n

-- a closed walk among the nodes that are found
abbrev pub HasCycle : (ℕ → List NodeId) → List NodeId → Type 0
HasCycle next roots = (n : NodeId) × (k : NodeId) × IsFound next roots n × Has (next n.0) k × Arrows next k n

-- all that is found stands below the size
pub record AreWithin (size : ℕ) (next : ℕ → List NodeId) (roots : List NodeId) : Type 0 where
  pub inside : (n : NodeId) → IsFound next roots n → n.0 < size

-- no element stands twice
abbrev pub AllDifferent : {X : Type 0} → List X → Type 0
AllDifferent [] = Unit {0}
AllDifferent (x ∷ xs) = ¬ Has xs x × AllDifferent xs

-- each node of the list stands before those where its arrows go
abbrev pub IsSorted : (ℕ → List NodeId) → List NodeId → Type 0
IsSorted next [] = Unit {0}
IsSorted next (n ∷ ns) = ((m : NodeId) → Has (next n.0) m → Has ns m) × IsSorted next ns

-- The nodes that are found, each once, the last one first.
pub record IsOrder (next : ℕ → List NodeId) (roots : List NodeId) (order : List NodeId) : Type 0 where
  pub each : (n : NodeId) → Has roots n → Has order n
  pub only : (n : NodeId) → Has order n → IsFound next roots n
  pub different : AllDifferent order
  pub sorted : IsSorted next order
