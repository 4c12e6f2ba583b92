-- The combinational paths of one circuit, where each instance is known by the masks of its outputs alone.
use Rattle.std.specs.Prelude.{◌≡◌, ℕ, ◌↔◌, List, length, slice_get, Option, Some, None, IsBitSet}
use Rattle.hc_signal.specs.Member.{Has}
use Rattle.hc_signal.specs.declared.signal.Instance.{Instance}
use Rattle.hc_signal.specs.declared.signal.NodeId.{NodeId}
use Rattle.hc_signal.specs.declared.signal.Node.{Node}
use Rattle.hc_signal.specs.declared.signal.Node.TheVariants.{InstOut, Input}
use Rattle.hc_signal.specs.Graph.{Graph, node, Reached}
use Rattle.hc_signal.specs.Lawful.{NodeAt}
use Rattle.hc_signal.specs.Tree.{Tree, graph, kid}
use Rattle.hc_signal.specs.Occurrences.{comb_fanin, connection, AreMasks, HasCombLoop}

abbrev pub mask_in : Option (List ℕ) → ℕ → Option ℕ
mask_in None port = None
mask_in (Some list) port = slice_get list port

-- the mask of an output of an instance
abbrev pub mask_at : List (List ℕ) → ℕ → ℕ → Option ℕ
mask_at masks i port = mask_in (slice_get masks i) port

-- One step: to an operand of the same cycle, or from an output of an instance to a connection that its mask names.
pub data LocalStep (g : Graph) (masks : List (List ℕ)) : (from : ℕ) (to : ℕ) → Type 0 where
  inside : {n m : ℕ} (x : Node) → NodeAt g n x → Has (comb_fanin x) (record { 0 = m }) → LocalStep g masks n m
  through : {n m : ℕ} (i port k mask : ℕ) → NodeAt g n (InstOut (record { 0 = i }) port) → mask_at masks i port ≡ Some mask → IsBitSet mask k → connection g i k ≡ Some (record { 0 = m }) → LocalStep g masks n m

-- the nodes that steps from the first one come to
pub data LocalPath (g : Graph) (masks : List (List ℕ)) : (from : ℕ) (to : ℕ) → Type 0 where
  here : {n : ℕ} → LocalPath g masks n n
  on : {n k m : ℕ} → LocalStep g masks n k → LocalPath g masks k m → LocalPath g masks n m

-- a closed path in what the outputs reach
abbrev pub HasLocalLoop : Graph → List (List ℕ) → Type 0
HasLocalLoop g masks = (n : ℕ) × (k : ℕ) × Reached g (node n) × LocalStep g masks n k × LocalPath g masks k n

-- a path leads from the output to the input
abbrev pub DependsLocally : Graph → List (List ℕ) → ℕ → ℕ → Type 0
DependsLocally g masks output input = (n : ℕ) × (m : ℕ) × (slice_get g.outputs output ≡ Some (record { 0 = n })) × NodeAt g m (Input input) × LocalPath g masks n m

-- One mask for each output: bit k is 1 exactly where the output depends on input k.
pub record AreLocalMasks (g : Graph) (masks : List (List ℕ)) (list : List ℕ) : Type 0 where
  pub many : length list ≡ length g.ports.outputs
  pub each : (output mask : ℕ) → slice_get list output ≡ Some mask → (k : ℕ) → IsBitSet mask k ↔ DependsLocally g masks output k

-- One list of masks for each instance of t. The tree of an instance has the ports written in the instance, no
-- combinational loop, and these masks.
pub record AreMasksOfKids (t : Tree) (masks : List (List ℕ)) : Type 0 where
  pub many : length masks ≡ length (graph t).instances
  pub ports : (i : ℕ) (it : Instance) → slice_get (graph t).instances i ≡ Some it → (graph (kid t i)).ports ≡ it.ports
  pub free : (i : ℕ) (it : Instance) → slice_get (graph t).instances i ≡ Some it → ¬ HasCombLoop (kid t i)
  pub right : (i : ℕ) (list : List ℕ) → slice_get masks i ≡ Some list → AreMasks (kid t i) list
