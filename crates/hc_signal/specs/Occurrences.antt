-- The flattened view of a tree: its nodes by path, what each is computed from, combinational loops and masks.
use Rattle.std.specs.Prelude.{◌≡◌, Bool, true, false, ℕ, ◌↔◌, List, [], ◌∷◌, length, slice_get, Option, Some, None, IsBitSet, option_to_list}
use Rattle.hc_signal.specs.Member.{Has}
use Rattle.hc_signal.specs.declared.signal.NodeId.{NodeId}
use Rattle.hc_signal.specs.declared.signal.NodeRow.{NodeRow}
use Rattle.hc_signal.specs.declared.signal.Instance.{Instance}
use Rattle.hc_signal.specs.declared.signal.Node.{Node}
use Rattle.hc_signal.specs.declared.signal.Node.TheVariants.{Input, Wire, Const, Two, Not, Mux, Cat, Select, Reg, Read, InstOut, Op}
use Rattle.hc_signal.specs.Graph.{Graph, node, inst, Reached}
use Rattle.hc_signal.specs.Tree.{Tree, graph, kid}

-- A path is the numbers of instances, the innermost first.
abbrev pub tree_at : Tree → List ℕ → Tree
tree_at t [] = t
tree_at t (i ∷ path) = kid (tree_at t path) i

abbrev pub graph_at : Tree → List ℕ → Graph
graph_at t path = graph (tree_at t path)

abbrev pub IsReachedPath : Tree → List ℕ → Type 0
IsReachedPath t [] = Unit {0}
IsReachedPath t (i ∷ path) = IsReachedPath t path × Reached (graph_at t path) (inst i)

-- a node by the path of its graph and its number there
pub record Occurrence : Type 0 where
  pub path : List ℕ
  pub node : ℕ

abbrev pub row_at : Tree → Occurrence → Option NodeRow
row_at t s = slice_get (graph_at t s.path).nodes s.node

abbrev pub IsReachedOccurrence : Tree → Occurrence → Type 0
IsReachedOccurrence t s = IsReachedPath t s.path × Reached (graph_at t s.path) (node s.node)

-- the node of an occurrence
abbrev pub NodeIs : Tree → List ℕ → ℕ → Node → Type 0
NodeIs t path n x = (row : NodeRow) × (slice_get (graph_at t path).nodes n ≡ Some row) × (row.node ≡ x)

-- The operands of a node that count in the same cycle: none of a register, and of a read its address.
abbrev pub comb_fanin : Node → List NodeId
comb_fanin (Input port) = []
comb_fanin (Wire driver) = option_to_list driver
comb_fanin (Const value) = []
comb_fanin (Two op a b) = a ∷ b ∷ []
comb_fanin (Not a) = a ∷ []
comb_fanin (Mux sel cases) = sel ∷ cases
comb_fanin (Cat parts) = parts
comb_fanin (Select a hi lo) = a ∷ []
comb_fanin (Reg next enable clear init) = []
comb_fanin (Read m addr) = addr ∷ []
comb_fanin (InstOut i port) = []
comb_fanin (Op kind args) = args

-- what the input of an instance is connected to
abbrev pub connection_of : Option Instance → ℕ → Option NodeId
connection_of None port = None
connection_of (Some it) port = slice_get it.conns port

abbrev pub connection : Graph → ℕ → ℕ → Option NodeId
connection g i port = connection_of (slice_get g.instances i) port

-- From an occurrence to one that it is computed from in the same cycle. An instance output passes on the wire
-- of the inner output, and an input below the top the connection of its instance.
pub data CombStep (t : Tree) : (path : List ℕ) (n : ℕ) (to : List ℕ) (m : ℕ) → Type 0 where
  inside : {path : List ℕ} {n m : ℕ} (x : Node) → NodeIs t path n x → Has (comb_fanin x) (record { 0 = m }) → CombStep t path n path m
  down : {path : List ℕ} {n m i : ℕ} (port : ℕ) → NodeIs t path n (InstOut (record { 0 = i }) port) → slice_get (graph_at t (i ∷ path)).outputs port ≡ Some (record { 0 = m }) → CombStep t path n (i ∷ path) m
  up : {path : List ℕ} {n m i : ℕ} (port : ℕ) → NodeIs t (i ∷ path) n (Input port) → connection (graph_at t path) i port ≡ Some (record { 0 = m }) → CombStep t (i ∷ path) n path m

-- the occurrences that a walk from the first one comes to
pub data CombPath (t : Tree) : (path : List ℕ) (n : ℕ) (to : List ℕ) (m : ℕ) → Type 0 where
  here : {path : List ℕ} {n : ℕ} → CombPath t path n path n
  on : {path mid to : List ℕ} {n k m : ℕ} → CombStep t path n mid k → CombPath t mid k to m → CombPath t path n to m

-- a closed walk
abbrev pub HasCombLoop : Tree → Type 0
HasCombLoop t = (s : Occurrence) × (next : Occurrence) × IsReachedOccurrence t s × CombStep t s.path s.node next.path next.node × CombPath t next.path next.node s.path s.node

-- A flat node is a reached node that is neither an instance output nor an input below the top.
abbrev pub below_top : List ℕ → Bool
below_top [] = false
below_top (i ∷ path) = true

abbrev pub is_port_alias : List ℕ → Node → Bool
is_port_alias path (InstOut i port) = true
is_port_alias path (Input port) = below_top path
is_port_alias path other = false

abbrev pub IsFlatNode : Tree → Occurrence → Type 0
IsFlatNode t s = IsReachedOccurrence t s × ((row : NodeRow) × (row_at t s ≡ Some row) × (is_port_alias s.path row.node ≡ false))

-- The flat node that an occurrence stands for: itself, or what it passes on, in turn.
pub data ResolvesTo (t : Tree) : (path : List ℕ) (n : ℕ) (to : List ℕ) (m : ℕ) → Type 0 where
  itself : {path : List ℕ} {n : ℕ} → IsFlatNode t (record { path = path; node = n }) → ResolvesTo t path n path n
  passed : {path mid to : List ℕ} {n k m : ℕ} (x : Node) → NodeIs t path n x → is_port_alias path x ≡ true → CombStep t path n mid k → ResolvesTo t mid k to m → ResolvesTo t path n to m

-- From a flat node to one that an operand of the same cycle stands for, and walks of such steps.
pub data FlatLeads (t : Tree) : (path : List ℕ) (n : ℕ) (to : List ℕ) (m : ℕ) → Type 0 where
  stay : {path : List ℕ} {n : ℕ} → FlatLeads t path n path n
  go : {path mid at to : List ℕ} {n k j m : ℕ} → IsFlatNode t (record { path = path; node = n }) → CombStep t path n mid k → ResolvesTo t mid k at j → FlatLeads t at j to m → FlatLeads t path n to m

abbrev pub HasFlatLoop : Tree → Type 0
HasFlatLoop t = (s : Occurrence) × (operand : Occurrence) × (next : Occurrence) × IsFlatNode t s × CombStep t s.path s.node operand.path operand.node × ResolvesTo t operand.path operand.node next.path next.node × FlatLeads t next.path next.node s.path s.node

-- the output depends on the input in the same cycle
abbrev pub DependsOn : Tree → ℕ → ℕ → Type 0
DependsOn t output input = (n : ℕ) × (m : ℕ) × (slice_get (graph t).outputs output ≡ Some (record { 0 = n })) × NodeIs t [] m (Input input) × CombPath t [] n [] m

-- The mask of an output: bit k is 1 exactly where the output depends on input k.
abbrev pub IsMask : Tree → ℕ → ℕ → Type 0
IsMask t output mask = (k : ℕ) → IsBitSet mask k ↔ DependsOn t output k

pub record AreMasks (t : Tree) (masks : List ℕ) : Type 0 where
  pub many : length masks ≡ length (graph t).ports.outputs
  pub each : (output mask : ℕ) → slice_get masks output ≡ Some mask → IsMask t output mask
