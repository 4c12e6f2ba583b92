-- What is true of each circuit.
use Rattle.std.specs.Prelude.{◌≡◌, ℕ, ◌+◌, ◌-◌, ◌^◌, ◌<◌, ◌≤◌, List, [], ◌∷◌, map, sum, length, slice_get, Option, Some, None}
use Rattle.hc_signal.specs.Member.{Has}
use Rattle.hc_signal.specs.declared.signal.Ports.{Ports}
use Rattle.hc_signal.specs.declared.signal.Port.{Port}
use Rattle.hc_signal.specs.declared.signal.NodeId.{NodeId}
use Rattle.hc_signal.specs.declared.signal.NodeRow.{NodeRow}
use Rattle.hc_signal.specs.declared.signal.Node.{Node}
use Rattle.hc_signal.specs.declared.signal.Node.TheVariants.{Input, Wire, Const, Two, Not, Mux, Cat, Select, Reg, Read, InstOut, Op}
use Rattle.hc_signal.specs.declared.signal.Op2.{Op2}
use Rattle.hc_signal.specs.declared.signal.Op2.TheVariants.{Mulu, Muls, Eq, Lt}
use Rattle.hc_signal.specs.declared.signal.Memory.{Memory}
use Rattle.hc_signal.specs.declared.signal.WritePort.{WritePort}
use Rattle.hc_signal.specs.declared.signal.Instance.{Instance}
use Rattle.hc_bits.specs.BitVector.{BitVector, IsWidth, IsVector}
use Rattle.hc_bits.specs.Catalogue.{arity, result_width}
use Rattle.hc_signal.specs.Graph.{Graph}

-- the node is there and has this width
abbrev pub HasWidth : Graph → NodeId → ℕ → Type 0
HasWidth g id w = (row : NodeRow) × (slice_get g.nodes id.0 ≡ Some row) × (row.width ≡ w)

abbrev pub AllHaveWidth : Graph → List NodeId → ℕ → Type 0
AllHaveWidth g ids w = (id : NodeId) → Has ids id → HasWidth g id w

-- if there is a node, it has this width
abbrev pub MayHaveWidth : Graph → Option NodeId → ℕ → Type 0
MayHaveWidth g None w = Unit {0}
MayHaveWidth g (Some id) w = HasWidth g id w

abbrev pub MayClear : Graph → Option (NodeId × BitVector) → ℕ → Type 0
MayClear g None w = Unit {0}
MayClear g (Some c) w = HasWidth g c.0 1 × IsVector c.1 w

-- the width that an operator gives operands of these widths, which are equal but for products
abbrev pub FitsTwo : Op2 → ℕ → ℕ → ℕ → Type 0
FitsTwo Mulu v w r = r ≡ v + w
FitsTwo Muls v w r = r ≡ v + w
FitsTwo Eq v w r = (v ≡ w) × (r ≡ 1)
FitsTwo Lt v w r = (v ≡ w) × (r ≡ 1)
FitsTwo op v w r = (v ≡ w) × (r ≡ v)

-- parts of these widths, one for each
abbrev pub HaveWidths : Graph → List NodeId → List ℕ → Type 0
HaveWidths g [] [] = Unit {0}
HaveWidths g (id ∷ ids) (w ∷ ws) = HasWidth g id w × HaveWidths g ids ws
HaveWidths g [] (w ∷ ws) = ⊥
HaveWidths g (id ∷ ids) [] = ⊥

-- each rule of the call that makes a node of width w
abbrev pub IsLawfulNode : Graph → ℕ → Node → Type 0
IsLawfulNode g w (Input port) = (p : Port) × (slice_get g.ports.inputs port ≡ Some p) × (p.width ≡ w)
IsLawfulNode g w (Wire driver) = MayHaveWidth g driver w
IsLawfulNode g w (Const value) = IsVector value w
IsLawfulNode g w (Two op a b) = (v : ℕ) × (u : ℕ) × HasWidth g a v × HasWidth g b u × FitsTwo op v u w
IsLawfulNode g w (Not a) = HasWidth g a w
IsLawfulNode g w (Mux sel cases) = (s : ℕ) × HasWidth g sel s × (2 ≤ length cases) × (length cases ≤ 2 ^ s) × AllHaveWidth g cases w
IsLawfulNode g w (Cat parts) = (ws : List ℕ) × (2 ≤ length parts) × HaveWidths g parts ws × (w ≡ sum ws)
IsLawfulNode g w (Select a hi lo) = (v : ℕ) × HasWidth g a v × (lo ≤ hi) × (hi < v) × (w ≡ hi - lo + 1)
IsLawfulNode g w (Reg next enable clear init) = HasWidth g next w × MayHaveWidth g enable 1 × MayClear g clear w × IsVector init w
IsLawfulNode g w (Read m addr) = (a : ℕ) × HasWidth g addr a × ((mem : Memory) × (slice_get g.memories m.0 ≡ Some mem) × (mem.width ≡ w))
IsLawfulNode g w (InstOut i port) = (it : Instance) × (p : Port) × (slice_get g.instances i.0 ≡ Some it) × (slice_get it.ports.outputs port ≡ Some p) × (p.width ≡ w)
IsLawfulNode g w (Op kind args) = (v : ℕ) × (length args ≡ arity kind) × AllHaveWidth g args v × (w ≡ result_width kind v)

pub record IsLawfulWrite (g : Graph) (m : Memory) (w : WritePort) : Type 0 where
  pub enable : HasWidth g w.enable 1
  pub addr : (a : ℕ) × HasWidth g w.addr a
  pub value : HasWidth g w.value m.width

pub record IsLawfulMemory (g : Graph) (m : Memory) : Type 0 where
  pub width : IsWidth m.width
  pub size : (1 ≤ m.size) × (m.size ≤ 65536)
  pub writes : (w : WritePort) → Has m.writes w → IsLawfulWrite g m w

abbrev pub HaveWidthsOf : Graph → List NodeId → List Port → Type 0
HaveWidthsOf g ids ports = HaveWidths g ids (map (λ (p : Port). p.width) ports)

pub record ArePorts (ports : Ports) : Type 0 where
  pub inputs : (p : Port) → Has ports.inputs p → IsWidth p.width
  pub outputs : (p : Port) → Has ports.outputs p → IsWidth p.width

pub record IsLawfulInstance (g : Graph) (i : Instance) : Type 0 where
  pub ports : ArePorts i.ports
  pub conns : HaveWidthsOf g i.conns i.ports.inputs

abbrev pub NodeAt : Graph → ℕ → Node → Type 0
NodeAt g n x = (row : NodeRow) × (slice_get g.nodes n ≡ Some row) × (row.node ≡ x)

pub record IsLawful (g : Graph) : Type 0 where
  pub ports : ArePorts g.ports
  pub nodes : (n : ℕ) (row : NodeRow) → slice_get g.nodes n ≡ Some row → IsWidth row.width × IsLawfulNode g row.width row.node
  pub memories : (m : Memory) → Has g.memories m → IsLawfulMemory g m
  pub instances : (i : Instance) → Has g.instances i → IsLawfulInstance g i
  -- each output port has a wire of its own, of its width and without a label
  pub outputs : HaveWidthsOf g g.outputs g.ports.outputs
  pub wires : (id : NodeId) → Has g.outputs id → (row : NodeRow) × (driver : Option NodeId) × (slice_get g.nodes id.0 ≡ Some row) × (row.node ≡ Wire driver) × (row.label ≡ None)
  pub own_wire : (i j : ℕ) (id : NodeId) → slice_get g.outputs i ≡ Some id → slice_get g.outputs j ≡ Some id → i ≡ j
  -- each input port has one input node, without a label
  pub inputs : (k : ℕ) → k < length g.ports.inputs → (n : ℕ) × NodeAt g n (Input k)
  pub one_input : (m n k : ℕ) → NodeAt g m (Input k) → NodeAt g n (Input k) → m ≡ n
  pub no_label : (n k : ℕ) (row : NodeRow) → slice_get g.nodes n ≡ Some row → row.node ≡ Input k → row.label ≡ None
  -- an output of an instance has at most one node
  pub one_output : (m n k : ℕ) (i : _) → NodeAt g m (InstOut i k) → NodeAt g n (InstOut i k) → m ≡ n
  -- each number of a place fits 32 bits
  pub few : (length g.nodes ≤ 4294967296) × (length g.memories ≤ 4294967296) × (length g.instances ≤ 4294967296)
