-- The names in a module, and the order in which they are taken.
use Rattle.std.specs.Prelude.{◌≡◌, ℕ, ◌-◌, Bool, true, false, ◌==◌, if◌then◌else◌, List, [], ◌∷◌, ◌++◌, map, length, drop, filter, unwrap_or, codes, decimal}
use Rattle.std.specs.List.{zip, list_any, enumerate_from}
use Rattle.hc_signal.specs.declared.signal.Port.{Port}
use Rattle.hc_signal.specs.declared.signal.NodeId.{NodeId}
use Rattle.hc_signal.specs.declared.signal.NodeRow.{NodeRow}
use Rattle.hc_signal.specs.declared.signal.Node.{Node}
use Rattle.hc_signal.specs.declared.signal.Node.TheVariants.{Op}
use Rattle.hc_signal.specs.declared.signal.Memory.{Memory}
use Rattle.hc_signal.specs.declared.signal.Instance.{Instance}
use Rattle.hc_signal.specs.Graph.{Graph, Vertex, node, mem, inst}
use Rattle.hc_names.specs.Mangling.{IsMangled}

-- What has a name in a module: the clock, a vertex, the cell of an operation.
pub data Named : Type 0 where
  clock : Named
  vertex : Vertex → Named
  cell : ℕ → Named

abbrev pub same_vertex : Vertex → Vertex → Bool
same_vertex (node a) (node b) = a == b
same_vertex (mem a) (mem b) = a == b
same_vertex (inst a) (inst b) = a == b
same_vertex p q = false

abbrev pub same_named : Named → Named → Bool
same_named clock clock = true
same_named (vertex p) (vertex q) = same_vertex p q
same_named (cell a) (cell b) = a == b
same_named p q = false

-- The input nodes come first, so the numbered nodes begin at the place after them.
abbrev pub first_number : Graph → ℕ
first_number g = length g.ports.inputs

-- the numbered nodes with their places
abbrev pub numbered_nodes : Graph → List (ℕ × NodeRow)
numbered_nodes g = enumerate_from (first_number g) (drop (first_number g) g.nodes)

abbrev pub is_output : Graph → ℕ → Bool
is_output g n = list_any (λ (id : NodeId). id.0 == n) g.outputs

abbrev pub is_inner : Graph → ℕ × NodeRow → Bool
is_inner g p = if is_output g p.0 then false else true

-- the numbered nodes that are no output
abbrev pub inner_nodes : Graph → List (ℕ × NodeRow)
inner_nodes g = filter (is_inner g) (numbered_nodes g)

abbrev pub is_operation : Node → Bool
is_operation (Op kind args) = true
is_operation other = false

abbrev pub is_operation_row : ℕ × NodeRow → Bool
is_operation_row p = is_operation p.1.node

abbrev pub operation_nodes : Graph → List (ℕ × NodeRow)
operation_nodes g = filter is_operation_row (numbered_nodes g)

-- a letter and the number of the node at a place
abbrev pub node_name : Graph → List ℕ → ℕ → List ℕ
node_name g letter n = letter ++ decimal (n - first_number g)

-- What is to have a name, with the name that is wanted for it.
abbrev pub Wants : Type 0
Wants = List (Named × List ℕ)

abbrev pub want_input : ℕ × Port → Named × List ℕ
want_input p = (vertex (node p.0), p.1.name)

abbrev pub want_output : NodeId × Port → Named × List ℕ
want_output p = (vertex (node p.0.0), p.1.name)

abbrev pub want_node : Graph → ℕ × NodeRow → Named × List ℕ
want_node g p = (vertex (node p.0), unwrap_or p.1.label (node_name g (codes "n") p.0))

abbrev pub want_memory : ℕ × Memory → Named × List ℕ
want_memory p = (vertex (mem p.0), unwrap_or p.1.label (codes "m" ++ decimal p.0))

abbrev pub want_instance : ℕ × Instance → Named × List ℕ
want_instance p = (vertex (inst p.0), unwrap_or p.1.label (codes "u" ++ decimal p.0))

abbrev pub want_cell : Graph → ℕ × NodeRow → Named × List ℕ
want_cell g p = (cell p.0, node_name g (codes "o") p.0)

abbrev pub want_inputs : Graph → Wants
want_inputs g = map want_input (enumerate_from 0 g.ports.inputs)

abbrev pub want_outputs : Graph → Wants
want_outputs g = map want_output (zip g.outputs g.ports.outputs)

abbrev pub want_nodes : Graph → Wants
want_nodes g = map (want_node g) (inner_nodes g)

abbrev pub want_memories : Graph → Wants
want_memories g = map want_memory (enumerate_from 0 g.memories)

abbrev pub want_instances : Graph → Wants
want_instances g = map want_instance (enumerate_from 0 g.instances)

abbrev pub want_cells : Graph → Wants
want_cells g = map (want_cell g) (operation_nodes g)

-- the wanted names, in the order in which they are taken
abbrev pub wanted : Graph → Wants
wanted g = (clock, codes "clock") ∷ (want_inputs g ++ (want_outputs g ++ (want_nodes g ++ (want_memories g ++ (want_instances g ++ want_cells g)))))

-- The names given for the wanted ones: each is mangled against those used before it.
abbrev pub Takes : List (List ℕ) → Wants → List (Named × List ℕ) → Type 0
Takes used [] [] = Unit {0}
Takes used (want ∷ wants) (given ∷ names) = (given.0 ≡ want.0) × IsMangled want.1 used given.1 × Takes (used ++ given.1 ∷ []) wants names
Takes used [] (given ∷ names) = ⊥
Takes used (want ∷ wants) [] = ⊥

-- the name that was given to something
abbrev pub name_in : List (Named × List ℕ) → Named → List ℕ
name_in [] it = []
name_in (given ∷ names) it = if same_named given.0 it then given.1 else name_in names it

-- the name of a node, where `name` gives each thing its name
unfoldable pub name_of_id : (Named → List ℕ) → NodeId → List ℕ
name_of_id name id = name (vertex (node id.0))
