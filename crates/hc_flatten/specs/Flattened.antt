-- The flattened circuit of a tree: its occurrences one after another, each before those of its instances.
use Rattle.std.specs.Prelude.{◌≡◌, ℕ, zero, suc, ◌+◌, Bool, true, false, List, [], ◌∷◌, ◌++◌, map, length, slice_get, Option, Some, None, if◌then◌else◌}
use Rattle.hc_signal.specs.declared.signal.NodeId.{NodeId}
use Rattle.hc_signal.specs.declared.signal.NodeRow.{NodeRow}
use Rattle.hc_signal.specs.declared.signal.Node.{Node}
use Rattle.hc_signal.specs.declared.signal.Node.TheVariants.{Input, Wire, InstOut}
use Rattle.hc_signal.specs.declared.signal.Memory.{Memory}
use Rattle.hc_signal.specs.declared.signal.Instance.{Instance}
use Rattle.hc_signal.specs.Graph.{Graph}
use Rattle.hc_signal.specs.Renumber.{Renumbering, id_by, row_by, memory_by}
use Rattle.hc_signal.specs.Tree.{Tree, none, tree, graph, leaf}
use Rattle.hc_signal.specs.Lawful.{IsLawful}
use Rattle.hc_signal.specs.Checked.{IsChecked}
use Rattle.hc_signal.specs.FlatGraph.{IsFlat}
use Rattle.hc_signal.specs.Occurrences.{HasCombLoop}
use Rattle.hc_canon.specs.Numbering.{count_from}
use Rattle.hc_canon.specs.Numbers.{by_tables}
use Rattle.hc_canon.specs.FormView.{FormView}
use Rattle.hc_dbstate.specs.Unfolding.{kid_tree, unfolding_of}
use Rattle.hc_flatten.specs.declared.place.Place.{Place}
use Rattle.hc_flatten.specs.declared.place.Kid.{Kid}
use Rattle.hc_flatten.specs.declared.size.Size.{Size}
use Rattle.hc_flatten.specs.Sizes.{sum_to, total, nodes_in, memories_in}

-- the first n lists, one after another
abbrev pub joined : {X : Type 0} → (ℕ → List X) → ℕ → List X
joined f zero = []
joined f (suc n) = joined f n ++ f n

abbrev pub id_or_zero : Option NodeId → ℕ
id_or_zero None = 0
id_or_zero (Some id) = id.0

-- where the nodes of instance i begin, and its memories
abbrev pub nodes_before : Place → Graph → (ℕ → Tree) → ℕ → ℕ
nodes_before p g kids i = p.nodes + length g.nodes + sum_to (λ j. total nodes_in (kids j)) i

abbrev pub memories_before : Place → Graph → (ℕ → Tree) → ℕ → ℕ
memories_before p g kids i = p.memories + length g.memories + sum_to (λ j. total memories_in (kids j)) i

-- The number of an input: its own at the top, and else that of its connection.
abbrev pub input_number : Option (List NodeId) → ℕ → ℕ → ℕ
input_number None port own = own
input_number (Some ids) port own = id_or_zero (slice_get ids port)

-- the number of an output of instance i
abbrev pub output_number : Place → Graph → (ℕ → Tree) → ℕ → ℕ → ℕ
output_number p g kids i port = nodes_before p g kids i + id_or_zero (slice_get (graph (kids i)).outputs port)

-- The number of node n: that of what it passes on, or else its own.
abbrev pub number_of : Place → Graph → (ℕ → Tree) → ℕ → Node → ℕ
number_of p g kids n (Input port) = input_number p.inputs port (p.nodes + n)
number_of p g kids n (InstOut i port) = output_number p g kids i.0 port
number_of p g kids n other = p.nodes + n

-- the numbers of these rows, the first of which is row n
abbrev pub numbers_from : Place → Graph → (ℕ → Tree) → ℕ → List NodeRow → List ℕ
numbers_from p g kids n [] = []
numbers_from p g kids n (row ∷ rows) = number_of p g kids n row.node ∷ numbers_from p g kids (suc n) rows

abbrev pub numbering : Place → Graph → (ℕ → Tree) → Renumbering
numbering p g kids = by_tables (numbers_from p g kids 0 g.nodes) (count_from p.memories (length g.memories)) []

-- whether a node passes on another one
abbrev pub passes_on : Option (List NodeId) → Node → Bool
passes_on None (Input port) = false
passes_on (Some ids) (Input port) = true
passes_on inputs (InstOut i port) = true
passes_on inputs other = false

-- What passes another node on leaves a wire that nothing reads.
abbrev pub unread : NodeRow → NodeRow
unread row = record { width = row.width; node = Wire None; label = None }

abbrev pub flat_row : Place → Renumbering → NodeRow → NodeRow
flat_row p r row = if passes_on p.inputs row.node then unread row else row_by r row

abbrev pub connections : Option Instance → List NodeId
connections None = []
connections (Some it) = it.conns

-- where instance i is laid
abbrev pub kid_place : Place → Graph → (ℕ → Tree) → ℕ → Place
kid_place p g kids i = record {
  nodes = nodes_before p g kids i;
  memories = memories_before p g kids i;
  inputs = Some (map (id_by (numbering p g kids)) (connections (slice_get g.instances i)));
}

abbrev pub own_nodes : Place → Graph → (ℕ → Tree) → List NodeRow
own_nodes p g kids = map (flat_row p (numbering p g kids)) g.nodes

abbrev pub own_memories : Place → Graph → (ℕ → Tree) → List Memory
own_memories p g kids = map (memory_by (numbering p g kids)) g.memories

abbrev pub flat_nodes : Place → Tree → List NodeRow
flat_nodes p none = []
flat_nodes p (tree g kids) = own_nodes p g kids ++ joined (λ i. flat_nodes (kid_place p g kids i) (kids i)) (length g.instances)

abbrev pub flat_memories : Place → Tree → List Memory
flat_memories p none = []
flat_memories p (tree g kids) = own_memories p g kids ++ joined (λ i. flat_memories (kid_place p g kids i) (kids i)) (length g.instances)

abbrev pub top : Place
top = record { nodes = 0; memories = 0; inputs = None }

abbrev pub flat_graph : Tree → Graph
flat_graph t = record { ports = (graph t).ports; outputs = (graph t).outputs; nodes = flat_nodes top t; memories = flat_memories top t; instances = [] }

-- the trees of the kids of a form
abbrev pub kid_trees : List FormView → FormView → ℕ → Tree
kid_trees entries form i = kid_tree (λ k. unfolding_of entries (record { 0 = k })) (slice_get form.kids i)

-- a kid for each instance of the form, at its place
pub record AreKids (entries : List FormView) (form : FormView) (p : Place) (kids : List Kid) : Type 0 where
  pub many : length kids ≡ length form.circuit.instances
  pub each : (i : ℕ) (kid : Kid) → slice_get kids i ≡ Some kid → (slice_get form.kids i ≡ Some kid.entry) × (kid.place ≡ kid_place p form.circuit (kid_trees entries form) i)

abbrev pub IsEntry : List FormView → FormView → Type 0
IsEntry entries form = (k : ℕ) × (slice_get entries k ≡ Some form)

-- where each instance begins
pub record AreStarts (p : Place) (g : Graph) (kids : ℕ → Tree) (starts : List Size) : Type 0 where
  pub many : length starts ≡ length g.instances
  pub each : (i : ℕ) (start : Size) → slice_get starts i ≡ Some start → (start.nodes ≡ nodes_before p g kids i) × (start.memories ≡ memories_before p g kids i)

-- instance i of a form, laid from these starts on under these numbers
pub record IsKid (form : FormView) (start : Size) (r : Renumbering) (i : ℕ) (kid : Kid) : Type 0 where
  pub entry : slice_get form.kids i ≡ Some kid.entry
  pub place : kid.place ≡ record { nodes = start.nodes; memories = start.memories; inputs = Some (map (id_by r) (connections (slice_get form.circuit.instances i))) }

pub record AreKidsAt (form : FormView) (starts : List Size) (r : Renumbering) (kids : List Kid) : Type 0 where
  pub many : length kids ≡ length starts
  pub each : (i : ℕ) (start : Size) (kid : Kid) → slice_get starts i ≡ Some start → slice_get kids i ≡ Some kid → IsKid form start r i kid

-- all that is said of a flattened circuit
pub record IsFlattened (t : Tree) (g : Graph) : Type 0 where
  pub lawful : IsLawful g
  pub flat : IsFlat t g
  pub instances : g.instances ≡ []
  pub checked : IsChecked g
  pub no_loop : ¬ HasCombLoop (leaf g)
