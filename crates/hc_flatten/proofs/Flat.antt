-- The graph that is laid is the flat graph of the tree.
use Rattle.std.proofs.Common.{◌≡◌, ℕ, zero, suc, ◌+◌, ◌<◌, Bool, false, List, [], ◌∷◌, length, map, refl, sym, ◌∙◌, ap, arith}
use Rattle.std.proofs.lemmas.List.{length-map}
use Rattle.std.proofs.lemmas.Option.{slice_get-map, slice_get_within}
use Rattle.std.specs.Prelude.{slice_get, Option, Some, None, option_map, if◌then◌else◌}
use Rattle.hc_signal.specs.Member.{Has, first, later}
use Rattle.hc_signal.specs.declared.signal.NodeId.{NodeId}
use Rattle.hc_signal.specs.declared.signal.NodeRow.{NodeRow}
use Rattle.hc_signal.specs.declared.signal.Node.TheVariants.{Input, Wire, InstOut}
use Rattle.hc_signal.specs.declared.signal.Memory.{Memory}
use Rattle.hc_signal.specs.declared.signal.Instance.{Instance}
use Rattle.hc_signal.specs.Graph.{mem}
use Rattle.hc_signal.specs.Lawful.{IsLawful}
use Rattle.hc_signal.specs.Renumber.{Renumbering, id_by, row_by, memory_by}
use Rattle.hc_signal.specs.Tree.{Tree, graph, kid}
use Rattle.hc_signal.specs.Occurrences as step
use Rattle.hc_signal.specs.Occurrences.{Occurrence, tree_at, graph_at, row_at, NodeIs, IsFlatNode, IsReachedPath, is_port_alias, connection, connection_of}
use Rattle.hc_signal.specs.FlatGraph.{FlatReached, FlatNumbering, within, IsFlat}
use Rattle.hc_walk.proofs.InRange.{HasRow, reached_row}
use Rattle.hc_walk.proofs.Members.{has_slice}
use Rattle.hc_paths.proofs.Composed.{step_reached}
use Rattle.hc_canon.specs.Numbering.{count_from}
use Rattle.hc_flatten.specs.declared.place.Place.{Place}
use Rattle.hc_flatten.specs.Sizes.{total, nodes_in, memories_in}
use Rattle.hc_flatten.specs.Flattened.{number_of, nodes_before, id_or_zero, connections, passes_on, unread, flat_row, own_nodes, own_memories, flat_nodes, flat_memories, flat_graph, top}
use Rattle.hc_flatten.proofs.Blocks.{place_at, IsThere, Block, laid, laid_length, block_at, nodes_are_laid, memories_are_laid}
use Rattle.hc_flatten.proofs.Good.{IsGood, lawful_of, good_at, there}
use Rattle.hc_flatten.proofs.Reaches.{flat_reached}
use Rattle.hc_flatten.proofs.Numbers.{numbers_at, node_number, counted_at, memory_number, flat_number, passed_same, same_numbers_row}

abbrev pub at : Tree → FlatNumbering
at t = record { node = λ path n. (numbers_at t path).node n; mem = λ path m. (numbers_at t path).mem m }

-- the occurrences of nodes, in the order of what is laid, and those of memories
abbrev spots_of : List ℕ → ℕ → List Occurrence
spots_of path many = map (λ n. record { path = path; node = n }) (count_from 0 many)

abbrev node_spots : Block Occurrence
node_spots path p g kids = spots_of path (length g.nodes)

abbrev memory_spots : Block Occurrence
memory_spots path p g kids = spots_of path (length g.memories)

spots_length : (path : List ℕ) (many : ℕ) → length (spots_of path many) ≡ many
spots_length path many = length-map (count_from 0 many) _ ∙ counted many 0
  where
    counted : (n a : ℕ) → length (count_from a n) ≡ n
    counted zero a = refl
    counted (suc n) a = ap suc (counted n (suc a))

spot_at : (path : List ℕ) (many k : ℕ) → k < many → slice_get (spots_of path many) k ≡ Some (record { path = path; node = k })
spot_at path many k b = slice_get-map _ (count_from 0 many) k ∙ ap (option_map (λ n. record { path = path; node = n })) (counted_at many 0 k b)
    ∙ (let e : 0 + k ≡ k = omega arith in ap (λ n. Some (record { path = path; node = n })) e)

abbrev occurrence_or : Option Occurrence → Occurrence
occurrence_or None = record { path = []; node = 0 }
occurrence_or (Some s) = s

-- what the flat graph has at the number of a node of an occurrence
pub row_laid : (t : Tree) (path : List ℕ) (n : ℕ) (row : NodeRow) → IsThere t path → slice_get (graph_at t path).nodes n ≡ Some row
    → slice_get (flat_graph t).nodes ((place_at t path).nodes + n) ≡ Some (flat_row (place_at t path) (numbers_at t path) row)
row_laid t path n row r e =
    ap (λ l. slice_get l ((place_at t path).nodes + n)) (nodes_are_laid t [] top)
    ∙ block_at (λ path. own_nodes) nodes_in (λ path p g kids. length-map g.nodes _) (λ p. p.nodes) (λ p g kids i. refl) refl refl t path n _ r
    (slice_get-map (flat_row (place_at t path) (numbers_at t path)) (graph_at t path).nodes n ∙ ap (option_map (flat_row (place_at t path) (numbers_at t path))) e)

pub memory_laid : (t : Tree) (path : List ℕ) (m : ℕ) (row : Memory) → IsThere t path → slice_get (graph_at t path).memories m ≡ Some row
    → slice_get (flat_graph t).memories ((place_at t path).memories + m) ≡ Some (memory_by (numbers_at t path) row)
memory_laid t path m row r e =
    ap (λ l. slice_get l ((place_at t path).memories + m)) (memories_are_laid t [] top)
    ∙ block_at (λ path. own_memories) memories_in (λ path p g kids. length-map g.memories _) (λ p. p.memories) (λ p g kids i. refl) refl refl t path m _ r
    (slice_get-map (memory_by (numbers_at t path)) (graph_at t path).memories m ∙ ap (option_map (memory_by (numbers_at t path))) e)

pub nodes_length : (t : Tree) → length (flat_nodes top t) ≡ total nodes_in t
nodes_length t = ap length (nodes_are_laid t [] top) ∙ laid_length (λ path. own_nodes) nodes_in (λ path p g kids. length-map g.nodes _) (λ p. p.nodes) (λ p g kids i. refl) refl refl t [] top

pub memories_length : (t : Tree) → length (flat_memories top t) ≡ total memories_in t
memories_length t = ap length (memories_are_laid t [] top) ∙ laid_length (λ path. own_memories) memories_in (λ path p g kids. length-map g.memories _) (λ p. p.memories)
    (λ p g kids i. refl) refl refl t [] top

-- a row that passes nothing on
pub kept_row : (p : Place) (r : Renumbering) (row : NodeRow) (b : Bool) → passes_on p.inputs row.node ≡ b → flat_row p r row ≡ (if b then unread row else row_by r row)
kept_row p r row b e = ap (λ c. if c then unread row else row_by r row) e

module _ (t : Tree) (w : IsGood t) where
  law_at : (path : List ℕ) → IsThere t path → IsLawful (graph_at t path)
  law_at path r = lawful_of (tree_at t path) (good_at t w path r)

  -- the wire of an output keeps its own number
  pub wire_number : (path : List ℕ) (port m : ℕ) → IsThere t path → slice_get (graph_at t path).outputs port ≡ Some (record { 0 = m }) → (numbers_at t path).node m ≡ (place_at t path).nodes + m
  wire_number path port m r o =
      let x : (row : NodeRow) × (driver : Option NodeId) × (slice_get (graph_at t path).nodes m ≡ Some row) × (row.node ≡ Wire driver) × (row.label ≡ None) = (law_at path r).wires
      (record { 0 = m }) (has_slice (graph_at t path).outputs port (record { 0 = m }) o) in
      flat_number t path m x.0 x.2 (ap (is_port_alias path) x.3)

  pub output_node : (path : List ℕ) (n i port m : ℕ) → IsThere t (i ∷ path) → NodeIs t path n (InstOut (record { 0 = i }) port)
      → slice_get (graph_at t (i ∷ path)).outputs port ≡ Some (record { 0 = m }) → (numbers_at t path).node n ≡ (numbers_at t (i ∷ path)).node m
  output_node path n i port m r y o =
      node_number t path n y.0 y.1
      ∙ ap (number_of (place_at t path) (graph_at t path) (λ j. kid (tree_at t path) j) n) y.2
      ∙ ap (λ z. nodes_before (place_at t path) (graph_at t path) (λ j. kid (tree_at t path) j) i + id_or_zero z) o
      ∙ sym (wire_number (i ∷ path) port m r o)

  pub input_node : (path : List ℕ) (n i port m : ℕ) → NodeIs t (i ∷ path) n (Input port) → connection (graph_at t path) i port ≡ Some (record { 0 = m })
      → (numbers_at t (i ∷ path)).node n ≡ (numbers_at t path).node m
  input_node path n i port m y o =
      node_number t (i ∷ path) n y.0 y.1
      ∙ ap (number_of (place_at t (i ∷ path)) (graph_at t (i ∷ path)) (λ j. kid (tree_at t (i ∷ path)) j) n) y.2
      ∙ ap id_or_zero (slice_get-map (id_by (numbers_at t path)) (connections (slice_get (graph_at t path).instances i)) port ∙ ap (option_map (id_by (numbers_at t path)))
      (connected (slice_get (graph_at t path).instances i) o))
    where
      connected : (it : Option Instance) → connection_of it port ≡ Some (record { 0 = m }) → slice_get (connections it) port ≡ Some (record { 0 = m })
      connected None e = cc
      connected (Some it) e = e

  flat_node : (s : Occurrence) → IsFlatNode t s → IsThere t s.path × ((row : NodeRow) × (slice_get (graph_at t s.path).nodes s.node ≡ Some row) × (is_port_alias s.path row.node ≡ false))
  flat_node s f = (there t w s.path f.0.0, f.1)

  pub row_of_flat : (path : List ℕ) (n : ℕ) (row : NodeRow) → IsThere t path → slice_get (graph_at t path).nodes n ≡ Some row → is_port_alias path row.node ≡ false
      → slice_get (flat_graph t).nodes ((numbers_at t path).node n) ≡ Some (row_by (numbers_at t path) row)
  row_of_flat path n row r e f =
      ap (slice_get (flat_graph t).nodes) (flat_number t path n row e f)
      ∙ row_laid t path n row r e
      ∙ ap Some (kept_row (place_at t path) (numbers_at t path) row false (passed_same t path row.node ∙ f))

  own_outputs : (ids : List NodeId) → ((id : NodeId) → Has ids id → Has (graph t).outputs id) → ids ≡ map (id_by (within (at t) [])) ids
  own_outputs [] h = refl
  own_outputs (id ∷ ids) h =
      let x : (row : NodeRow) × (driver : Option NodeId) × (slice_get (graph t).nodes id.0 ≡ Some row) × (row.node ≡ Wire driver) × (row.label ≡ None) = (law_at [] tt).wires id (h id first) in
      let n : id.0 ≡ (numbers_at t []).node id.0 = (let z : 0 + id.0 ≡ id.0 = omega arith in sym z) ∙ sym (flat_number t [] id.0 x.0 x.2 (ap (is_port_alias []) x.3)) in
      ap (λ k. record { 0 = k } ∷ ids) n ∙ ap (λ l. id_by (within (at t) []) id ∷ l) (own_outputs ids (λ k g. h k (later g)))

  -- the outputs of the top keep their numbers
  pub top_outputs : (graph t).outputs ≡ map (id_by (within (at t) [])) (graph t).outputs
  top_outputs = own_outputs (graph t).outputs (λ id h. h)

  pub is_flat : IsFlat t (flat_graph t)
  is_flat = record {
    at = at t;
    node_back = λ k. occurrence_or (slice_get (laid node_spots [] top t) k);
    mem_back = λ k. occurrence_or (slice_get (laid memory_spots [] top t) k);
    ports = refl;
    outputs = top_outputs;
    instances = refl;
    down = λ path n i port m r y o. output_node path n i port m (there t w (i ∷ path) (step_reached t (step.down port y o) (flat_reached t r)).0) y o;
    up = λ path n i port m r y o. input_node path n i port m y o;
    nodes = λ s r f. (let x : _ = flat_node s f in
        row_of_flat s.path s.node x.1.0 x.0 x.1.1 x.1.2
        ∙ ap (λ y. Some (record { width = x.1.0.width; node = y; label = x.1.0.label }))
        (same_numbers_row ((at t).node s.path) ((at t).mem s.path) (numbers_at t s.path).inst (λ i. i) s.path x.1.0.node x.1.2)
        ∙ sym (ap (option_map (row_by (within (at t) s.path))) x.1.1));
    own_number = λ s r f. (let x : _ = flat_node s f in
        ap (λ k. occurrence_or (slice_get (laid node_spots [] top t) k)) (flat_number t s.path s.node x.1.0 x.1.1 x.1.2)
        ∙ ap occurrence_or (block_at node_spots nodes_in (λ path p g kids. spots_length path (length g.nodes)) (λ p. p.nodes) (λ p g kids i. refl) refl refl t s.path s.node s x.0
        (spot_at s.path (length (graph_at t s.path).nodes) s.node (slice_get_within _ s.node x.1.0 x.1.1))));
    memories = λ path m r. (let x : _ = memory_row path m r in
        ap (slice_get (flat_graph t).memories) (memory_number t path m x.2)
        ∙ memory_laid t path m x.0 x.3 x.1
        ∙ sym (ap (option_map (memory_by (within (at t) path))) x.1));
    own_memory = λ path m r. (let x : _ = memory_row path m r in
        ap (λ k. occurrence_or (slice_get (laid memory_spots [] top t) k)) (memory_number t path m x.2)
        ∙ ap occurrence_or (block_at memory_spots memories_in (λ path p g kids. spots_length path (length g.memories)) (λ p. p.memories)
        (λ p g kids i. refl) refl refl t path m _ x.3 (spot_at path (length (graph_at t path).memories) m x.2)));
  }
    where
      memory_row : (path : List ℕ) (m : ℕ) → FlatReached t path (mem m)
          → (row : Memory) × (slice_get (graph_at t path).memories m ≡ Some row) × (m < length (graph_at t path).memories) × IsThere t path
      memory_row path m r =
          let f : _ = flat_reached t r in
          let a : IsThere t path = there t w path f.0 in
          let x : HasRow (graph_at t path) (mem m) = reached_row (graph_at t path) (law_at path a) f.1 in
          (x.0, x.1, slice_get_within _ m x.0 x.1, a)
