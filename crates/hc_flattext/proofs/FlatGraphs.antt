-- Two flat graphs of one tree are isomorphic.
use Rattle.std.proofs.Common.{◌≡◌, ℕ, List, [], map, refl, sym, subst, ◌∙◌, ap}
use Rattle.std.specs.Prelude.{slice_get, option_map}
use Rattle.hc_signal.specs.Member.{Has}
use Rattle.hc_walk.proofs.Members.{has_from_map}
use Rattle.hc_signal.specs.declared.signal.Instance.{Instance}
use Rattle.hc_signal.specs.Graph.{Graph, Vertex, node, mem, inst, Reached, output, further, fanin, fanin_of_row, fanin_of_memory, fanin_of_instance, nodes_of}
use Rattle.hc_signal.specs.Tree.{Tree, graph, IsWhole, leaf}
use Rattle.hc_signal.specs.Renumber.{Renumbering, renumber, id_by, row_by, memory_by, instance_by}
use Rattle.hc_signal.specs.Occurrences.{Occurrence, graph_at, row_at, IsFlatNode}
use Rattle.hc_signal.specs.FlatGraph.{FlatReached, to_node, to_mem, within, IsFlat}
use Rattle.hc_signal.specs.FlatGraph as flat
use Rattle.hc_canon.specs.Same.{IsIsomorphism, Same}
use Rattle.hc_canon.proofs.Renumbered.{then, ids_then, row_then, memory_then}
use Rattle.hc_canon.proofs.Isomorphisms.{nodes_of_by, row_parts_by, memory_parts_by}
use Rattle.hc_flattext.proofs.Agreeing.{Agree, ids_agree, row_agrees, memory_agrees}
use Rattle.hc_flattext.proofs.Standing.{Stands, stands}

module _ (t : Tree) (whole : IsWhole t) where
  -- what of the tree a vertex of a flat graph is
  module _ (g : Graph) (f : IsFlat t g) where
    record NodeOf (n : ℕ) : Type 0 where
      pub spot : Occurrence
      pub reached : FlatReached t spot.path (node spot.node)
      pub flat : IsFlatNode t spot
      pub number : f.at.node spot.path spot.node ≡ n

    record MemoryOf (m : ℕ) : Type 0 where
      pub path : List ℕ
      pub place : ℕ
      pub reached : FlatReached t path (mem place)
      pub number : f.at.mem path place ≡ m

    abbrev Of : Vertex → Type 0
    Of (node n) = NodeOf n
    Of (mem m) = MemoryOf m
    Of (inst i) = Unit {0}

    node_at : (path : List ℕ) (n : ℕ) → FlatReached t path (node n) → NodeOf (f.at.node path n)
    node_at path n r = (let s : Stands t whole path n = stands t whole path n r in record { spot = s.spot; reached = s.reached; flat = s.flat; number = sym (s.number g f) })

    part_of : (path : List ℕ) (p q : Vertex) → FlatReached t path p → Has (fanin (graph_at t path) p) q → Of (renumber (within f.at path) q)
    part_of path p (node n) r h = node_at path n (to_node r h)
    part_of path p (mem m) r h = record { path = path; place = m; reached = to_mem r h; number = refl }
    part_of path p (inst i) r h = tt

    parts_of : (path : List ℕ) (p q : Vertex) → FlatReached t path p → Has (map (renumber (within f.at path)) (fanin (graph_at t path) p)) q → Of q
    parts_of path p q r h =
        let x : (v : Vertex) × Has (fanin (graph_at t path) p) v × (renumber (within f.at path) v ≡ q) = has_from_map (renumber (within f.at path)) (fanin (graph_at t path) p) q h in
        subst Of x.2 (part_of path p x.0 r x.1)

    row_of : (n : ℕ) (s : NodeOf n) → slice_get g.nodes n ≡ option_map (row_by (within f.at s.spot.path)) (row_at t s.spot)
    row_of n s = ap (slice_get g.nodes) (sym s.number) ∙ f.nodes s.spot s.reached s.flat

    memory_of : (m : ℕ) (s : MemoryOf m) → slice_get g.memories m ≡ option_map (memory_by (within f.at s.path)) (slice_get (graph_at t s.path).memories s.place)
    memory_of m s = ap (slice_get g.memories) (sym s.number) ∙ f.memories s.path s.place s.reached

    of_further : (p q : Vertex) → Of p → Has (fanin g p) q → Of q
    of_further (node n) q s h = parts_of s.spot.path (node s.spot.node) q s.reached (subst (λ l. Has l q) (ap fanin_of_row (row_of n s) ∙ row_parts_by (within f.at s.spot.path) (row_at t s.spot)) h)
    of_further (mem m) q s h = parts_of s.path (mem s.place) q s.reached
        (subst (λ l. Has l q) (ap fanin_of_memory (memory_of m s) ∙ memory_parts_by (within f.at s.path) (slice_get (graph_at t s.path).memories s.place)) h)
    of_further (inst i) q s h = nothing (subst (λ (l : List Instance). Has (fanin_of_instance (slice_get l i)) q) f.instances h)
      where
        nothing : Has [] q → Of q
        nothing k = elim k [ ]

    of : {p : Vertex} → Reached g p → Of p
    of (output p h) =
        let is : nodes_of g.outputs ≡ map (renumber (within f.at [])) (nodes_of (graph t).outputs) = ap nodes_of f.outputs ∙ nodes_of_by (within f.at []) (graph t).outputs in
        let x : (v : Vertex) × Has (nodes_of (graph t).outputs) v × (renumber (within f.at []) v ≡ p) = has_from_map (renumber (within f.at [])) (nodes_of (graph t).outputs) p
        (subst (λ l. Has l p) is h) in
        subst Of x.2 (first_of x.0 (flat.output x.1))
      where
        first_of : (v : Vertex) → FlatReached t [] v → Of (renumber (within f.at []) v)
        first_of (node n) r = node_at [] n r
        first_of (mem m) r = record { path = []; place = m; reached = r; number = refl }
        first_of (inst i) r = tt
    of (further p q r h) = of_further p q (of r) h

    -- from the numbers in this graph to those in another one
    module _ (h : Graph) (k : IsFlat t h) where
      abbrev pub to : Renumbering
      to = record {
        node = λ n. k.at.node (f.node_back n).path (f.node_back n).node;
        mem = λ m. k.at.mem (f.mem_back m).path (f.mem_back m).node;
        inst = λ i. i;
      }

      flat_to : (s : Occurrence) → FlatReached t s.path (node s.node) → IsFlatNode t s → to.node (f.at.node s.path s.node) ≡ k.at.node s.path s.node
      flat_to s r a = ap (λ (o : Occurrence). k.at.node o.path o.node) (f.own_number s r a)

      node_to : (path : List ℕ) (n : ℕ) → FlatReached t path (node n) → to.node (f.at.node path n) ≡ k.at.node path n
      node_to path n r = (let s : Stands t whole path n = stands t whole path n r in ap to.node (s.number g f) ∙ flat_to s.spot s.reached s.flat ∙ sym (s.number h k))

      mem_to : (path : List ℕ) (m : ℕ) → FlatReached t path (mem m) → to.mem (f.at.mem path m) ≡ k.at.mem path m
      mem_to path m r = ap (λ (o : Occurrence). k.at.mem o.path o.node) (f.own_memory path m r)

      vertex_to : (path : List ℕ) (p : Vertex) → FlatReached t path p → renumber (then (within f.at path) to) p ≡ renumber (within k.at path) p
      vertex_to path (node n) r = ap node (node_to path n r)
      vertex_to path (mem m) r = ap mem (mem_to path m r)
      vertex_to path (inst i) r = refl

      parts_to : (path : List ℕ) (p : Vertex) → FlatReached t path p → Agree (then (within f.at path) to) (within k.at path) (fanin (graph_at t path) p)
      parts_to path p r (node n) h = vertex_to path (node n) (to_node r h)
      parts_to path p r (mem m) h = vertex_to path (mem m) (to_mem r h)
      parts_to path p r (inst i) h = refl

      outputs_to : h.outputs ≡ map (id_by to) g.outputs
      outputs_to =
          k.outputs
          ∙ sym (ap (map (id_by to)) f.outputs ∙ ids_then (within f.at []) to (graph t).outputs ∙ ids_agree (then (within f.at []) to) (within k.at []) (graph t).outputs
          (λ p c. vertex_to [] p (flat.output c)))

      row_to : (n : ℕ) → Reached g (node n) → slice_get h.nodes (to.node n) ≡ option_map (row_by to) (slice_get g.nodes n)
      row_to n r =
          let s : NodeOf n = of r in
          let at : to.node n ≡ k.at.node s.spot.path s.spot.node = ap to.node (sym s.number) ∙ flat_to s.spot s.reached s.flat in
          ap (slice_get h.nodes) at
          ∙ k.nodes s.spot s.reached s.flat
          ∙ sym (ap (option_map (row_by to)) (row_of n s)
          ∙ row_then (within f.at s.spot.path) to (row_at t s.spot)
          ∙ row_agrees (then (within f.at s.spot.path) to) (within k.at s.spot.path) (row_at t s.spot) (parts_to s.spot.path (node s.spot.node) s.reached))

      memory_to : (m : ℕ) → Reached g (mem m) → slice_get h.memories (to.mem m) ≡ option_map (memory_by to) (slice_get g.memories m)
      memory_to m r =
          let s : MemoryOf m = of r in
          let at : to.mem m ≡ k.at.mem s.path s.place = ap to.mem (sym s.number) ∙ mem_to s.path s.place s.reached in
          ap (slice_get h.memories) at
          ∙ k.memories s.path s.place s.reached
          ∙ sym (ap (option_map (memory_by to)) (memory_of m s)
          ∙ memory_then (within f.at s.path) to (slice_get (graph_at t s.path).memories s.place)
          ∙ memory_agrees (then (within f.at s.path) to) (within k.at s.path) (slice_get (graph_at t s.path).memories s.place) (parts_to s.path (mem s.place) s.reached))

  module _ (g h : Graph) (f : IsFlat t g) (k : IsFlat t h) where
    and_back : (p : Vertex) → Reached g p → renumber (to h k g f) (renumber (to g f h k) p) ≡ p
    and_back (node n) r =
        let s : NodeOf g f n = of g f r in
        ap node (ap (λ j. (to h k g f).node ((to g f h k).node j)) (sym s.number) ∙ ap (to h k g f).node (flat_to g f h k s.spot s.reached s.flat) ∙ flat_to h k g f s.spot s.reached s.flat ∙ s.number)
    and_back (mem m) r =
        let s : MemoryOf g f m = of g f r in
        ap mem (ap (λ j. (to h k g f).mem ((to g f h k).mem j)) (sym s.number) ∙ ap (to h k g f).mem (mem_to g f h k s.path s.place s.reached) ∙ mem_to h k g f s.path s.place s.reached ∙ s.number)
    and_back (inst i) r = refl

    pub flats_paired : IsIsomorphism (to g f h k) (to h k g f) g h
    flats_paired = record {
      ports = k.ports ∙ sym f.ports;
      outputs = outputs_to g f h k;
      one_to_one = and_back;
      nodes = row_to g f h k;
      memories = memory_to g f h k;
      instances = λ i r. ap (λ (l : List Instance). slice_get l i) k.instances ∙ sym (ap (λ (l : List Instance). option_map (instance_by (to g f h k)) (slice_get l i)) f.instances);
    }

    pub flats_same : Same (leaf g) (leaf h)
    flats_same = (to g f h k, to h k g f, flats_paired, λ i r. tt)
