-- A new simulator.
use Rattle.std.proofs.Common.{◌≡◌, ℕ, zero, suc, List, [], ◌∷◌, map, length, replicate, refl, sym, subst, ◌∙◌, ap, ap₂}
use Rattle.std.specs.Prelude.{◌↔◌, slice_get, Option, Some, option_map}
use Rattle.std.proofs.lemmas.Option.{slice_get-map}
use Rattle.std.proofs.lemmas.List.{length-replicate}
use Rattle.hc_bits.specs.BitVector.{BitVector}
use Rattle.hc_signal.specs.Member.{Has, first, later}
use Rattle.hc_signal.specs.declared.signal.NodeId.{NodeId}
use Rattle.hc_signal.specs.declared.signal.MemId.{MemId}
use Rattle.hc_signal.specs.declared.signal.NodeRow.{NodeRow}
use Rattle.hc_signal.specs.declared.signal.Memory.{Memory as MemoryOf}
use Rattle.hc_signal.specs.declared.signal.Port.{Port}
use Rattle.hc_signal.specs.declared.signal.Node.{Node as NodeOf}
use Rattle.hc_signal.specs.Graph.{Graph, Vertex, mem, Reached}
use Rattle.hc_signal.specs.Tree.{leaf}
use Rattle.hc_signal.specs.Occurrences.{Occurrence}
use Rattle.hc_walk.specs.declared.vertex.VertexId.{VertexId}
use Rattle.hc_walk.specs.declared.vertex.VertexId.TheVariants.{Node, Memory, Instance}
use Rattle.hc_walk.specs.VertexId.{vertices_of}
use Rattle.hc_walk.specs.DepthFirst.{NumbersTo}
use Rattle.hc_walk.proofs.Members.{has_map, has_from_map}
use Rattle.hc_walk.proofs.InRange.{HasRow, reached_row}
use Rattle.hc_walk.proofs.Walks.{ends_differ, AllDifferent as AllDiffer}
use Rattle.hc_paths.specs.Digraph.{AllDifferent}
use Rattle.hc_bench.specs.Simulation.{initial_register}
use Rattle.hc_bench.specs.Trace.{IsAtStart}
use Rattle.hc_flatsim.specs.Machine.{Machine, IsMachine, at_node, registers_among, state_of, simulation_of, number_of, number_at, numbers, words_at, words_of, widths, node_widths, port_widths, memory_widths}
use Rattle.hc_flatsim.specs.Edges.{places, initial_of, initial_of_row, initial_register_at, initial_registers}
use Rattle.hc_flatsim.specs.Starting.{memories_among, zero_of, zeros_of_memory}
use Rattle.hc_flatsim.proofs.Changes.{updated_here}
use Rattle.hc_flatsim.proofs.Shapes.{found}
use Rattle.hc_flatsim.proofs.Held.{reg_row, is_state}
use Rattle.hc_flatsim.proofs.Stepped.{pairs_agree, places_differ, init_node, init_row}

-- ---- the memories that a walk met

among_has : (vertices : List VertexId) (id : MemId) → Has (vertices_of vertices) (mem id.0) → Has (memories_among vertices) id
among_has [] id h = elim h [ ]
among_has (Node n ∷ vertices) id (later h) = among_has vertices id h
among_has (Memory m ∷ vertices) id first = first
among_has (Memory m ∷ vertices) id (later h) = later (among_has vertices id h)
among_has (Instance i ∷ vertices) id (later h) = among_has vertices id h

mem_among : (vertices : List VertexId) (id : MemId) → Has (memories_among vertices) id → Has (vertices_of vertices) (mem id.0)
mem_among [] id h = elim h [ ]
mem_among (Node n ∷ vertices) id h = later (mem_among vertices id h)
mem_among (Memory m ∷ vertices) _ first = first
mem_among (Memory m ∷ vertices) id (later h) = later (mem_among vertices id h)
mem_among (Instance i ∷ vertices) id h = later (mem_among vertices id h)

differ_among : (vertices : List VertexId) → AllDiffer (vertices_of vertices) → AllDifferent (memories_among vertices)
differ_among [] d = tt
differ_among (Node n ∷ vertices) d = differ_among vertices d.1
differ_among (Memory m ∷ vertices) d = (λ h. d.0 (mem_among vertices m h), differ_among vertices d.1)
differ_among (Instance i ∷ vertices) d = differ_among vertices d.1

pub memories_met : (g : Graph) (met given : List VertexId) (ids : List MemId) → given ≡ met → ids ≡ memories_among given
    → ((v : Vertex) → Has (vertices_of met) v ↔ Reached g v) → (id : MemId) → Has ids id ↔ Reached g (mem id.0)
memories_met g met given ids e f r id =
    let k : ids ≡ memories_among met = f ∙ ap memories_among e in (
      λ h. (r (mem id.0)).0 (mem_among met id (subst (λ (l : List MemId). Has l id) k h)),
      λ h. subst (λ (l : List MemId). Has l id) (sym k) (among_has met id ((r (mem id.0)).1 h)),
    )

pub memories_once : (g : Graph) (met given : List VertexId) (ids : List MemId) → given ≡ met → ids ≡ memories_among given → NumbersTo g (vertices_of met) → AllDifferent ids
memories_once g met given ids e f w = subst (λ (l : List MemId). AllDifferent l) (sym (f ∙ ap memories_among e)) (differ_among met (ends_differ g w))

-- ---- zeros

pub zero_rows : (rows : List NodeRow) → widths (map (λ (row : NodeRow). zero_of row.width) rows) ≡ node_widths rows
zero_rows [] = refl
zero_rows (row ∷ rows) = ap (λ (l : List ℕ). row.width ∷ l) (zero_rows rows)

pub zero_ports : (ports : List Port) → widths (map (λ (p : Port). zero_of p.width) ports) ≡ port_widths ports
zero_ports [] = refl
zero_ports (p ∷ ports) = ap (λ (l : List ℕ). p.width ∷ l) (zero_ports ports)

map_replicate : {X Y : Type 0} (f : X → Y) (n : ℕ) (x : X) → map f (replicate n x) ≡ replicate n (f x)
map_replicate f zero x = refl
map_replicate f (suc n) x = ap (λ l. f x ∷ l) (map_replicate f n x)

pub zero_memories : (memories : List MemoryOf) → map widths (map zeros_of_memory memories) ≡ map memory_widths memories
zero_memories [] = refl
zero_memories (m ∷ memories) = ap₂ (λ (x : List ℕ) (l : List (List ℕ)). x ∷ l) (map_replicate (λ (b : BitVector). b.width) m.size (zero_of m.width)) (zero_memories memories)

port_numbers : (ports : List Port) → numbers (map (λ (p : Port). zero_of p.width) ports) ≡ map (λ (p : Port). 0) ports
port_numbers [] = refl
port_numbers (p ∷ ports) = ap (λ (l : List ℕ). 0 ∷ l) (port_numbers ports)

port_zeros : (ports : List Port) → numbers (map (λ (p : Port). zero_of p.width) ports) ≡ replicate (length ports) 0
port_zeros [] = refl
port_zeros (p ∷ ports) = ap (λ (l : List ℕ). 0 ∷ l) (port_zeros ports)

-- ---- the initial state

module _ (m : Machine) (is : IsMachine m) (start : List BitVector) (start_widths : widths start ≡ node_widths m.graph.nodes)
    (registers_are : m.registers ≡ initial_registers m.graph m.clocked start) (memories_are : m.memories ≡ map zeros_of_memory m.graph.memories)
    (inputs_are : m.inputs ≡ map (λ (p : Port). zero_of p.width) m.graph.ports.inputs) (before_are : m.before ≡ map (λ (p : Port). zero_of p.width) m.graph.ports.outputs)
    (after_are : m.after ≡ map (λ (p : Port). zero_of p.width) m.graph.ports.outputs) where
  abbrev pair : NodeId → Occurrence × ℕ
  pair id = (at_node id.0, number_at m.registers id.0)

  abbrev regs : List NodeId
  regs = registers_among m.graph m.order

  register_starts : (id : NodeId) → Has regs id → initial_register (leaf m.graph) (pair id) ≡ pair id
  register_starts id c =
      let r = reg_row m is id c in
      let x : (x : BitVector) × (slice_get start id.0 ≡ Some x) × (x.width ≡ r.0.width) = found (λ (b : BitVector). b.width)
      (λ (row : NodeRow). row.width) start m.graph.nodes id.0 r.0 start_widths r.1 in
      let new : slice_get m.registers id.0 ≡ Some (initial_register_at m.graph id.0 x.0) =
      ap (λ (l : List BitVector). slice_get l id.0) registers_are
      ∙ updated_here (initial_register_at m.graph) (places m.clocked) id.0 start x.0 (places_differ m is)
      (has_map (λ (i : NodeId). i.0) (subst (λ (l : List NodeId). Has l id) (sym is.clocked) c)) x.1 in
      ap (λ (o : Option NodeRow). (at_node id.0, init_row o)) r.1 ∙ ap (λ (z : NodeOf). (at_node id.0, init_node z)) r.2.4
      ∙ sym (ap (λ o. (at_node id.0, number_of o)) new ∙ ap (λ (o : Option NodeRow). (at_node id.0, (initial_of_row o x.0).value)) r.1
      ∙ ap (λ (z : NodeOf). (at_node id.0, (initial_of z x.0).value)) r.2.4)

  all_zero : (xs : List ℕ) (n : ℕ) → xs ≡ replicate n 0 → xs ≡ replicate (length xs) 0
  all_zero xs n e = e ∙ ap (λ k. replicate k 0) (sym (ap length e ∙ length-replicate n 0))

  words_start : (s : Occurrence) (words : List ℕ) → Has (state_of m).memories (s, words) → words ≡ replicate (length words) 0
  words_start s words h =
      let u : (id : MemId) × Has m.used id × ((at_node id.0, numbers (words_at m.memories id.0)) ≡ (s, words)) = has_from_map
      (λ (id : MemId). (at_node id.0, numbers (words_at m.memories id.0))) m.used (s, words) h in
      let row : HasRow m.graph (mem u.0.0) = reached_row m.graph is.lawful ((is.used u.0).0 u.1) in
      let here : slice_get m.memories u.0.0 ≡ Some (zeros_of_memory row.0) = ap (λ (l : List (List BitVector)). slice_get l u.0.0) memories_are
      ∙ slice_get-map zeros_of_memory m.graph.memories u.0.0 ∙ ap (option_map zeros_of_memory) row.1 in
      let zeros : words ≡ replicate row.0.size 0 =
      sym (ap (λ (q : Occurrence × List ℕ). q.1) u.2) ∙ ap (λ (o : Option (List BitVector)). numbers (words_of o)) here ∙ map_replicate (λ (b : BitVector). b.value) row.0.size (zero_of row.0.width) in
      all_zero words row.0.size zeros

  pub at_start : IsAtStart (simulation_of m)
  at_start = record {
    state = record { whole = is_state m is; registers = pairs_agree (initial_register (leaf m.graph)) pair pair regs register_starts; words = words_start };
    inputs = ap numbers inputs_are ∙ port_numbers m.graph.ports.inputs;
    before = ap numbers before_are ∙ port_zeros m.graph.ports.outputs;
    after = ap numbers after_are ∙ port_zeros m.graph.ports.outputs;
  }
