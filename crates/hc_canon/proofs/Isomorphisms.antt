-- Isomorphisms of graphs take what is reached to what is reached, compose, and turn round. So `Same` is an equivalence.
use Rattle.std.proofs.Common.{◌≡◌, ℕ, List, [], ◌∷◌, ◌++◌, map, refl, sym, subst, ◌∙◌, ap, ap₂, map-id}
use Rattle.std.proofs.lemmas.List.{map-append}
use Rattle.std.specs.Prelude.{slice_get, Option, Some, None, option_map}
use Rattle.hc_signal.specs.Member.{Has}
use Rattle.hc_walk.specs.DepthFirst.{NumbersTo}
use Rattle.hc_walk.proofs.Members.{has_map, has_from_map}
use Rattle.hc_walk.proofs.Along.{walks_along}
use Rattle.hc_canon.proofs.Renumbered.{same_numbers, row_same, memory_same, instance_same, renumber_same, then, Fixes, number, ids_then, ids_fixed, renumber_then, row_then, memory_then, instance_then, row_fixed, memory_fixed, instance_fixed}
use Rattle.hc_signal.specs.declared.signal.NodeId.{NodeId}
use Rattle.hc_signal.specs.declared.signal.NodeRow.{NodeRow}
use Rattle.hc_signal.specs.declared.signal.Node.{Node}
use Rattle.hc_signal.specs.declared.signal.Node.TheVariants.{Input, Wire, Const, Two, Not, Mux, Cat, Select, Reg, Read, InstOut, Op}
use Rattle.hc_signal.specs.declared.signal.Memory.{Memory}
use Rattle.hc_signal.specs.declared.signal.WritePort.{WritePort}
use Rattle.hc_signal.specs.declared.signal.Instance.{Instance}
use Rattle.hc_bits.specs.BitVector.{BitVector}
use Rattle.hc_signal.specs.Graph.{Graph, Vertex, node, mem, inst, Reached, output, further, fanin, fanin_of_node, fanin_of_row, fanin_of_memory, fanin_of_instance, fanin_of_writes, nodes_of, optional_node, clear_node}
use Rattle.hc_signal.specs.Tree.{Tree, none, tree}
use Rattle.hc_signal.specs.Renumber.{Renumbering, renumber, id_by, clear_by, node_by, row_by, write_by, memory_by, instance_by}
use Rattle.hc_canon.specs.Same.{IsIsomorphism, Same}

-- a graph is isomorphic to itself
isomorphism_same : (g : Graph) → IsIsomorphism same_numbers same_numbers g g
isomorphism_same g = record {
  ports = refl;
  outputs = sym (map-id g.outputs);
  one_to_one = λ p h. ap (renumber same_numbers) (renumber_same p) ∙ renumber_same p;
  nodes = λ n h. row_same (slice_get g.nodes n);
  memories = λ n h. memory_same (slice_get g.memories n);
  instances = λ n h. instance_same (slice_get g.instances n);
}

pub same-refl : (t : Tree) → Same t t
same-refl none = tt
same-refl (tree g kids) = (same_numbers, same_numbers, isomorphism_same g, λ i h. same-refl (kids i))

-- the fan-in of a renumbered row
pub nodes_of_by : (r : Renumbering) (ids : List NodeId) → nodes_of (map (id_by r) ids) ≡ map (renumber r) (nodes_of ids)
nodes_of_by r [] = refl
nodes_of_by r (id ∷ ids) = ap (λ l. node (r.node id.0) ∷ l) (nodes_of_by r ids)

enable_by : (r : Renumbering) (o : Option NodeId) → optional_node (option_map (id_by r) o) ≡ map (renumber r) (optional_node o)
enable_by r None = refl
enable_by r (Some id) = refl

clears_by : (r : Renumbering) (o : Option (NodeId × BitVector)) → clear_node (option_map (clear_by r) o) ≡ map (renumber r) (clear_node o)
clears_by r None = refl
clears_by r (Some c) = refl

parts_of_node_by : (r : Renumbering) (x : Node) → fanin_of_node (node_by r x) ≡ map (renumber r) (fanin_of_node x)
parts_of_node_by r (Input port) = refl
parts_of_node_by r (Wire driver) = enable_by r driver
parts_of_node_by r (Const value) = refl
parts_of_node_by r (Two op a b) = refl
parts_of_node_by r (Not a) = refl
parts_of_node_by r (Mux sel cases) = ap (λ l. node (r.node sel.0) ∷ l) (nodes_of_by r cases)
parts_of_node_by r (Cat parts) = nodes_of_by r parts
parts_of_node_by r (Select a hi lo) = refl
parts_of_node_by r (Reg next enable clear init) =
    ap (λ l. node (r.node next.0) ∷ l) (ap₂ (λ xs ys. xs ++ ys) (enable_by r enable) (clears_by r clear) ∙ sym (map-append (renumber r) (optional_node enable) (clear_node clear)))
parts_of_node_by r (Read m addr) = refl
parts_of_node_by r (InstOut i port) = refl
parts_of_node_by r (Op kind args) = nodes_of_by r args

pub row_parts_by : (r : Renumbering) (o : Option NodeRow) → fanin_of_row (option_map (row_by r) o) ≡ map (renumber r) (fanin_of_row o)
row_parts_by r None = refl
row_parts_by r (Some row) = parts_of_node_by r row.node

writes_by : (r : Renumbering) (ws : List WritePort) → fanin_of_writes (map (write_by r) ws) ≡ map (renumber r) (fanin_of_writes ws)
writes_by r [] = refl
writes_by r (w ∷ ws) = ap (λ l. node (r.node w.enable.0) ∷ node (r.node w.addr.0) ∷ node (r.node w.value.0) ∷ l) (writes_by r ws)

pub memory_parts_by : (r : Renumbering) (o : Option Memory) → fanin_of_memory (option_map (memory_by r) o) ≡ map (renumber r) (fanin_of_memory o)
memory_parts_by r None = refl
memory_parts_by r (Some m) = writes_by r m.writes

instance_parts_by : (r : Renumbering) (o : Option Instance) → fanin_of_instance (option_map (instance_by r) o) ≡ map (renumber r) (fanin_of_instance o)
instance_parts_by r None = refl
instance_parts_by r (Some i) = nodes_of_by r i.conns

-- the fan-in of a partner are the partners of the fan-in
pub fanin_paired : (to back : Renumbering) (g h : Graph) → IsIsomorphism to back g h → (p : Vertex) → Reached g p → fanin h (renumber to p) ≡ map (renumber to) (fanin g p)
fanin_paired to back g h e (node n) r = ap fanin_of_row (e.nodes n r) ∙ row_parts_by to (slice_get g.nodes n)
fanin_paired to back g h e (mem m) r = ap fanin_of_memory (e.memories m r) ∙ memory_parts_by to (slice_get g.memories m)
fanin_paired to back g h e (inst i) r = ap fanin_of_instance (e.instances i r) ∙ instance_parts_by to (slice_get g.instances i)

pub outputs_paired : (to back : Renumbering) (g h : Graph) → IsIsomorphism to back g h → nodes_of h.outputs ≡ map (renumber to) (nodes_of g.outputs)
outputs_paired to back g h e = ap nodes_of e.outputs ∙ nodes_of_by to g.outputs

-- partners of what is reached are reached, and all that is reached is a partner
pub reached_to : (to back : Renumbering) (g h : Graph) → IsIsomorphism to back g h → {p : Vertex} → Reached g p → Reached h (renumber to p)
reached_to to back g h e (output p c) = output (renumber to p) (subst (λ l. Has l (renumber to p)) (sym (outputs_paired to back g h e)) (has_map (renumber to) c))
reached_to to back g h e (further p q r c) =
    further (renumber to p) (renumber to q) (reached_to to back g h e r) (subst (λ l. Has l (renumber to q)) (sym (fanin_paired to back g h e p r)) (has_map (renumber to) c))

abbrev pub HasPartner : Renumbering → Graph → Vertex → Type 0
HasPartner to g q = (p : Vertex) × Reached g p × (renumber to p ≡ q)

pub reached_from : (to back : Renumbering) (g h : Graph) → IsIsomorphism to back g h → {q : Vertex} → Reached h q → HasPartner to g q
reached_from to back g h e (output q c) =
    let m : _ = has_from_map (renumber to) (nodes_of g.outputs) q (subst (λ l. Has l q) (outputs_paired to back g h e) c) in (m.0, output m.0 m.1, m.2)
reached_from to back g h e (further p q r c) =
    let f : HasPartner to g p = reached_from to back g h e r in
    let at : Has (fanin h (renumber to f.0)) q = subst (λ x. Has (fanin h x) q) (sym f.2) c in
    let m : _ = has_from_map (renumber to) (fanin g f.0) q (subst (λ l. Has l q) (fanin_paired to back g h e f.0 f.1) at) in
    (m.0, further f.0 m.0 f.1 m.1, m.2)

-- partners are apart, and the walk goes along
module _ (to back : Renumbering) (g h : Graph) (e : IsIsomorphism to back g h) where
  pub partners_equal : (p q : Vertex) → Reached g p → Reached g q → renumber to p ≡ renumber to q → p ≡ q
  partners_equal p q r s u = sym (e.one_to_one p r) ∙ ap (renumber back) u ∙ e.one_to_one q s

  pub walk_along : {end : List Vertex} → NumbersTo g end → NumbersTo h (map (renumber to) end)
  walk_along w = walks_along g h (renumber to) partners_equal (λ p r. fanin_paired to back g h e p r) (outputs_paired to back g h e) w

-- isomorphisms compose
pub isomorphism_then : (to back out home : Renumbering) (g h k : Graph) → IsIsomorphism to back g h → IsIsomorphism out home h k → IsIsomorphism (then to out) (then home back) g k
isomorphism_then to back out home g h k e f = record {
  ports = f.ports ∙ e.ports;
  outputs = f.outputs ∙ ap (map (id_by out)) e.outputs ∙ ids_then to out g.outputs;
  one_to_one = λ p r. sym (renumber_then home back (renumber (then to out) p)) ∙ ap (λ q. renumber back (renumber home q)) (sym (renumber_then to out p))
      ∙ ap (renumber back) (f.one_to_one (renumber to p) (reached_to to back g h e r)) ∙ e.one_to_one p r;
  nodes = λ n r. f.nodes (to.node n) (reached_to to back g h e r) ∙ ap (option_map (row_by out)) (e.nodes n r) ∙ row_then to out (slice_get g.nodes n);
  memories = λ m r. f.memories (to.mem m) (reached_to to back g h e r) ∙ ap (option_map (memory_by out)) (e.memories m r) ∙ memory_then to out (slice_get g.memories m);
  instances = λ i r. f.instances (to.inst i) (reached_to to back g h e r) ∙ ap (option_map (instance_by out)) (e.instances i r) ∙ instance_then to out (slice_get g.instances i);
}

pub same-trans : (s t u : Tree) → Same s t → Same t u → Same s u
same-trans none none none e f = tt
same-trans none none (tree k c) e f = absurd f
same-trans none (tree h b) u e f = absurd e
same-trans (tree g a) none u e f = absurd e
same-trans (tree g a) (tree h b) none e f = absurd f
same-trans (tree g a) (tree h b) (tree k c) e f = (
  then e.0 f.0,
  then f.1 e.1,
  isomorphism_then e.0 e.1 f.0 f.1 g h k e.2 f.2,
  λ i r. same-trans (a i) (b (e.0.inst i)) (c (f.0.inst (e.0.inst i))) (e.3 i r) (f.3 (e.0.inst i) (reached_to e.0 e.1 g h e.2 r)),
)

-- isomorphisms turn round
fanin_fixed : (to back : Renumbering) (g h : Graph) → IsIsomorphism to back g h → (p : Vertex) → Reached g p → Fixes (then to back) (fanin g p)
fanin_fixed to back g h e p r q c = sym (renumber_then to back q) ∙ e.one_to_one q (further p q r c)

outputs_fixed : (to back : Renumbering) (g h : Graph) → IsIsomorphism to back g h → Fixes (then to back) (nodes_of g.outputs)
outputs_fixed to back g h e q c = sym (renumber_then to back q) ∙ e.one_to_one q (output q c)

module _ (to back : Renumbering) (g h : Graph) (e : IsIsomorphism to back g h) where
  nodes_back : (n : ℕ) (p : Vertex) → Reached g p → renumber to p ≡ node n → slice_get g.nodes (back.node n) ≡ option_map (row_by back) (slice_get h.nodes n)
  nodes_back n (node k) r q =
      subst (λ m. slice_get g.nodes (back.node m) ≡ option_map (row_by back) (slice_get h.nodes m)) (ap number q)
      (ap (slice_get g.nodes) (ap number (e.one_to_one (node k) r))
      ∙ sym (ap (option_map (row_by back)) (e.nodes k r) ∙ row_then to back (slice_get g.nodes k) ∙ row_fixed (then to back) (slice_get g.nodes k) (fanin_fixed to back g h e (node k) r)))
  nodes_back n (mem k) r q = cc
  nodes_back n (inst k) r q = cc

  memories_back : (n : ℕ) (p : Vertex) → Reached g p → renumber to p ≡ mem n → slice_get g.memories (back.mem n) ≡ option_map (memory_by back) (slice_get h.memories n)
  memories_back n (mem k) r q =
      subst (λ m. slice_get g.memories (back.mem m) ≡ option_map (memory_by back) (slice_get h.memories m)) (ap number q)
      (ap (slice_get g.memories) (ap number (e.one_to_one (mem k) r))
      ∙ sym (ap (option_map (memory_by back)) (e.memories k r) ∙ memory_then to back (slice_get g.memories k) ∙ memory_fixed (then to back) (slice_get g.memories k)
      (fanin_fixed to back g h e (mem k) r)))
  memories_back n (node k) r q = cc
  memories_back n (inst k) r q = cc

  instances_back : (n : ℕ) (p : Vertex) → Reached g p → renumber to p ≡ inst n → slice_get g.instances (back.inst n) ≡ option_map (instance_by back) (slice_get h.instances n)
  instances_back n (inst k) r q =
      subst (λ m. slice_get g.instances (back.inst m) ≡ option_map (instance_by back) (slice_get h.instances m)) (ap number q)
      (ap (slice_get g.instances) (ap number (e.one_to_one (inst k) r))
      ∙ sym (ap (option_map (instance_by back)) (e.instances k r) ∙ instance_then to back (slice_get g.instances k) ∙ instance_fixed (then to back) (slice_get g.instances k)
      (fanin_fixed to back g h e (inst k) r)))
  instances_back n (node k) r q = cc
  instances_back n (mem k) r q = cc

  renumber_back : (q : Vertex) → HasPartner to g q → renumber to (renumber back q) ≡ q
  renumber_back q f = ap (λ x. renumber to (renumber back x)) (sym f.2) ∙ ap (renumber to) (e.one_to_one f.0 f.1) ∙ f.2

  pub isomorphism_back : IsIsomorphism back to h g
  isomorphism_back = record {
    ports = sym e.ports;
    outputs = sym (ap (map (id_by back)) e.outputs ∙ ids_then to back g.outputs ∙ ids_fixed (then to back) g.outputs (outputs_fixed to back g h e));
    one_to_one = λ q r. renumber_back q (reached_from to back g h e r);
    nodes = λ n r. (let f : HasPartner to g (node n) = reached_from to back g h e r in nodes_back n f.0 f.1 f.2);
    memories = λ n r. (let f : HasPartner to g (mem n) = reached_from to back g h e r in memories_back n f.0 f.1 f.2);
    instances = λ n r. (let f : HasPartner to g (inst n) = reached_from to back g h e r in instances_back n f.0 f.1 f.2);
  }

pub same-sym : (s t : Tree) → Same s t → Same t s
same-sym none none e = tt
same-sym none (tree h b) e = absurd e
same-sym (tree g a) none e = absurd e
same-sym (tree g a) (tree h b) e = (
  e.1,
  e.0,
  isomorphism_back e.0 e.1 g h e.2,
  λ i r. (let back : IsIsomorphism e.1 e.0 h g = isomorphism_back e.0 e.1 g h e.2 in
      let there : Reached g (inst (e.1.inst i)) = reached_to e.1 e.0 h g back r in
      same-sym (a (e.1.inst i)) (b i) (subst (λ k. Same (a (e.1.inst i)) (b k)) (ap number (back.one_to_one (inst i) r)) (e.3 (e.1.inst i) there))),
)
