-- The form of a circuit weighs no more than the circuit, and has each kid no more often than the entries it is made of.
use Rattle.std.proofs.Common.{◌≡◌, ℕ, ◌+◌, ◌*◌, ◌<◌, ◌≤◌, ◌⊎◌, inl, inr, List, length, cond, refl, sym, ap, ap₂, subst, ◌∙◌, arith}
use Rattle.std.proofs.lemmas.List.{length-map}
use Rattle.std.proofs.lemmas.Option.{slice_get_within}
use Rattle.std.specs.Prelude.{◌==◌, slice_get, Option, Some, None, option_map, option_to_list, unwrap_or, sum_by}
use Rattle.hc_signal.specs.declared.signal.Port.{Port}
use Rattle.hc_signal.specs.declared.signal.Ports.{Ports}
use Rattle.hc_signal.specs.declared.signal.NodeRow.{NodeRow}
use Rattle.hc_signal.specs.declared.signal.Node.{Node}
use Rattle.hc_signal.specs.declared.signal.Node.TheVariants.{Input, Wire, Const, Two, Not, Mux, Cat, Select, Reg, Read, InstOut, Op}
use Rattle.hc_signal.specs.declared.signal.Memory.{Memory}
use Rattle.hc_signal.specs.declared.signal.Instance.{Instance}
use Rattle.hc_signal.specs.Graph.{Graph, Vertex, node, mem, inst, Reached}
use Rattle.hc_signal.specs.Lawful.{IsLawful, NodeAt}
use Rattle.hc_signal.specs.Renumber.{Renumbering, renumber, node_by, row_by, memory_by, instance_by, id_by, clear_by, write_by}
use Rattle.hc_signal.specs.Weight.{operands, node_weight, memory_weight, instance_weight, graph_weight}
use Rattle.hc_canon.specs.declared.form.EntryId.{EntryId}
use Rattle.hc_canon.specs.FormView.{FormView, IsCanonOf}
use Rattle.hc_canon.specs.Same.{IsIsomorphism}
use Rattle.hc_canon.specs.Numbering.{input_row}
use Rattle.hc_canon.proofs.Renumbered.{number}
use Rattle.hc_canon.proofs.Isomorphisms.{reached_to, isomorphism_back}
use Rattle.hc_canon.proofs.Canonical.{two, reached_node, reached_mem, reached_inst, input_at_port}
use Rattle.hc_canon.proofs.Decided.{kid_from}
use Rattle.hc_dbstate.specs.Elaboration.{times}
use Rattle.hc_dbstate.proofs.Triples.{some_at}
use Rattle.hc_dbstate.proofs.Injected.{AreApart, HasPartner, sums_inject}

many_option : {X : Type 0} (f : X → X) (o : Option X) → length (option_to_list (option_map f o)) ≡ length (option_to_list o)
many_option f None = refl
many_option f (Some x) = refl

operands_by : (r : Renumbering) (x : Node) → operands (node_by r x) ≡ operands x
operands_by r (Input port) = refl
operands_by r (Wire driver) = refl
operands_by r (Const value) = refl
operands_by r (Two op a b) = refl
operands_by r (Not a) = refl
operands_by r (Mux sel cases) = ap (λ n. 1 + n) (length-map cases (id_by r))
operands_by r (Cat parts) = length-map parts (id_by r)
operands_by r (Select a hi lo) = refl
operands_by r (Reg next enable clear init) = ap₂ (λ m n. 1 + m + n) (many_option (id_by r) enable) (many_option (clear_by r) clear)
operands_by r (Read m addr) = refl
operands_by r (InstOut i port) = refl
operands_by r (Op kind args) = length-map args (id_by r)

by_same : (m n : ℕ) → m ≡ n → m ≤ n
by_same m n e = omega (arith, e)

module _ (g : Graph) (lawful : IsLawful g) (ids : List EntryId) (f : FormView) (c : IsCanonOf g ids f) where
  home : IsIsomorphism c.back c.to f.circuit g
  home = isomorphism_back c.to c.back g f.circuit c.isomorphism

  returns : (p : Vertex) → Reached f.circuit p → number (renumber c.to (renumber c.back p)) ≡ number p
  returns p r = ap number (home.one_to_one p r)

  -- ---- instances and memories

  inst_reached : (i : ℕ) → i < length f.circuit.instances → Reached f.circuit (inst i)
  inst_reached = reached_inst f.circuit c.form.canonical

  insts_apart : AreApart f.circuit.instances c.back.inst
  insts_apart i j l m e = sym (returns (inst i) (inst_reached i l)) ∙ ap c.to.inst e ∙ returns (inst j) (inst_reached j m)

  inst_partner : (i : ℕ) (it : Instance) → slice_get f.circuit.instances i ≡ Some it → HasPartner instance_weight instance_weight g.instances (c.back.inst i) it
  inst_partner i it e = (
    instance_by c.back it,
    home.instances i (inst_reached i (slice_get_within f.circuit.instances i it e)) ∙ ap (option_map (instance_by c.back)) e,
    by_same (instance_weight it) (instance_weight (instance_by c.back it)) (ap (λ n. 1 + 2 * n) (sym (length-map it.conns (id_by c.back)))),
  )

  mem_reached : (i : ℕ) → i < length f.circuit.memories → Reached f.circuit (mem i)
  mem_reached = reached_mem f.circuit c.form.canonical

  mems_apart : AreApart f.circuit.memories c.back.mem
  mems_apart i j l m e = sym (returns (mem i) (mem_reached i l)) ∙ ap c.to.mem e ∙ returns (mem j) (mem_reached j m)

  mem_partner : (i : ℕ) (it : Memory) → slice_get f.circuit.memories i ≡ Some it → HasPartner memory_weight memory_weight g.memories (c.back.mem i) it
  mem_partner i it e = (
    memory_by c.back it,
    home.memories i (mem_reached i (slice_get_within f.circuit.memories i it e)) ∙ ap (option_map (memory_by c.back)) e,
    by_same (memory_weight it) (memory_weight (memory_by c.back it)) (ap (λ n. 1 + 4 * n) (sym (length-map it.writes (write_by c.back)))),
  )

  -- ---- nodes: an input has the input of its port for a partner

  inputs : ℕ
  inputs = length f.circuit.ports.inputs

  input_node : (i : ℕ) → i < inputs → (n : ℕ) × NodeAt g n (Input i)
  unfolding inputs
  input_node i l = lawful.inputs i (subst (λ (p : Ports). i < length p.inputs) c.isomorphism.ports l)

  place : (i : ℕ) → (i < inputs) ⊎ (inputs ≤ i) → ℕ
  place i (inl l) = (input_node i l).0
  place i (inr m) = c.back.node i

  node_reached : (i : ℕ) → inputs ≤ i → i < length f.circuit.nodes → Reached f.circuit (node i)
  unfolding inputs
  node_reached i m l = reached_node f.circuit c.form.canonical i m l

  input_weight : (i : ℕ) (row : NodeRow) → i < inputs → slice_get f.circuit.nodes i ≡ Some row → node_weight row ≡ 1
  unfolding inputs
  input_weight i row l e =
      let p : (p : Port) × (slice_get f.circuit.ports.inputs i ≡ Some p) = some_at f.circuit.ports.inputs i l in
      let same : row ≡ input_row p.0 i = ap (λ o. unwrap_or o row) (sym e ∙ c.form.canonical.inputs i p.0 p.1) in
      ap node_weight same

  node_partner : (i : ℕ) (row : NodeRow) (s : (i < inputs) ⊎ (inputs ≤ i)) → slice_get f.circuit.nodes i ≡ Some row → HasPartner node_weight node_weight g.nodes (place i s) row
  unfolding place
  node_partner i row (inl l) e =
      let n : (n : ℕ) × NodeAt g n (Input i) = input_node i l in
      let one : node_weight row ≡ 1 = input_weight i row l e in
      (n.1.0, n.1.1, omega (arith, one))
  node_partner i row (inr m) e = (
    row_by c.back row,
    home.nodes i (node_reached i m (slice_get_within f.circuit.nodes i row e)) ∙ ap (option_map (row_by c.back)) e,
    by_same (node_weight row) (node_weight (row_by c.back row)) (ap (λ n. 1 + n) (sym (operands_by c.back row.node))),
  )

  one_input : (i j : ℕ) → i < inputs → inputs ≤ j → j < length f.circuit.nodes → (n : NodeAt g (c.back.node j) (Input i)) → j ≡ i
  one_input i j l m k n =
      let r : Reached f.circuit (node j) = node_reached j m k in
      let there : Reached g (node (c.back.node j)) = reached_to c.back c.to f.circuit g home r in
      let at : slice_get f.circuit.nodes j ≡ Some (row_by c.to n.0) =
      ap (slice_get f.circuit.nodes) (sym (returns (node j) r)) ∙ c.isomorphism.nodes (c.back.node j) there ∙ ap (option_map (row_by c.to)) n.1 in
      input_at_port f.circuit c.form.canonical j i (row_by c.to n.0) at (ap (node_by c.to) n.2)

  places_apart : (i j : ℕ) (s : (i < inputs) ⊎ (inputs ≤ i)) (t : (j < inputs) ⊎ (inputs ≤ j)) → i < length f.circuit.nodes → j < length f.circuit.nodes → place i s ≡ place j t → i ≡ j
  unfolding place
  places_apart i j (inl l) (inl m) a b e =
      let x : NodeAt g (input_node i l).0 (Input i) = (input_node i l).1 in
      let y : NodeAt g (input_node i l).0 (Input j) = subst (λ n. NodeAt g n (Input j)) (sym e) (input_node j m).1 in
      let same : x.0 ≡ y.0 = ap (λ o. unwrap_or o x.0) (sym x.1 ∙ y.1) in
      let both : Input i ≡ Input j = sym x.2 ∙ ap (λ (r : NodeRow). r.node) same ∙ y.2 in
      cc
  places_apart i j (inl l) (inr m) a b e = sym (one_input i j l m b (subst (λ n. NodeAt g n (Input i)) e (input_node i l).1))
  places_apart i j (inr m) (inl l) a b e = one_input j i l m a (subst (λ n. NodeAt g n (Input j)) (sym e) (input_node j l).1)
  places_apart i j (inr l) (inr m) a b e = sym (returns (node i) (node_reached i l a)) ∙ ap c.to.node e ∙ returns (node j) (node_reached j m b)

  pub form_weight : graph_weight f.circuit ≤ graph_weight g
  form_weight =
      let nodes : sum_by node_weight f.circuit.nodes ≤ sum_by node_weight g.nodes =
      sums_inject node_weight node_weight f.circuit.nodes g.nodes (λ i. place i (two i inputs)) (λ i row e. node_partner i row (two i inputs) e)
      (λ i j a b e. places_apart i j (two i inputs) (two j inputs) a b e) in
      let memories : sum_by memory_weight f.circuit.memories ≤ sum_by memory_weight g.memories = sums_inject memory_weight memory_weight f.circuit.memories g.memories c.back.mem
      mem_partner mems_apart in
      let instances : sum_by instance_weight f.circuit.instances ≤ sum_by instance_weight g.instances = sums_inject instance_weight instance_weight f.circuit.instances g.instances
      c.back.inst inst_partner insts_apart in
      omega (arith, nodes, memories, instances)

  -- ---- kids

  kids_apart : AreApart f.kids c.back.inst
  kids_apart i j l m e = insts_apart i j (subst (λ n. i < n) c.form.kids l) (subst (λ n. j < n) c.form.kids m) e

  abbrev one : EntryId → EntryId → ℕ
  one id x = cond (x.0 == id.0) 1 0

  pub kid_times : (id : EntryId) → times id f.kids ≤ times id ids
  kid_times id =
      sums_inject (one id) (one id) f.kids ids c.back.inst
      (λ i x e. (
        x,
        sym (kid_from g ids f c i (subst (λ n. i < n) c.form.kids (slice_get_within f.kids i x e))).2 ∙ e,
        by_same (one id x) (one id x) refl,
      ))
      kids_apart
