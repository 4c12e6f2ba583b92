-- What is to be named in a module of a form is all different.
use Rattle.std.proofs.Common.{◌≡◌, ℕ, suc, ◌+◌, ◌<◌, ◌≤◌, Bool, true, false, if◌then◌else◌, ◌==◌, ◌||◌, List, [], ◌∷◌, ◌++◌, map, length, drop, refl, sym, ap, ◌∙◌, inl, inr, arith, eq-eqb, get_or, true≢false}
use Rattle.std.specs.Prelude.{slice_get, Option, Some, None, nat_lt, codes, decimal, unwrap_or}
use Rattle.std.specs.List.{zip, list_any, enumerate_from}
use Rattle.std.proofs.lemmas.Option.{slice_get-get_or}
use Rattle.std.proofs.lemmas.Bool.{ltb-true, ltb-false, lt-ltb}
use Rattle.hc_signal.specs.declared.signal.Port.{Port}
use Rattle.hc_signal.specs.declared.signal.NodeId.{NodeId}
use Rattle.hc_signal.specs.declared.signal.NodeRow.{NodeRow}
use Rattle.hc_signal.specs.declared.signal.Node.{Node}
use Rattle.hc_signal.specs.declared.signal.Node.TheVariants.{Input, Wire}
use Rattle.hc_signal.specs.declared.signal.Memory.{Memory}
use Rattle.hc_signal.specs.declared.signal.Instance.{Instance}
use Rattle.hc_signal.specs.Member.{Has, first, later}
use Rattle.hc_signal.specs.Graph.{Graph, node, mem, inst}
use Rattle.hc_signal.specs.Lawful.{IsLawful}
use Rattle.hc_canon.specs.Numbering.{IsCanonical, input_row}
use Rattle.hc_naming.specs.ModuleNames.{Named, clock, vertex, cell, Wants, wanted, want_inputs, want_outputs, want_nodes, want_memories, want_instances, want_cells, first_number, is_output, numbered_nodes, inner_nodes, operation_nodes, is_operation, node_name}
use Rattle.hc_naming.proofs.Named.{keys, choice}
use Rattle.hc_naming.proofs.Apart.{AllDifferent, different_append, has_keys, has_filter, IsRising, rising_enumerate, rising_filter, rising_key, rising_different, rising_number, has_mapped}

-- the kinds of what is named, in the order in which the names are taken
kind : Graph → Named → ℕ
kind g clock = 0
kind g (vertex (node n)) = if nat_lt n (first_number g) then 1 else (if is_output g n then 2 else 3)
kind g (vertex (mem m)) = 4
kind g (vertex (inst i)) = 5
kind g (cell n) = 6

-- all of a list is of one kind
abbrev AllOfKind : Graph → ℕ → Wants → Type 0
AllOfKind g k ws = (z : Named) → Has (keys ws) z → kind g z ≡ k

abbrev AllAbove : Graph → ℕ → Wants → Type 0
AllAbove g k ws = (z : Named) → Has (keys ws) z → k < kind g z

-- a list of one kind before others of later kinds
before : (g : Graph) (k : ℕ) (xs ys : Wants) → AllOfKind g k xs → AllAbove g k ys → AllDifferent (keys xs) → AllDifferent (keys ys) → AllDifferent (keys (xs ++ ys))
before g k xs ys here later_ones a b = different_append xs ys a b (λ z l r. let e : kind g z ≡ k = here z l in let lt : k < kind g z = later_ones z r in omega arith)

above : (g : Graph) (k j : ℕ) (xs ys : Wants) → k < j → AllOfKind g j xs → AllAbove g k ys → AllAbove g k (xs ++ ys)
above g k j xs ys lt here rest z h = elim (has_keys xs ys h) [ inl l ↦ (let e : kind g z ≡ j = here z l in omega arith) | inr r ↦ rest z r ]

lift : (g : Graph) (k j : ℕ) (ys : Wants) → k < j → AllAbove g j ys → AllAbove g k ys
lift g k j ys lt rest z h = let more : j < kind g z = rest z h in omega arith

all_above : (g : Graph) (k j : ℕ) (xs : Wants) → k < j → AllOfKind g j xs → AllAbove g k xs
all_above g k j xs lt here z h = let e : kind g z ≡ j = here z h in omega arith

-- ---- outputs

id_of : Named → NodeId
id_of (vertex (node n)) = record { 0 = n }
id_of other = record { 0 = 0 }

output_key : (ids : List NodeId) (ports : List Port) (z : Named) → Has (keys (map (λ (p : NodeId × Port). (vertex (node p.0.0), p.1.name)) (zip ids ports))) z
    → (id : NodeId) × Has ids id × (z ≡ vertex (node id.0))
output_key [] ports z h = elim h [ ]
output_key (id ∷ ids) [] z h = elim h [ ]
output_key (id ∷ ids) (p ∷ ports) _ first = (id, first, refl)
output_key (id ∷ ids) (p ∷ ports) z (later h) = let r : (i : NodeId) × Has ids i × (z ≡ vertex (node i.0)) = output_key ids ports z h in (r.0, later r.1, r.2)

place_of : {X : Type 0} (xs : List X) (x : X) → Has xs x → (k : ℕ) × (slice_get xs k ≡ Some x)
place_of [] x h = elim h [ ]
place_of (y ∷ xs) _ first = (0, refl)
place_of (y ∷ xs) x (later h) = let r : (k : ℕ) × (slice_get xs k ≡ Some x) = place_of xs x h in (suc r.0, r.1)

outputs_different : (ids : List NodeId) (ports : List Port) → ((i j : ℕ) (id : NodeId) → slice_get ids i ≡ Some id → slice_get ids j ≡ Some id → i ≡ j)
    → AllDifferent (keys (map (λ (p : NodeId × Port). (vertex (node p.0.0), p.1.name)) (zip ids ports)))
unfolding output_key id_of
outputs_different [] ports own = tt
outputs_different (id ∷ ids) [] own = tt
outputs_different (id ∷ ids) (p ∷ ports) own = (
  λ h. let r : (i : NodeId) × Has ids i × (vertex (node id.0) ≡ vertex (node i.0)) = output_key ids ports (vertex (node id.0)) h in
      let at : (k : ℕ) × (slice_get ids k ≡ Some r.0) = place_of ids r.0 r.1 in
      let same : r.0 ≡ id = sym (ap id_of r.2) in
      let e : 0 ≡ suc at.0 = own 0 (suc at.0) id refl (at.1 ∙ ap Some same) in omega arith,
  outputs_different ids ports (λ i j x a b. let e : suc i ≡ suc j = own (suc i) (suc j) x a b in omega arith),
)

marked : (ids : List NodeId) (id : NodeId) → Has ids id → list_any (λ (i : NodeId). i.0 == id.0) ids ≡ true
marked [] id h = elim h [ ]
marked (x ∷ ids) _ first = ap (λ b. b || list_any (λ (i : NodeId). i.0 == x.0) ids) (eq-eqb x.0 x.0 refl)
marked (x ∷ ids) id (later h) = rw (marked ids id h) (or_true (x.0 == id.0))
  where
    or_true : (b : Bool) → (b || true) ≡ true
    or_true true = refl
    or_true false = refl

node_in : Option NodeRow → Node
node_in None = Input 0
node_in (Some row) = row.node

no_wire : (k : ℕ) (d : Option NodeId) → Input k ≡ Wire d → ⊥
no_wire k d e = cc

-- no output is an input
output_late : (g : Graph) → IsLawful g → IsCanonical g → (id : NodeId) → Has g.outputs id → first_number g ≤ id.0
unfolding node_in
output_late g lawful canonical id h =
    elim (choice (nat_lt id.0 (first_number g))) [
      | inl e ↦
          (let lt : id.0 < length g.ports.inputs = ltb-true id.0 (first_number g) e in
          let port : slice_get g.ports.inputs id.0 ≡ Some (get_or g.ports.inputs id.0 (record { name = []; width = 0 })) = slice_get-get_or g.ports.inputs id.0 (record { name = []; width = 0 }) lt in
          let row : slice_get g.nodes id.0 ≡ Some (input_row (get_or g.ports.inputs id.0 (record { name = []; width = 0 })) id.0) = canonical.inputs id.0
          (get_or g.ports.inputs id.0 (record { name = []; width = 0 })) port in
          absurd (no_wire id.0 (lawful.wires id h).1 (ap node_in (sym row ∙ (lawful.wires id h).2) ∙ (lawful.wires id h).3)))
      | inr e ↦ not_below id.0 (first_number g) e
    ]
  where
    not_below : (m n : ℕ) → nat_lt m n ≡ false → n ≤ m
    not_below m n e = grind (arith, ltb-false)

kind_of_input : (g : Graph) (n : ℕ) → n < first_number g → kind g (vertex (node n)) ≡ 1
unfolding kind
kind_of_input g n lt = rw (lt-ltb n (first_number g) lt) refl

kind_of_late : (g : Graph) (n : ℕ) → first_number g ≤ n → kind g (vertex (node n)) ≡ (if is_output g n then 2 else 3)
unfolding kind
kind_of_late g n le =
    elim (choice (nat_lt n (first_number g))) [
      | inl e ↦ absurd (let lt : n < first_number g = ltb-true n (first_number g) e in omega arith)
      | inr e ↦ rw e refl
    ]

own_node : (m n : ℕ) → vertex (node m) ≡ vertex (node n) → m ≡ n
own_node m n e = cc

own_mem : (m n : ℕ) → vertex (mem m) ≡ vertex (mem n) → m ≡ n
own_mem m n e = cc

own_inst : (m n : ℕ) → vertex (inst m) ≡ vertex (inst n) → m ≡ n
own_inst m n e = cc

own_cell : (m n : ℕ) → cell m ≡ cell n → m ≡ n
own_cell m n e = cc

module _ (g : Graph) (lawful : IsLawful g) (canonical : IsCanonical g) where
  inputs_kind : AllOfKind g 1 (want_inputs g)
  inputs_kind z h =
      let k : (p : ℕ × Port) × Has (enumerate_from 0 g.ports.inputs) p × (z ≡ vertex (node p.0)) = has_mapped (λ (p : ℕ × Port). (vertex (node p.0), p.1.name)) (enumerate_from 0 g.ports.inputs) z h in
      ap (kind g) k.2 ∙ kind_of_input g k.0.0 (let lt : k.0.0 < 0 + length g.ports.inputs = below 0 g.ports.inputs k.0 k.1 in omega (arith, lt))
    where
      below : {X : Type 0} (a : ℕ) (xs : List X) (p : ℕ × X) → Has (enumerate_from a xs) p → p.0 < a + length xs
      below a [] p h = elim h [ ]
      below a (x ∷ xs) _ first = omega arith
      below a (x ∷ xs) p (later h) = let lt : p.0 < a + 1 + length xs = below (a + 1) xs p h in omega arith

  outputs_kind : AllOfKind g 2 (want_outputs g)
  outputs_kind z h =
      let k : (id : NodeId) × Has g.outputs id × (z ≡ vertex (node id.0)) = output_key g.outputs g.ports.outputs z h in
      ap (kind g) k.2 ∙ kind_of_late g k.0.0 (output_late g lawful canonical k.0 k.1) ∙ ap (λ b. if b then 2 else 3) (marked g.outputs k.0 k.1)

  nodes_rise : IsRising (first_number g) (numbered_nodes g)
  nodes_rise = rising_enumerate (first_number g) (drop (first_number g) g.nodes)

  nodes_kind : AllOfKind g 3 (want_nodes g)
  nodes_kind z h =
      let k : (p : ℕ × NodeRow) × Has (inner_nodes g) p × (z ≡ vertex (node p.0)) = has_mapped
      (λ (p : ℕ × NodeRow). (vertex (node p.0), unwrap_or p.1.label (node_name g (codes "n") p.0))) (inner_nodes g) z h in
      let there : Has (numbered_nodes g) k.0 × ((if is_output g k.0.0 then false else true) ≡ true) = has_filter (λ (p : ℕ × NodeRow). if is_output g p.0 then false else true)
      (numbered_nodes g) k.0 k.1 in
      ap (kind g) k.2 ∙ kind_of_late g k.0.0 (rising_number (first_number g) (numbered_nodes g) k.0 nodes_rise there.0) ∙ no_output (is_output g k.0.0) there.1
    where
      no_output : (b : Bool) → (if b then false else true) ≡ true → ◌≡◌ {A = ℕ} (if b then 2 else 3) 3
      no_output true e = absurd (true≢false (sym e))
      no_output false e = refl

  memories_kind : AllOfKind g 4 (want_memories g)
  unfolding kind
  memories_kind z h = ap (kind g) (rising_key (λ (p : ℕ × Memory). (vertex (mem p.0), unwrap_or p.1.label (codes "m" ++ decimal p.0))) (λ n. vertex (mem n)) (λ p. refl) 0
      (enumerate_from 0 g.memories) z (rising_enumerate 0 g.memories) h).2

  instances_kind : AllOfKind g 5 (want_instances g)
  unfolding kind
  instances_kind z h = ap (kind g) (rising_key (λ (p : ℕ × Instance). (vertex (inst p.0), unwrap_or p.1.label (codes "u" ++ decimal p.0))) (λ n. vertex (inst n)) (λ p. refl) 0
      (enumerate_from 0 g.instances) z (rising_enumerate 0 g.instances) h).2

  cells_rise : IsRising (first_number g) (operation_nodes g)
  cells_rise = rising_filter (λ (p : ℕ × NodeRow). is_operation p.1.node) (first_number g) (numbered_nodes g) nodes_rise

  cells_kind : AllOfKind g 6 (want_cells g)
  unfolding kind
  cells_kind z h = ap (kind g) (rising_key (λ (p : ℕ × NodeRow). (cell p.0, node_name g (codes "o") p.0)) (λ n. cell n) (λ p. refl) (first_number g) (operation_nodes g) z cells_rise h).2

  -- each thing is named once
  pub wanted_different : AllDifferent (keys (wanted g))
  unfolding kind
  wanted_different =
      let d6 : AllDifferent (keys (want_cells g)) = rising_different (λ (p : ℕ × NodeRow). (cell p.0, node_name g (codes "o") p.0)) (λ n. cell n) (λ p. refl) own_cell
      (first_number g) (operation_nodes g) cells_rise in
      let d5 : AllDifferent (keys (want_instances g)) = rising_different (λ (p : ℕ × Instance). (vertex (inst p.0), unwrap_or p.1.label (codes "u" ++ decimal p.0)))
      (λ n. vertex (inst n)) (λ p. refl) own_inst 0 (enumerate_from 0 g.instances) (rising_enumerate 0 g.instances) in
      let d4 : AllDifferent (keys (want_memories g)) = rising_different (λ (p : ℕ × Memory). (vertex (mem p.0), unwrap_or p.1.label (codes "m" ++ decimal p.0)))
      (λ n. vertex (mem n)) (λ p. refl) own_mem 0 (enumerate_from 0 g.memories) (rising_enumerate 0 g.memories) in
      let d3 : AllDifferent (keys (want_nodes g)) = rising_different (λ (p : ℕ × NodeRow). (vertex (node p.0), unwrap_or p.1.label (node_name g (codes "n") p.0)))
      (λ n. vertex (node n)) (λ p. refl) own_node (first_number g) (inner_nodes g)
      (rising_filter (λ (p : ℕ × NodeRow). if is_output g p.0 then false else true) (first_number g) (numbered_nodes g) nodes_rise) in
      let d2 : AllDifferent (keys (want_outputs g)) = outputs_different g.outputs g.ports.outputs lawful.own_wire in
      let d1 : AllDifferent (keys (want_inputs g)) = rising_different (λ (p : ℕ × Port). (vertex (node p.0), p.1.name)) (λ n. vertex (node n)) (λ p. refl) own_node 0
      (enumerate_from 0 g.ports.inputs) (rising_enumerate 0 g.ports.inputs) in
      let a5 : AllAbove g 5 (want_cells g) = all_above g 5 6 (want_cells g) (omega arith) cells_kind in
      let a4 : AllAbove g 4 (want_instances g ++ want_cells g) = above g 4 5 (want_instances g) (want_cells g) (omega arith) instances_kind (lift g 4 5 (want_cells g) (omega arith) a5) in
      let a3 : AllAbove g 3 (want_memories g ++ (want_instances g ++ want_cells g)) = above g 3 4 (want_memories g) _ (omega arith) memories_kind (lift g 3 4 _ (omega arith) a4) in
      let a2 : AllAbove g 2 (want_nodes g ++ (want_memories g ++ (want_instances g ++ want_cells g))) = above g 2 3 (want_nodes g) _ (omega arith) nodes_kind (lift g 2 3 _ (omega arith) a3) in
      let a1 : AllAbove g 1 (want_outputs g ++ (want_nodes g ++ (want_memories g ++ (want_instances g ++ want_cells g)))) = above g 1 2 (want_outputs g) _
      (omega arith) outputs_kind (lift g 1 2 _ (omega arith) a2) in
      let a0 : AllAbove g 0 (want_inputs g ++ (want_outputs g ++ (want_nodes g ++ (want_memories g ++ (want_instances g ++ want_cells g))))) = above g 0 1 (want_inputs g) _
      (omega arith) inputs_kind (lift g 0 1 _ (omega arith) a1) in
      let e5 = before g 5 (want_instances g) (want_cells g) instances_kind a5 d5 d6 in
      let e4 = before g 4 (want_memories g) (want_instances g ++ want_cells g) memories_kind a4 d4 e5 in
      let e3 = before g 3 (want_nodes g) (want_memories g ++ (want_instances g ++ want_cells g)) nodes_kind a3 d3 e4 in
      let e2 = before g 2 (want_outputs g) (want_nodes g ++ (want_memories g ++ (want_instances g ++ want_cells g))) outputs_kind a2 d2 e3 in
      let e1 = before g 1 (want_inputs g) (want_outputs g ++ (want_nodes g ++ (want_memories g ++ (want_instances g ++ want_cells g)))) inputs_kind a1 d1 e2 in
      (λ h. let lt : 0 < kind g clock = a0 clock h in omega (arith, lt), e1)
