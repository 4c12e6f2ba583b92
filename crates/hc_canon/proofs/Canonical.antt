-- Isomorphic canonical graphs are equal.
use Rattle.std.proofs.Common.{◌≡◌, ℕ, zero, suc, ◌+◌, ◌-◌, ◌<◌, ◌≤◌, ◌⊎◌, List, [], ◌∷◌, ◌++◌, map, length, refl, sym, subst, ◌∙◌, ap, ap₂, inl, inr, arith}
use Rattle.std.proofs.lemmas.List.{map-append}
use Rattle.std.proofs.lemmas.Option.{slice_get_past, slice_get_within}
use Rattle.std.specs.Prelude.{slice_get, Option, Some, None, option_map, unwrap_or}
use Rattle.hc_signal.specs.Member.{Has, first, later}
use Rattle.hc_walk.proofs.Members.{has_left, has_right, has_cases}
use Rattle.hc_signal.specs.declared.signal.Port.{Port}
use Rattle.hc_signal.specs.declared.signal.NodeRow.{NodeRow}
use Rattle.hc_signal.specs.declared.signal.Node.{Node}
use Rattle.hc_signal.specs.declared.signal.Node.TheVariants.{Input, Wire, Const, Two, Not, Mux, Cat, Select, Reg, Read, InstOut, Op}
use Rattle.hc_signal.specs.Graph.{Graph, Vertex, node, mem, inst, Reached, output, further, fanin}
use Rattle.hc_signal.specs.Renumber.{Renumbering, renumber, row_by, node_by}
use Rattle.hc_canon.specs.Same.{IsIsomorphism}
use Rattle.hc_canon.specs.Numbering.{IsCanonical, counted, nodes_met, memories_met, instances_met, count_from, input_row}
use Rattle.hc_walk.proofs.Walks.{walk_once, walk_complete, walk_sound, AllReached}
use Rattle.hc_canon.proofs.Isomorphisms.{walk_along}
use Rattle.hc_canon.proofs.Renumbered.{Fixes, number, ids_fixed, row_fixed, memory_fixed, instance_fixed}

abbrev rest : List ℕ → List ℕ
rest [] = []
rest (x ∷ xs) = xs

abbrev head_or : ℕ → List ℕ → ℕ
head_or d [] = d
head_or d (x ∷ xs) = x

fixed_more : (f : ℕ → ℕ) (a : ℕ) (xs : List ℕ) → f a ≡ a → ((k : ℕ) → Has xs k → f k ≡ k) → (k : ℕ) → Has (a ∷ xs) k → f k ≡ k
fixed_more f a xs e r k first = e
fixed_more f a xs e r k (later h) = r k h

-- a map that takes one count to another leaves each number
map_count : (f : ℕ → ℕ) (a m n : ℕ) → count_from a n ≡ map f (count_from a m) → (n ≡ m) × ((k : ℕ) → Has (count_from a m) k → f k ≡ k)
map_count f a zero zero e = (refl, λ k h. elim h [ ])
map_count f a zero (suc n) e = cc
map_count f a (suc m) zero e = cc
map_count f a (suc m) (suc n) e =
    let r : (n ≡ m) × ((k : ℕ) → Has (count_from (suc a) m) k → f k ≡ k) = map_count f (suc a) m n (ap rest e) in
    (ap suc r.0, fixed_more f a (count_from (suc a) m) (sym (ap (head_or a) e)) r.1)

a_or_more : (a k : ℕ) → a ≤ k → (a ≡ k) ⊎ (suc a ≤ k)
a_or_more a k l = grind arith

pub count_has : (n a k : ℕ) → a ≤ k → k < a + n → Has (count_from a n) k
count_has zero a k l h = absurd (omega (arith, l, h))
count_has (suc n) a k l h =
    elim (a_or_more a k l) [
      | inl e ↦ subst (λ z. Has (a ∷ count_from (suc a) n) z) e first
      | inr m ↦ (let b : k < suc a + n = omega (arith, h) in later (count_has n (suc a) k m b))
    ]

-- lists that agree at each place
pub ext_slice : {X : Type 0} (xs ys : List X) → ((k : ℕ) → slice_get xs k ≡ slice_get ys k) → xs ≡ ys
ext_slice [] [] e = refl
ext_slice [] (y ∷ ys) e = let h : None ≡ Some y = e zero in cc
ext_slice (x ∷ xs) [] e = let h : Some x ≡ None = e zero in cc
ext_slice (x ∷ xs) (y ∷ ys) e = ap₂ (λ a b. a ∷ b) (ap (λ o. unwrap_or o x) (e zero)) (ext_slice xs ys (λ k. e (suc k)))

-- what is counted along an isomorphism
counted_by : (r : Renumbering) (o : Option NodeRow) (n : ℕ) → counted (option_map (row_by r) o) (r.node n) ≡ map r.node (counted o n)
counted_by r None n = refl
counted_by r (Some row) n = go row.node
  where
    go : (x : Node) → counted (Some (record { width = row.width; node = node_by r x; label = row.label })) (r.node n) ≡ map r.node
        (counted (Some (record { width = row.width; node = x; label = row.label })) n)
    go (Input port) = refl
    go (Wire driver) = refl
    go (Const value) = refl
    go (Two op a b) = refl
    go (Not a) = refl
    go (Mux sel cases) = refl
    go (Cat parts) = refl
    go (Select a hi lo) = refl
    go (Reg next enable clear init) = refl
    go (Read m addr) = refl
    go (InstOut i port) = refl
    go (Op kind args) = refl

-- a row is an input's, or its number is counted
abbrev pub IsInput : Option NodeRow → Type 0
IsInput o = (row : NodeRow) × (k : ℕ) × (o ≡ Some row) × (row.node ≡ Input k)

pub counted_cases : (o : Option NodeRow) (n : ℕ) → IsInput o ⊎ Has (counted o n) n
counted_cases None n = inr first
counted_cases (Some row) n = go row.node refl
  where
    go : (x : Node) → row.node ≡ x → IsInput (Some row) ⊎ Has (counted (Some (record { width = row.width; node = x; label = row.label })) n) n
    go (Input port) e = inl (row, port, refl, e)
    go (Wire driver) e = inr first
    go (Const value) e = inr first
    go (Two op a b) e = inr first
    go (Not a) e = inr first
    go (Mux sel cases) e = inr first
    go (Cat parts) e = inr first
    go (Select a hi lo) e = inr first
    go (Reg next enable clear init) e = inr first
    go (Read m addr) e = inr first
    go (InstOut i port) e = inr first
    go (Op kind args) e = inr first

pub counted_only : (o : Option NodeRow) (n m : ℕ) → Has (counted o n) m → n ≡ m
counted_only None n m h = one h
  where
    one : {k : ℕ} → Has (n ∷ []) k → n ≡ k
    one first = refl
    one (later c) = elim c [ ]
counted_only (Some row) n m h = go row.node h
  where
    one : {k : ℕ} → Has (n ∷ []) k → n ≡ k
    one first = refl
    one (later c) = elim c [ ]

    go : (x : Node) → Has (counted (Some (record { width = row.width; node = x; label = row.label })) n) m → n ≡ m
    go (Input port) h = elim h [ ]
    go (Wire driver) h = one h
    go (Const value) h = one h
    go (Two op a b) h = one h
    go (Not a) h = one h
    go (Mux sel cases) h = one h
    go (Cat parts) h = one h
    go (Select a hi lo) h = one h
    go (Reg next enable clear init) h = one h
    go (Read m addr) h = one h
    go (InstOut i port) h = one h
    go (Op kind args) h = one h

-- the numbers of the nodes met, and back
pub nodes_met_has : (g : Graph) {ps : List Vertex} (n m : ℕ) → Has ps (node n) → Has (counted (slice_get g.nodes n) n) m → Has (nodes_met g ps) m
nodes_met_has g {ps} n m h c = go h
  where
    go : {qs : List Vertex} → Has qs (node n) → Has (nodes_met g qs) m
    go {qs = []} h = elim h [ ]
    go {qs = node n ∷ qs} first = has_left (nodes_met g qs) c
    go {qs = node k ∷ qs} (later h) = has_right (counted (slice_get g.nodes k) k) (go h)
    go {qs = mem k ∷ qs} (later h) = go h
    go {qs = inst k ∷ qs} (later h) = go h

pub met_from_nodes : (g : Graph) (ps : List Vertex) (m : ℕ) → Has (nodes_met g ps) m → Has ps (node m)
met_from_nodes g [] m h = elim h [ ]
met_from_nodes g (node n ∷ ps) m h =
    elim (has_cases (counted (slice_get g.nodes n) n) (nodes_met g ps) h) [
      | inl l ↦ subst (λ z. Has (node n ∷ ps) (node z)) (counted_only (slice_get g.nodes n) n m l) first
      | inr r ↦ later (met_from_nodes g ps m r)
    ]
met_from_nodes g (mem n ∷ ps) m h = later (met_from_nodes g ps m h)
met_from_nodes g (inst n ∷ ps) m h = later (met_from_nodes g ps m h)

pub memories_met_has : {ps : List Vertex} (m : ℕ) → Has ps (mem m) → Has (memories_met ps) m
memories_met_has {ps = []} m h = elim h [ ]
memories_met_has {ps = mem k ∷ ps} _ first = first
memories_met_has {ps = mem k ∷ ps} m (later h) = later (memories_met_has m h)
memories_met_has {ps = node k ∷ ps} m (later h) = memories_met_has m h
memories_met_has {ps = inst k ∷ ps} m (later h) = memories_met_has m h

pub met_from_memories : (ps : List Vertex) (m : ℕ) → Has (memories_met ps) m → Has ps (mem m)
met_from_memories [] m h = elim h [ ]
met_from_memories (mem k ∷ ps) _ first = first
met_from_memories (mem k ∷ ps) m (later h) = later (met_from_memories ps m h)
met_from_memories (node n ∷ ps) m h = later (met_from_memories ps m h)
met_from_memories (inst n ∷ ps) m h = later (met_from_memories ps m h)

pub instances_met_has : {ps : List Vertex} (m : ℕ) → Has ps (inst m) → Has (instances_met ps) m
instances_met_has {ps = []} m h = elim h [ ]
instances_met_has {ps = inst k ∷ ps} _ first = first
instances_met_has {ps = inst k ∷ ps} m (later h) = later (instances_met_has m h)
instances_met_has {ps = node k ∷ ps} m (later h) = instances_met_has m h
instances_met_has {ps = mem k ∷ ps} m (later h) = instances_met_has m h

pub met_from_instances : (ps : List Vertex) (m : ℕ) → Has (instances_met ps) m → Has ps (inst m)
met_from_instances [] m h = elim h [ ]
met_from_instances (inst k ∷ ps) _ first = first
met_from_instances (inst k ∷ ps) m (later h) = later (met_from_instances ps m h)
met_from_instances (node n ∷ ps) m h = later (met_from_instances ps m h)
met_from_instances (mem n ∷ ps) m h = later (met_from_instances ps m h)

pub memories_met_by : (r : Renumbering) (ps : List Vertex) → memories_met (map (renumber r) ps) ≡ map r.mem (memories_met ps)
memories_met_by r [] = refl
memories_met_by r (mem m ∷ ps) = ap (λ l. r.mem m ∷ l) (memories_met_by r ps)
memories_met_by r (node m ∷ ps) = memories_met_by r ps
memories_met_by r (inst m ∷ ps) = memories_met_by r ps

pub instances_met_by : (r : Renumbering) (ps : List Vertex) → instances_met (map (renumber r) ps) ≡ map r.inst (instances_met ps)
instances_met_by r [] = refl
instances_met_by r (inst m ∷ ps) = ap (λ l. r.inst m ∷ l) (instances_met_by r ps)
instances_met_by r (node m ∷ ps) = instances_met_by r ps
instances_met_by r (mem m ∷ ps) = instances_met_by r ps

pub nodes_met_by : (to back : Renumbering) (g h : Graph) → IsIsomorphism to back g h → (ps : List Vertex) → AllReached g ps → nodes_met h (map (renumber to) ps) ≡ map to.node (nodes_met g ps)
nodes_met_by to back g h e [] a = refl
nodes_met_by to back g h e (node n ∷ ps) a =
    ap₂ (λ xs ys. xs ++ ys) (ap (λ o. counted o (to.node n)) (e.nodes n (a (node n) first)) ∙ counted_by to (slice_get g.nodes n) n) (nodes_met_by to back g h e ps (λ p h. a p (later h)))
    ∙ sym (map-append to.node (counted (slice_get g.nodes n) n) (nodes_met g ps))
nodes_met_by to back g h e (mem n ∷ ps) a = nodes_met_by to back g h e ps (λ p h. a p (later h))
nodes_met_by to back g h e (inst n ∷ ps) a = nodes_met_by to back g h e ps (λ p h. a p (later h))

pub some_within : {X : Type 0} (xs : List X) (k : ℕ) → slice_get xs k ≡ None → k < length xs → ⊥
some_within [] k q b = omega (arith, b)
some_within (x ∷ xs) zero q b = cc
some_within (x ∷ xs) (suc k) q b = let c : k < length xs = omega (arith, b) in some_within xs k q c

pub two : (k n : ℕ) → (k < n) ⊎ (n ≤ k)
two k n = grind arith

three : (k a b : ℕ) → (k < a) ⊎ (((a ≤ k) × (k < b)) ⊎ (b ≤ k))
three k a b = elim (two k a) [ inl l ↦ inl l | inr m ↦ (elim (two k b) [ inl l ↦ inr (inl (m, l)) | inr p ↦ inr (inr p) ]) ]

-- a number among those of the nodes met is counted
met_is_counted : (g : Graph) (ps : List Vertex) (m : ℕ) → Has (nodes_met g ps) m → Has (counted (slice_get g.nodes m) m) m
met_is_counted g [] m h = elim h [ ]
met_is_counted g (node n ∷ ps) m h =
    elim (has_cases (counted (slice_get g.nodes n) n) (nodes_met g ps) h) [
      | inl l ↦ (let e : n ≡ m = counted_only (slice_get g.nodes n) n m l in subst (λ k. Has (counted (slice_get g.nodes k) k) m) e l)
      | inr r ↦ met_is_counted g ps m r
    ]
met_is_counted g (mem n ∷ ps) m h = met_is_counted g ps m h
met_is_counted g (inst n ∷ ps) m h = met_is_counted g ps m h

input_not_counted : (row : NodeRow) (k n : ℕ) → row.node ≡ Input k → Has (counted (Some row) n) n → ⊥
input_not_counted row k n e h = none (subst (λ x. Has (counted (Some (record { width = row.width; node = x; label = row.label })) n) n) e h)
  where
    none : {m : ℕ} → Has [] m → ⊥
    none c = elim c [ ]

-- what stands in a canonical graph
module _ (g : Graph) (c : IsCanonical g) where
  counted_here : (k : ℕ) → length g.ports.inputs ≤ k → k < length g.nodes → Has (nodes_met g c.end) k
  counted_here k l b =
      let a : length g.ports.inputs ≤ length g.nodes = c.nodes.0 in
      let d : k < length g.ports.inputs + (length g.nodes - length g.ports.inputs) = omega (arith, l, b, a) in
      subst (λ x. Has x k) (sym c.nodes.1) (count_has _ _ k l d)

  pub reached_node : (k : ℕ) → length g.ports.inputs ≤ k → k < length g.nodes → Reached g (node k)
  reached_node k l b = walk_sound g c.walk (node k) (met_from_nodes g c.end k (counted_here k l b))

  pub reached_mem : (k : ℕ) → k < length g.memories → Reached g (mem k)
  reached_mem k b = let d : k < 0 + length g.memories = omega (arith, b) in let z : 0 ≤ k = omega arith in
      walk_sound g c.walk (mem k) (met_from_memories c.end k (subst (λ x. Has x k) (sym c.memories) (count_has _ _ k z d)))

  pub reached_inst : (k : ℕ) → k < length g.instances → Reached g (inst k)
  reached_inst k b = let d : k < 0 + length g.instances = omega (arith, b) in let z : 0 ≤ k = omega arith in
      walk_sound g c.walk (inst k) (met_from_instances c.end k (subst (λ x. Has x k) (sym c.instances) (count_has _ _ k z d)))

  -- the number of an input node is its port
  pub input_at_port : (n k : ℕ) (row : NodeRow) → slice_get g.nodes n ≡ Some row → row.node ≡ Input k → n ≡ k
  input_at_port n k row e q =
      elim (two n (length g.ports.inputs)) [
        | inl b ↦ at_port (slice_get g.ports.inputs n) refl b
        | inr b ↦ (let h : Has (counted (slice_get g.nodes n) n) n = met_is_counted g c.end n (counted_here n b (slice_get_within g.nodes n row e)) in
            absurd (input_not_counted row k n q (subst (λ o. Has (counted o n) n) e h)))
      ]
    where
      at_port : (o : Option Port) → slice_get g.ports.inputs n ≡ o → n < length g.ports.inputs → n ≡ k
      at_port (Some p) r b =
          let same : Some row ≡ Some (input_row p n) = sym e ∙ c.inputs n p r in
          let i : Input k ≡ Input n = sym q ∙ ap (λ (x : NodeRow). x.node) (ap (λ o. unwrap_or o row) same) in
          cc
      at_port None r b = absurd (some_within g.ports.inputs n r b)

module _ (to back : Renumbering) (g h : Graph) (e : IsIsomorphism to back g h) (cg : IsCanonical g) (ch : IsCanonical h) where
  ends : ch.end ≡ map (renumber to) cg.end
  ends = walk_once h ch.walk (walk_along to back g h e cg.walk)

  same_inputs : length h.ports.inputs ≡ length g.ports.inputs
  same_inputs = ap (λ p. length p.inputs) e.ports

  node_counts : count_from (length g.ports.inputs) (length h.nodes - length g.ports.inputs) ≡ map to.node (count_from (length g.ports.inputs) (length g.nodes - length g.ports.inputs))
  node_counts =
      sym (ap (λ i. count_from i (length h.nodes - i)) same_inputs) ∙ sym ch.nodes.1 ∙ ap (nodes_met h) ends
      ∙ nodes_met_by to back g h e cg.end (walk_sound g cg.walk) ∙ ap (map to.node) cg.nodes.1

  node_map : (length h.nodes - length g.ports.inputs ≡ length g.nodes - length g.ports.inputs)
      × ((k : ℕ) → Has (count_from (length g.ports.inputs) (length g.nodes - length g.ports.inputs)) k → to.node k ≡ k)
  node_map = map_count to.node (length g.ports.inputs) (length g.nodes - length g.ports.inputs) (length h.nodes - length g.ports.inputs) node_counts

  mem_map : (length h.memories ≡ length g.memories) × ((k : ℕ) → Has (count_from 0 (length g.memories)) k → to.mem k ≡ k)
  mem_map = map_count to.mem 0 (length g.memories) (length h.memories) (sym ch.memories ∙ ap memories_met ends ∙ memories_met_by to cg.end ∙ ap (map to.mem) cg.memories)

  inst_map : (length h.instances ≡ length g.instances) × ((k : ℕ) → Has (count_from 0 (length g.instances)) k → to.inst k ≡ k)
  inst_map = map_count to.inst 0 (length g.instances) (length h.instances) (sym ch.instances ∙ ap instances_met ends ∙ instances_met_by to cg.end ∙ ap (map to.inst) cg.instances)

  same_length : length h.nodes ≡ length g.nodes
  same_length =
      let a : length g.ports.inputs ≤ length g.nodes = cg.nodes.0 in
      let b : length h.ports.inputs ≤ length h.nodes = ch.nodes.0 in
      omega (arith, a, b, same_inputs, node_map.0)

  -- an input keeps its number
  input_fixed : (n : ℕ) → Reached g (node n) → IsInput (slice_get g.nodes n) → to.node n ≡ n
  input_fixed n r i =
      let there : slice_get h.nodes (to.node n) ≡ Some (row_by to i.0) = e.nodes n r ∙ ap (option_map (row_by to)) i.2 in
      input_at_port h ch (to.node n) i.1 (row_by to i.0) there (ap (node_by to) i.3) ∙ sym (input_at_port g cg n i.1 i.0 i.2 i.3)

  -- each vertex that is reached goes to itself
  vertex_fixed : (p : Vertex) → Reached g p → renumber to p ≡ p
  vertex_fixed (node n) r =
      elim (counted_cases (slice_get g.nodes n) n) [
        | inl i ↦ ap node (input_fixed n r i)
        | inr c ↦ ap node (node_map.1 n (subst (λ l. Has l n) cg.nodes.1 (nodes_met_has g n n (walk_complete g cg.walk r) c)))
      ]
  vertex_fixed (mem m) r = ap mem (mem_map.1 m (subst (λ l. Has l m) cg.memories (memories_met_has m (walk_complete g cg.walk r))))
  vertex_fixed (inst i) r = ap inst (inst_map.1 i (subst (λ l. Has l i) cg.instances (instances_met_has i (walk_complete g cg.walk r))))

  fanin_stays : (p : Vertex) → Reached g p → Fixes to (fanin g p)
  fanin_stays p r q c = vertex_fixed q (further p q r c)

  row_stays : (k : ℕ) → Reached g (node k) → slice_get h.nodes k ≡ slice_get g.nodes k
  row_stays k r = ap (slice_get h.nodes) (sym (ap number (vertex_fixed (node k) r))) ∙ e.nodes k r ∙ row_fixed to (slice_get g.nodes k) (fanin_stays (node k) r)

  input_row_stays : (k : ℕ) → k < length g.ports.inputs → slice_get h.nodes k ≡ slice_get g.nodes k
  input_row_stays k b = go (slice_get g.ports.inputs k) refl
    where
      go : (o : Option Port) → slice_get g.ports.inputs k ≡ o → slice_get h.nodes k ≡ slice_get g.nodes k
      go (Some p) q = ch.inputs k p (ap (λ x. slice_get x.inputs k) e.ports ∙ q) ∙ sym (cg.inputs k p q)
      go None q = absurd (some_within g.ports.inputs k q b)

  node_row : (k : ℕ) → slice_get h.nodes k ≡ slice_get g.nodes k
  node_row k =
      elim (three k (length g.ports.inputs) (length g.nodes)) [
        | inl b ↦ input_row_stays k b
        | inr o ↦ (elim o [
          | inl m ↦ row_stays k (reached_node g cg k m.0 m.1)
          | inr p ↦ (let q : length h.nodes ≤ k = omega (arith, p, same_length) in slice_get_past h.nodes k q ∙ sym (slice_get_past g.nodes k p))
        ])
      ]

  mem_row : (k : ℕ) → slice_get h.memories k ≡ slice_get g.memories k
  mem_row k =
      elim (two k (length g.memories)) [
        | inl b ↦ (let r : Reached g (mem k) = reached_mem g cg k b in
            ap (slice_get h.memories) (sym (ap number (vertex_fixed (mem k) r))) ∙ e.memories k r ∙ memory_fixed to (slice_get g.memories k) (fanin_stays (mem k) r))
        | inr p ↦ (let q : length h.memories ≤ k = omega (arith, p, mem_map.0) in slice_get_past h.memories k q ∙ sym (slice_get_past g.memories k p))
      ]

  inst_row : (k : ℕ) → slice_get h.instances k ≡ slice_get g.instances k
  inst_row k =
      elim (two k (length g.instances)) [
        | inl b ↦ (let r : Reached g (inst k) = reached_inst g cg k b in
            ap (slice_get h.instances) (sym (ap number (vertex_fixed (inst k) r))) ∙ e.instances k r ∙ instance_fixed to (slice_get g.instances k) (fanin_stays (inst k) r))
        | inr p ↦ (let q : length h.instances ≤ k = omega (arith, p, inst_map.0) in slice_get_past h.instances k q ∙ sym (slice_get_past g.instances k p))
      ]

  same_outputs : h.outputs ≡ g.outputs
  same_outputs = e.outputs ∙ ids_fixed to g.outputs (λ q c. vertex_fixed q (output q c))

  -- isomorphic canonical graphs are equal, and each instance keeps its number
  pub canonical_once : h ≡ g
  canonical_once = λ i. record {
    ports = e.ports i;
    outputs = same_outputs i;
    nodes = ext_slice h.nodes g.nodes node_row i;
    memories = ext_slice h.memories g.memories mem_row i;
    instances = ext_slice h.instances g.instances inst_row i;
  }

  pub instance_stays : (k : ℕ) → Reached g (inst k) → to.inst k ≡ k
  instance_stays k r = ap number (vertex_fixed (inst k) r)
