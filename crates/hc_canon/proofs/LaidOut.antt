-- The circuit laid out by a walk is isomorphic to the one walked, and canonical.
use Rattle.std.proofs.Common.{◌≡◌, ℕ, zero, suc, ◌+◌, ◌-◌, ◌<◌, ◌≤◌, ◌⊎◌, List, [], ◌∷◌, ◌++◌, map, length, refl, sym, subst, ◌∙◌, ap, ap₂, inl, inr, arith, length-append}
use Rattle.std.proofs.lemmas.Option.{slice_get_within}
use Rattle.std.specs.Prelude.{slice_get, Option, Some, None, option_map, option_to_list, unwrap_or}
use Rattle.hc_signal.specs.Member.{Has, first, later}
use Rattle.hc_signal.specs.declared.signal.Port.{Port}
use Rattle.hc_signal.specs.declared.signal.NodeRow.{NodeRow}
use Rattle.hc_signal.specs.declared.signal.Node.TheVariants.{Input}
use Rattle.hc_signal.specs.Graph.{Graph, Vertex, node, mem, inst, Reached}
use Rattle.hc_signal.specs.Lawful.{IsLawful, IsLawfulNode, NodeAt}
use Rattle.hc_signal.specs.Renumber.{Renumbering, renumber, row_by, node_by, memory_by, instance_by}
use Rattle.hc_canon.specs.Same.{IsIsomorphism}
use Rattle.hc_walk.specs.DepthFirst.{NumbersTo}
use Rattle.hc_canon.specs.Numbering.{IsCanonical, counted, nodes_met, memories_met, instances_met, count_from, input_row}
use Rattle.hc_canon.specs.Layout.{input_rows, picked, laid_out, AreNumbers}
use Rattle.hc_walk.proofs.Walks.{walk_complete, walk_sound}
use Rattle.hc_canon.proofs.Isomorphisms.{walk_along}
use Rattle.hc_walk.proofs.InRange.{reached_row}
use Rattle.hc_walk.proofs.Members.{has_slice}
use Rattle.hc_canon.proofs.Canonical.{counted_cases, nodes_met_has, met_from_nodes, memories_met_has, met_from_memories, instances_met_has, met_from_instances, memories_met_by, instances_met_by, nodes_met_by, two, some_within}

-- where an element stands
pub has_index : {X : Type 0} {xs : List X} {x : X} → Has xs x → (i : ℕ) × (slice_get xs i ≡ Some x)
has_index first = (zero, refl)
has_index (later h) = let r : _ = has_index h in (suc r.0, r.1)

pub slice_right : {X : Type 0} (xs ys : List X) (i : ℕ) → slice_get (xs ++ ys) (length xs + i) ≡ slice_get ys i
slice_right [] ys i = ap (slice_get ys) (omega arith)
slice_right (x ∷ xs) ys i = (let e : length (x ∷ xs) + i ≡ suc (length xs + i) = omega arith in ap (slice_get (x ∷ (xs ++ ys))) e) ∙ slice_right xs ys i

pub slice_left : {X : Type 0} (xs ys : List X) (i : ℕ) (x : X) → slice_get xs i ≡ Some x → slice_get (xs ++ ys) i ≡ Some x
slice_left [] ys i x e = cc
slice_left (y ∷ xs) ys zero x e = e
slice_left (y ∷ xs) ys (suc i) x e = slice_left xs ys i x e

pub slice_cases : {X : Type 0} (xs ys : List X) (i : ℕ) (x : X) → slice_get (xs ++ ys) i ≡ Some x → (slice_get xs i ≡ Some x) ⊎ ((j : ℕ) × (i ≡ length xs + j) × (slice_get ys j ≡ Some x))
slice_cases [] ys i x e = inr (i, omega arith, e)
slice_cases (y ∷ xs) ys zero x e = inl e
slice_cases (y ∷ xs) ys (suc i) x e =
    elim (slice_cases xs ys i x e) [
      | inl l ↦ inl l
      | inr r ↦ (let q : i ≡ length xs + r.0 = r.1 in inr (r.0, omega (arith, q), r.2))
    ]

-- the rows of inputs
pub input_rows_at : (ps : List Port) (a k : ℕ) → slice_get (input_rows a ps) k ≡ option_map (λ p. input_row p (a + k)) (slice_get ps k)
input_rows_at [] a k = refl
input_rows_at (p ∷ ps) a zero = ap (λ n. Some (input_row p n)) (omega arith)
input_rows_at (p ∷ ps) a (suc k) =
    input_rows_at ps (suc a) k ∙ (let e : suc a + k ≡ a + suc k = omega arith in ap (λ n. option_map (λ (q : Port). input_row q n) (slice_get ps k)) e)

pub input_rows_length : (ps : List Port) (a : ℕ) → length (input_rows a ps) ≡ length ps
input_rows_length [] a = refl
input_rows_length (p ∷ ps) a = ap suc (input_rows_length ps (suc a))

-- what is picked
abbrev pub AllIn : {X : Type 0} → List X → List ℕ → Type 0
AllIn {X} xs ns = (n : ℕ) → Has ns n → (x : X) × (slice_get xs n ≡ Some x)

all_in_rest : {X : Type 0} (xs : List X) (n : ℕ) (ns : List ℕ) → AllIn xs (n ∷ ns) → AllIn xs ns
all_in_rest xs n ns a m h = a m (later h)

picked_one : {X : Type 0} (f : X → X) (xs : List X) (n : ℕ) (ns : List ℕ) → AllIn xs (n ∷ ns) → (x : X) × (slice_get xs n ≡ Some x) × (picked f xs (n ∷ ns) ≡ f x ∷ picked f xs ns)
picked_one f xs n ns a = let r : _ = a n first in (r.0, r.1, ap (λ o. option_to_list (option_map f o) ++ picked f xs ns) r.1)

pub picked_length : {X : Type 0} (f : X → X) (xs : List X) (ns : List ℕ) → AllIn xs ns → length (picked f xs ns) ≡ length ns
picked_length f xs [] a = refl
picked_length f xs (n ∷ ns) a = let r : _ = picked_one f xs n ns a in ap length r.2 ∙ ap suc (picked_length f xs ns (all_in_rest xs n ns a))

pub picked_at : {X : Type 0} (f : X → X) (xs : List X) (ns : List ℕ) → AllIn xs ns → (i n : ℕ) → slice_get ns i ≡ Some n → slice_get (picked f xs ns) i ≡ option_map f (slice_get xs n)
picked_at f xs [] a i n e = cc
picked_at f xs (m ∷ ns) a zero n e =
    let r : _ = picked_one f xs m ns a in
    let q : m ≡ n = ap (λ o. unwrap_or o m) e in
    ap (λ l. slice_get l zero) r.2 ∙ sym (ap (option_map f) r.1) ∙ ap (λ k. option_map f (slice_get xs k)) q
picked_at f xs (m ∷ ns) a (suc i) n e =
    let r : _ = picked_one f xs m ns a in ap (λ l. slice_get l (suc i)) r.2 ∙ picked_at f xs ns (all_in_rest xs m ns a) i n e

abbrev pub IsPicked : {X : Type 0} → (X → X) → List X → List ℕ → ℕ → X → Type 0
IsPicked {X} f xs ns i y = (n : ℕ) × (x : X) × (slice_get ns i ≡ Some n) × (slice_get xs n ≡ Some x) × (y ≡ f x)

pub picked_from : {X : Type 0} (f : X → X) (xs : List X) (ns : List ℕ) → AllIn xs ns → (i : ℕ) (y : X) → slice_get (picked f xs ns) i ≡ Some y → IsPicked f xs ns i y
picked_from f xs [] a i y e = cc
picked_from f xs (m ∷ ns) a zero y e =
    let r : _ = picked_one f xs m ns a in
    let q : Some (f r.0) ≡ Some y = sym (ap (λ l. slice_get l zero) r.2) ∙ e in
    (m, r.0, refl, r.1, sym (ap (λ o. unwrap_or o y) q))
picked_from f xs (m ∷ ns) a (suc i) y e =
    let r : _ = picked_one f xs m ns a in
    picked_from f xs ns (all_in_rest xs m ns a) i y (sym (ap (λ l. slice_get l (suc i)) r.2) ∙ e)

-- a map that numbers a list gives a count
pub counted_map : (f : ℕ → ℕ) (a : ℕ) (xs : List ℕ) → ((i x : ℕ) → slice_get xs i ≡ Some x → f x ≡ a + i) → map f xs ≡ count_from a (length xs)
counted_map f a [] h = refl
counted_map f a (x ∷ xs) h =
    let z : f x ≡ a + 0 = h zero x refl in
    let e : f x ≡ a = omega (arith, z) in
    ap₂ (λ y ys. y ∷ ys) e (counted_map f (suc a) xs (λ i y q. (let r : f y ≡ a + suc i = h (suc i) y q in omega (arith, r))))

-- what was met has rows
module _ (g : Graph) (l : IsLawful g) (end : List Vertex) (w : NumbersTo g end) where
  pub all_nodes_of : AllIn g.nodes (nodes_met g end)
  all_nodes_of n h = reached_row g l (walk_sound g w (node n) (met_from_nodes g end n h))

  pub all_memories_of : AllIn g.memories (memories_met end)
  all_memories_of n h = reached_row g l (walk_sound g w (mem n) (met_from_memories end n h))

  pub all_instances_of : AllIn g.instances (instances_met end)
  all_instances_of n h = reached_row g l (walk_sound g w (inst n) (met_from_instances end n h))

-- the element that a map numbers
abbrev nth : List ℕ → ℕ → ℕ
nth xs k = unwrap_or (slice_get xs k) 0

module _ (g : Graph) (l : IsLawful g) (end : List Vertex) (w : NumbersTo g end) (to : Renumbering) (are : AreNumbers g end to) where
  abbrev home : (k : ℕ) → (k < length g.ports.inputs) ⊎ (length g.ports.inputs ≤ k) → ℕ
  home k (inl b) = (l.inputs k b).0
  home k (inr b) = nth (nodes_met g end) (k - length g.ports.inputs)

  abbrev pub back : Renumbering
  back = record { node = λ k. home k (two k (length g.ports.inputs)); mem = nth (memories_met end); inst = nth (instances_met end) }

  pub all_nodes : AllIn g.nodes (nodes_met g end)
  all_nodes = all_nodes_of g l end w

  pub all_memories : AllIn g.memories (memories_met end)
  all_memories = all_memories_of g l end w

  pub all_instances : AllIn g.instances (instances_met end)
  all_instances = all_instances_of g l end w

  -- what an input node is
  pub input_port : (n k : ℕ) (row : NodeRow) → slice_get g.nodes n ≡ Some row → row.node ≡ Input k → (p : Port) × (slice_get g.ports.inputs k ≡ Some p) × (p.width ≡ row.width)
  input_port n k row e q = subst (λ x. IsLawfulNode g row.width x) q (l.nodes n row e).1

  home_input : (n k : ℕ) → NodeAt g n (Input k) → k < length g.ports.inputs → (d : (k < length g.ports.inputs) ⊎ (length g.ports.inputs ≤ k)) → home k d ≡ n
  home_input n k a b (inl c) = l.one_input (l.inputs k c).0 n k (l.inputs k c).1 a
  home_input n k a b (inr c) = absurd (omega (arith, b, c))

  home_node : (i n : ℕ) → slice_get (nodes_met g end) i ≡ Some n
      → (d : (length g.ports.inputs + i < length g.ports.inputs) ⊎ (length g.ports.inputs ≤ length g.ports.inputs + i)) → home (length g.ports.inputs + i) d ≡ n
  home_node i n e (inl c) = absurd (omega (arith, c))
  home_node i n e (inr c) = (let q : length g.ports.inputs + i - length g.ports.inputs ≡ i = omega arith in ap (nth (nodes_met g end)) q) ∙ ap (λ o. unwrap_or o 0) e

  -- each number is of a node
  pub node_there : (m : ℕ) → m < length g.ports.inputs + length (nodes_met g end) → (to.node (back.node m) ≡ m) × (back.node m < length g.nodes)
  node_there m b = go (two m (length g.ports.inputs))
    where
      counted : (k : ℕ) → m ≡ length g.ports.inputs + k → k < length (nodes_met g end) → (o : Option ℕ) → slice_get (nodes_met g end) k ≡ o
          → (to.node (unwrap_or o 0) ≡ m) × (unwrap_or o 0 < length g.nodes)
      counted k e c (Some n) q = let x : _ = all_nodes n (has_slice (nodes_met g end) k n q) in (are.nodes k n q ∙ sym e, slice_get_within g.nodes n x.0 x.1)
      counted k e c None q = absurd (some_within (nodes_met g end) k q c)

      go : (d : (m < length g.ports.inputs) ⊎ (length g.ports.inputs ≤ m)) → (to.node (home m d) ≡ m) × (home m d < length g.nodes)
      go (inl c) = let x : _ = l.inputs m c in (are.inputs x.0 m x.1, slice_get_within g.nodes x.0 x.1.0 x.1.1)
      go (inr c) = counted (m - length g.ports.inputs) (omega (arith, c)) (omega (arith, b, c)) (slice_get (nodes_met g end) (m - length g.ports.inputs)) refl

  node_index : (n : ℕ) → Reached g (node n) → Has (counted (slice_get g.nodes n) n) n → (i : ℕ) × (slice_get (nodes_met g end) i ≡ Some n)
  node_index n r c = has_index (nodes_met_has g n n (walk_complete g w r) c)

  memory_index : (n : ℕ) → Reached g (mem n) → (i : ℕ) × (slice_get (memories_met end) i ≡ Some n)
  memory_index n r = has_index (memories_met_has n (walk_complete g w r))

  pub instance_index : (n : ℕ) → Reached g (inst n) → (i : ℕ) × (slice_get (instances_met end) i ≡ Some n)
  instance_index n r = has_index (instances_met_has n (walk_complete g w r))

  node_back : (n : ℕ) → Reached g (node n) → back.node (to.node n) ≡ n
  node_back n r =
      elim (counted_cases (slice_get g.nodes n) n) [
        | inl i ↦ (let p : (p : Port) × (slice_get g.ports.inputs i.1 ≡ Some p) × (p.width ≡ i.0.width) = input_port n i.1 i.0 i.2 i.3 in
            ap back.node (are.inputs n i.1 (i.0, i.2, i.3)) ∙ home_input n i.1 (i.0, i.2, i.3) (slice_get_within g.ports.inputs i.1 p.0 p.1) (two i.1 (length g.ports.inputs)))
        | inr c ↦ (let at : (i : ℕ) × (slice_get (nodes_met g end) i ≡ Some n) = node_index n r c in
            ap back.node (are.nodes at.0 n at.1) ∙ home_node at.0 n at.1 (two (length g.ports.inputs + at.0) (length g.ports.inputs)))
      ]

  vertices_back : (p : Vertex) → Reached g p → renumber back (renumber to p) ≡ p
  vertices_back (node n) r = ap node (node_back n r)
  vertices_back (mem n) r = let at : (i : ℕ) × (slice_get (memories_met end) i ≡ Some n) = memory_index n r
      in ap mem (ap (nth (memories_met end)) (are.memories at.0 n at.1) ∙ ap (λ o. unwrap_or o 0) at.1)
  vertices_back (inst n) r = let at : (i : ℕ) × (slice_get (instances_met end) i ≡ Some n) = instance_index n r
      in ap inst (ap (nth (instances_met end)) (are.instances at.0 n at.1) ∙ ap (λ o. unwrap_or o 0) at.1)

  -- the row of an input
  input_same : (k : ℕ) (row : NodeRow) (p : Port) → row.node ≡ Input k → row.label ≡ None → p.width ≡ row.width → input_row p k ≡ row_by to row
  input_same k row p n m e i = record { width = e i; node = (sym (ap (node_by to) n)) i; label = (sym m) i }

  pub input_at : (k : ℕ) (p : Port) → slice_get g.ports.inputs k ≡ Some p → slice_get (laid_out g end to).nodes k ≡ Some (input_row p k)
  input_at k p e =
      slice_left (input_rows 0 g.ports.inputs) (picked (row_by to) g.nodes (nodes_met g end)) k (input_row p k)
      (input_rows_at g.ports.inputs 0 k ∙ ap (option_map (λ (q : Port). input_row q (0 + k))) e ∙ (let z : 0 + k ≡ k = omega arith in ap (λ n. Some (input_row p n)) z))

  row_at : (n : ℕ) → Reached g (node n) → slice_get (laid_out g end to).nodes (to.node n) ≡ option_map (row_by to) (slice_get g.nodes n)
  row_at n r =
      elim (counted_cases (slice_get g.nodes n) n) [
        | inl i ↦ (let p : (p : Port) × (slice_get g.ports.inputs i.1 ≡ Some p) × (p.width ≡ i.0.width) = input_port n i.1 i.0 i.2 i.3 in
            ap (slice_get (laid_out g end to).nodes) (are.inputs n i.1 (i.0, i.2, i.3)) ∙ input_at i.1 p.0 p.1
            ∙ ap Some (input_same i.1 i.0 p.0 i.3 (l.no_label n i.1 i.0 i.2 i.3) p.2) ∙ sym (ap (option_map (row_by to)) i.2))
        | inr c ↦ (let at : (i : ℕ) × (slice_get (nodes_met g end) i ≡ Some n) = node_index n r c in
            ap (slice_get (laid_out g end to).nodes) (are.nodes at.0 n at.1 ∙ ap (λ m. m + at.0) (sym (input_rows_length g.ports.inputs 0)))
            ∙ slice_right (input_rows 0 g.ports.inputs) (picked (row_by to) g.nodes (nodes_met g end)) at.0
            ∙ picked_at (row_by to) g.nodes (nodes_met g end) all_nodes at.0 n at.1)
      ]

  pub laid_out_isomorphism : IsIsomorphism to back g (laid_out g end to)
  laid_out_isomorphism = record {
    ports = refl;
    outputs = refl;
    one_to_one = vertices_back;
    nodes = row_at;
    memories = λ n r. (let at : (i : ℕ) × (slice_get (memories_met end) i ≡ Some n) = memory_index n r in
        ap (slice_get (laid_out g end to).memories) (are.memories at.0 n at.1) ∙ picked_at (memory_by to) g.memories (memories_met end) all_memories at.0 n at.1);
    instances = λ n r. (let at : (i : ℕ) × (slice_get (instances_met end) i ≡ Some n) = instance_index n r in
        ap (slice_get (laid_out g end to).instances) (are.instances at.0 n at.1) ∙ picked_at (instance_by to) g.instances (instances_met end) all_instances at.0 n at.1);
  }

  pub nodes_length : length (laid_out g end to).nodes ≡ length g.ports.inputs + length (nodes_met g end)
  nodes_length =
      length-append (input_rows 0 g.ports.inputs) (picked (row_by to) g.nodes (nodes_met g end))
      ∙ ap₂ (λ a b. a + b) (input_rows_length g.ports.inputs 0) (picked_length (row_by to) g.nodes (nodes_met g end) all_nodes)

  pub laid_out_canonical : IsCanonical (laid_out g end to)
  laid_out_canonical = record {
    end = map (renumber to) end;
    walk = walk_along to back g (laid_out g end to) laid_out_isomorphism w;
    inputs = input_at;
    nodes = (
      (let e : length (laid_out g end to).nodes ≡ length g.ports.inputs + length (nodes_met g end) = nodes_length in omega (arith, e)),
      nodes_met_by to back g (laid_out g end to) laid_out_isomorphism end (walk_sound g w) ∙ counted_map to.node (length g.ports.inputs) (nodes_met g end) are.nodes
          ∙ ap (count_from (length g.ports.inputs)) (let e : length (laid_out g end to).nodes ≡ length g.ports.inputs + length (nodes_met g end) = nodes_length in omega (arith, e)),
    );
    memories = memories_met_by to end ∙ counted_map to.mem 0 (memories_met end) (λ i x q. (let e : to.mem x ≡ i = are.memories i x q in omega (arith, e)))
        ∙ ap (count_from 0) (sym (picked_length (memory_by to) g.memories (memories_met end) all_memories));
    instances = instances_met_by to end ∙ counted_map to.inst 0 (instances_met end) (λ i x q. (let e : to.inst x ≡ i = are.instances i x q in omega (arith, e)))
        ∙ ap (count_from 0) (sym (picked_length (instance_by to) g.instances (instances_met end) all_instances));
  }
