-- A builder with one row more is kept.
use Rattle.std.proofs.Common.{◌≡◌, ℕ, ◌+◌, ◌<◌, ◌≤◌, ◌⊎◌, Bool, true, false, ◌==◌, List, [], ◌∷◌, ◌++◌, length, refl, sym, subst, ◌∙◌, ap, inl, inr, arith, length-append}
use Rattle.std.specs.Prelude.{slice_get, sum_by, Some, None}
use Rattle.std.proofs.lemmas.Option.{slice_get_within, same_Some}
use Rattle.std.proofs.lemmas.List.{length_push}
use Rattle.std.proofs.lemmas.List.Sums.{sum_by_push, sum_by-cons}
use Rattle.hc_signal.specs.Member.{Has}
use Rattle.hc_signal.specs.declared.signal.Port.{Port}
use Rattle.hc_signal.specs.declared.signal.NodeId.{NodeId}
use Rattle.hc_signal.specs.declared.signal.InstId.{InstId}
use Rattle.hc_signal.specs.declared.signal.NodeRow.{NodeRow}
use Rattle.hc_signal.specs.declared.signal.Node.{Node}
use Rattle.hc_signal.specs.declared.signal.Node.TheVariants.{Input, Wire, InstOut}
use Rattle.hc_bits.specs.BitVector.{IsWidth}
use Rattle.hc_signal.specs.Graph.{Graph}
use Rattle.hc_signal.specs.Lawful.{IsLawful, IsLawfulNode, NodeAt}
use Rattle.hc_signal.specs.Weight.{graph_weight, node_weight, memory_weight, instance_weight, operands}
use Rattle.hc_signal.specs.Builds.{with_row, unlabelled, is_inner, HasRoomForNode, is_output}
use Rattle.hc_signal.specs.Kept.{IsKept, HasOutputsFrom}
use Rattle.std.proofs.lemmas.Bool.{ne_eqb, cases_lt}
use Rattle.hc_signal.proofs.Places.{has_pushed, has_place, place_left, place_last, place_cases, none_passes}
use Rattle.hc_signal.proofs.Grows.{Extends, lawful_node, lawful_memory, lawful_instance, have_widths}

-- the row at a place in a list
abbrev pub RowAt : List NodeRow → ℕ → Node → Type 0
RowAt rows n x = (row : NodeRow) × (slice_get rows n ≡ Some row) × (row.node ≡ x)

pub row_left : (rows more : List NodeRow) (n : ℕ) (x : Node) → RowAt rows n x → RowAt (rows ++ more) n x
row_left rows more n x r = (r.0, place_left rows more n r.0 r.1, r.2)

-- of a node that stands at one place, and not in the new row, there is one place
pub one_place : (rows : List NodeRow) (new : NodeRow) (x : Node) → ((m n : ℕ) → RowAt rows m x → RowAt rows n x → m ≡ n) → (new.node ≡ x → (n : ℕ) → ¬ RowAt rows n x)
    → (m n : ℕ) → RowAt (rows ++ new ∷ []) m x → RowAt (rows ++ new ∷ []) n x → m ≡ n
one_place rows new x one is_new m n a b =
    elim (place_cases rows new m a.0 a.1) [
      | inl p ↦ elim (place_cases rows new n b.0 b.1) [
        | inl q ↦ one m n (a.0, p, a.2) (b.0, q, b.2)
        | inr q ↦ absurd (is_new (ap (λ (r : NodeRow). r.node) q.1 ∙ b.2) m (a.0, p, a.2))
      ]
      | inr p ↦ elim (place_cases rows new n b.0 b.1) [
        | inl q ↦ absurd (is_new (ap (λ (r : NodeRow). r.node) p.1 ∙ a.2) n (b.0, q, b.2))
        | inr q ↦ p.0 ∙ sym q.0
      ]
    ]

pub with_row_extends : (g : Graph) (row : NodeRow) → Extends g (with_row g row)
with_row_extends g row = record {
  nodes = λ n old e. (old, place_left g.nodes _ n old e, refl);
  memories = λ m mem e. (mem, e, refl);
  instances = λ i it e. (it, e, refl);
  inputs = λ k p e. e;
}

-- the new row is lawful, and no other stands for the same port
module _ (g : Graph) (w : ℕ) (x : Node) (l : IsLawful g) (width : IsWidth w) (node : IsLawfulNode g w x)
    (new_input : (k : ℕ) → x ≡ Input k → (n : ℕ) → ¬ NodeAt g n (Input k)) (new_output : (i : InstId) (k : ℕ) → x ≡ InstOut i k → (n : ℕ) → ¬ NodeAt g n (InstOut i k)) (room : length g.nodes + 1 < 4294967296) where
  abbrev row : NodeRow
  row = unlabelled w x

  abbrev h : Graph
  h = with_row g row

  abbrev grown : Extends g h
  grown = with_row_extends g row

  pub lawful_with_row : IsLawful h
  lawful_with_row = record {
    ports = l.ports;
    nodes = λ n r e. elim (place_cases g.nodes row n r e) [
      | inl p ↦ (let was : _ = l.nodes n r p in (was.0, lawful_node g h grown r.width r.node was.1))
      | inr p ↦ subst (λ (r' : NodeRow). IsWidth r'.width × IsLawfulNode h r'.width r'.node) p.1 (width, lawful_node g h grown w x node)
    ];
    memories = λ m k. lawful_memory g h grown m (l.memories m k);
    instances = λ i k. lawful_instance g h grown i (l.instances i k);
    outputs = have_widths g h grown g.outputs _ l.outputs;
    wires = λ id k. (let was : _ = l.wires id k in (was.0, was.1, place_left g.nodes _ id.0 was.0 was.2, was.3, was.4));
    own_wire = l.own_wire;
    inputs = λ k b. (let was : _ = l.inputs k b in (was.0, row_left g.nodes _ was.0 (Input k) was.1));
    one_input = λ m n k. one_place g.nodes row (Input k) (λ m' n'. l.one_input m' n' k) (new_input k) m n;
    no_label = λ n k r e q. elim (place_cases g.nodes row n r e) [
      | inl p ↦ l.no_label n k r p q
      | inr p ↦ ap (λ (r' : NodeRow). r'.label) (sym p.1)
    ];
    one_output = λ m n k i. one_place g.nodes row (InstOut i k) (λ m' n'. l.one_output m' n' k i) (new_output i k) m n;
    few = (let n : _ = length_push g.nodes row in omega arith, l.few.1, l.few.2);
  }

pub weight_with_row : (g : Graph) (row : NodeRow) → graph_weight (with_row g row) ≡ graph_weight g + node_weight row
weight_with_row g row = omega (arith, sum_by_push node_weight g.nodes row)

-- ---- marks

-- a number past the nodes is no output
pub no_output_past : (g : Graph) → IsLawful g → (n : ℕ) → length g.nodes ≤ n → is_output g n ≡ false
no_output_past g l n past = none_passes (λ (id : NodeId). id.0 == n) g.outputs (λ id k.
    (let was : _ = l.wires id k in
    let within : id.0 < length g.nodes = slice_get_within g.nodes id.0 was.0 was.2 in
    ne_eqb id.0 n (λ e. omega arith)))

-- a list of marks with one more
pub marks_push : (p q : ℕ → Bool) (n : ℕ) (marks : List Bool) (mark : Bool) → length marks ≡ n → ((k : ℕ) → k < n → slice_get marks k ≡ Some (p k)) → ((k : ℕ) → k < n → q k ≡ p k) → q n ≡ mark
    → (k : ℕ) → k < n + 1 → slice_get (marks ++ mark ∷ []) k ≡ Some (q k)
marks_push p q n marks mark many old same new k b =
    elim (cases_lt k n) [
      | inl lt ↦ place_left marks _ k (q k) (old k lt ∙ ap Some (sym (same k lt)))
      | inr ge ↦ (let e : k ≡ length marks = omega arith in
          subst (λ j. slice_get (marks ++ mark ∷ []) j ≡ Some (q j)) (sym e) (place_last marks mark ∙ ap Some (sym (ap q many ∙ new))))
    ]

-- ---- one node more

pub outputs_left : (rows more : List NodeRow) (i base n : ℕ) → ((k : ℕ) → k < n → RowAt rows (base + k) (InstOut (record { 0 = i }) k)) → (k : ℕ) → k < n → RowAt (rows ++ more) (base + k) (InstOut (record { 0 = i }) k)
outputs_left rows more i base n at k b = row_left rows more (base + k) _ (at k b)

inner_input : (x : Node) (k : ℕ) → is_inner x ≡ true → x ≡ Input k → ⊥
inner_input x k inner e = let no : is_inner x ≡ false = ap is_inner e in cc

inner_output : (x : Node) (i : InstId) (k : ℕ) → is_inner x ≡ true → x ≡ InstOut i k → ⊥
inner_output x i k inner e = let no : is_inner x ≡ false = ap is_inner e in cc

kept_with_row : (g : Graph) (w : ℕ) (x : Node) (weight : ℕ) (marks : List Bool) (firsts : List ℕ) → IsKept g weight marks firsts → HasRoomForNode g (operands x) → IsWidth w → IsLawfulNode g w x → is_inner x ≡ true
    → IsKept (with_row g (unlabelled w x)) (weight + (1 + operands x)) (marks ++ false ∷ []) firsts
kept_with_row g w x weight marks firsts kept room width node inner =
    let l : IsLawful g = kept.lawful in
    let longer : _ = length_push g.nodes (unlabelled w x) in
    record {
      lawful = lawful_with_row g w x l width node (λ k e n _. inner_input x k inner e) (λ i k e n _. inner_output x i k inner e) room.0;
      total = (let e : _ = weight_with_row g (unlabelled w x) in let t : _ = kept.total in omega arith);
      marked = (let m : _ = length_push marks false in let n : _ = kept.marked in omega arith);
      wires = λ n b. marks_push (is_output g) (is_output g) (length g.nodes) marks false kept.marked kept.wires (λ k c. refl) (no_output_past g l (length g.nodes) (omega arith)) n (omega arith);
      counted = kept.counted;
      first_nodes = λ i it e. (let was : _ = kept.first_nodes i it e in (was.0, was.1, outputs_left g.nodes _ i was.0 (length it.ports.outputs) was.2));
      few_ports = (let f : _ = kept.few_ports in omega arith);
    }

-- the same, over lists that are known by equations
pub kept_node : (g old : Graph) (w : ℕ) (x : Node) (rows : List NodeRow) (weight total : ℕ) (marks marked : List Bool) (firsts : List ℕ)
    → IsKept g weight marks firsts → g ≡ old → HasRoomForNode old (operands x) → IsWidth w → IsLawfulNode old w x → is_inner x ≡ true
    → rows ≡ g.nodes ++ unlabelled w x ∷ [] → total ≡ weight + (1 + operands x) → marked ≡ marks ++ false ∷ []
    → IsKept (record g { nodes = rows }) total marked firsts
kept_node g old w x rows weight total marks marked firsts kept same room width node inner e d f =
    subst (λ rows'. IsKept (record g { nodes = rows' }) total marked firsts) (sym e)
    (subst (λ total'. IsKept (with_row g (unlabelled w x)) total' marked firsts) (sym d)
    (subst (λ marked'. IsKept (with_row g (unlabelled w x)) (weight + (1 + operands x)) marked' firsts) (sym f)
    (kept_with_row g w x weight marks firsts kept (subst (λ h. HasRoomForNode h (operands x)) (sym same) room) width (subst (λ h. IsLawfulNode h w x) (sym same) node) inner)))

-- ---- the weight counts each row

fewer : {X : Type 0} (f : X → ℕ) (xs : List X) → ((x : X) → 1 ≤ f x) → length xs ≤ sum_by f xs
fewer f [] h = omega arith
fewer f (x ∷ xs) h = let e : _ = sum_by-cons f x xs in let one : _ = h x in let more : _ = fewer f xs h in omega arith

rows_count : (g : Graph) → length g.nodes + length g.memories + length g.instances ≤ graph_weight g
rows_count g =
    let a : _ = fewer node_weight g.nodes (λ row. omega arith) in
    let b : _ = fewer memory_weight g.memories (λ m. omega arith) in
    let c : _ = fewer instance_weight g.instances (λ i. omega arith) in
    omega arith

pub weight_counts : (g old : Graph) (weight : ℕ) (marks : List Bool) (firsts : List ℕ) → IsKept g weight marks firsts → g ≡ old → length old.nodes + length old.memories + length old.instances ≤ weight
weight_counts g old weight marks firsts kept same =
    let few : _ = rows_count g in
    let total : weight ≡ graph_weight g = kept.total in
    subst (λ (h : Graph). length h.nodes + length h.memories + length h.instances ≤ weight) same (omega arith)
