-- A graph with one node more is formed.
use Rattle.std.proofs.Common.{◌≡◌, ℕ, true, false, List, [], ◌∷◌, ◌++◌, refl, sym, subst, ◌∙◌, ap, inl, inr}
use Rattle.std.specs.Prelude.{slice_get, Some}
use Rattle.hc_bits.specs.BitVector.{IsWidth}
use Rattle.hc_signal.specs.declared.signal.InstId.{InstId}
use Rattle.hc_signal.specs.declared.signal.Node.{Node}
use Rattle.hc_signal.specs.declared.signal.Node.TheVariants.{Input, InstOut}
use Rattle.hc_signal.specs.declared.signal.NodeRow.{NodeRow}
use Rattle.hc_signal.specs.Graph.{Graph}
use Rattle.hc_signal.specs.Lawful.{IsLawfulNode, NodeAt}
use Rattle.hc_signal.specs.Builds.{with_row, unlabelled, is_inner}
use Rattle.hc_unfold.specs.Formed.{IsFormed}
use Rattle.hc_unfold.proofs.RowPlaces.{place_left, place_cases}
use Rattle.hc_unfold.proofs.Extended.{Extends, lawful_node, lawful_memory, lawful_instance, have_widths}

-- the row at a place in a list
abbrev pub RowAt : List NodeRow → ℕ → Node → Type 0
RowAt rows n x = (row : NodeRow) × (slice_get rows n ≡ Some row) × (row.node ≡ x)

pub row_left : (rows more : List NodeRow) (n : ℕ) (x : Node) → RowAt rows n x → RowAt (rows ++ more) n x
row_left rows more n x r = (r.0, place_left rows more n r.0 r.1, r.2)

-- of a node that stands at one place, and not in the new row, there is one place
pub one_place : (rows : List NodeRow) (new : NodeRow) (x : Node) → ((m n : ℕ) → RowAt rows m x → RowAt rows n x → m ≡ n) → (new.node ≡ x → (n : ℕ) → ¬ RowAt rows n x)
    → (m n : ℕ) → RowAt (rows ++ new ∷ []) m x → RowAt (rows ++ new ∷ []) n x → m ≡ n
one_place rows new x one is_new m n a b =
    elim (place_cases rows new m a.0 a.1) [
      | inl p ↦ elim (place_cases rows new n b.0 b.1) [
        | inl q ↦ one m n (a.0, p, a.2) (b.0, q, b.2)
        | inr q ↦ absurd (is_new (ap (λ (r : NodeRow). r.node) q.1 ∙ b.2) m (a.0, p, a.2))
      ]
      | inr p ↦ elim (place_cases rows new n b.0 b.1) [
        | inl q ↦ absurd (is_new (ap (λ (r : NodeRow). r.node) p.1 ∙ a.2) n (b.0, q, b.2))
        | inr q ↦ p.0 ∙ sym q.0
      ]
    ]

pub with_row_extends : (g : Graph) (row : NodeRow) → Extends g (with_row g row)
with_row_extends g row = record {
  nodes = λ n old e. (old, place_left g.nodes _ n old e, refl);
  memories = λ m mem e. (mem, e, refl);
  instances = λ i it e. (it, e, refl);
  inputs = λ k p e. e;
}

-- the new row is lawful, and no other stands for the same port
module _ (g : Graph) (w : ℕ) (x : Node) (l : IsFormed g) (width : IsWidth w) (node : IsLawfulNode g w x)
    (new_input : (k : ℕ) → x ≡ Input k → (n : ℕ) → ¬ NodeAt g n (Input k)) (new_output : (i : InstId) (k : ℕ) → x ≡ InstOut i k → (n : ℕ) → ¬ NodeAt g n (InstOut i k)) where
  abbrev row : NodeRow
  row = unlabelled w x

  abbrev h : Graph
  h = with_row g row

  abbrev grown : Extends g h
  grown = with_row_extends g row

  pub formed_with_row : IsFormed h
  formed_with_row = record {
    ports = l.ports;
    nodes = λ n r e. elim (place_cases g.nodes row n r e) [
      | inl p ↦ (let was : _ = l.nodes n r p in (was.0, lawful_node g h grown r.width r.node was.1))
      | inr p ↦ subst (λ (r' : NodeRow). IsWidth r'.width × IsLawfulNode h r'.width r'.node) p.1 (width, lawful_node g h grown w x node)
    ];
    memories = λ m k. lawful_memory g h grown m (l.memories m k);
    instances = λ i k. lawful_instance g h grown i (l.instances i k);
    outputs = have_widths g h grown g.outputs _ l.outputs;
    wires = λ id k. (let was : _ = l.wires id k in (was.0, was.1, place_left g.nodes _ id.0 was.0 was.2, was.3, was.4));
    own_wire = l.own_wire;
    inputs = λ k b. (let was : _ = l.inputs k b in (was.0, row_left g.nodes _ was.0 (Input k) was.1));
    one_input = λ m n k. one_place g.nodes row (Input k) (λ m' n'. l.one_input m' n' k) (new_input k) m n;
    no_label = λ n k r e q. elim (place_cases g.nodes row n r e) [
      | inl p ↦ l.no_label n k r p q
      | inr p ↦ ap (λ (r' : NodeRow). r'.label) (sym p.1)
    ];
    one_output = λ m n k i. one_place g.nodes row (InstOut i k) (λ m' n'. l.one_output m' n' k i) (new_output i k) m n;
  }

inner_input : (x : Node) (k : ℕ) → is_inner x ≡ true → x ≡ Input k → ⊥
inner_input x k inner e = let no : is_inner x ≡ false = ap is_inner e in cc

inner_output : (x : Node) (i : InstId) (k : ℕ) → is_inner x ≡ true → x ≡ InstOut i k → ⊥
inner_output x i k inner e = let no : is_inner x ≡ false = ap is_inner e in cc

-- a node that stands for no port needs no more
pub formed_with_inner : (g : Graph) (w : ℕ) (x : Node) → IsFormed g → IsWidth w → IsLawfulNode g w x → is_inner x ≡ true → IsFormed (with_row g (unlabelled w x))
formed_with_inner g w x l width node inner = formed_with_row g w x l width node (λ k e n _. inner_input x k inner e) (λ i k e n _. inner_output x i k inner e)
