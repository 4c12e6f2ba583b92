-- Each place that is reached in a whole tree has a row, and the number of a node depends on what it needs alone.
use Rattle.std.proofs.Common.{◌≡◌, ℕ, List, [], ◌∷◌, map, refl, ap, ap₂}
use Rattle.std.specs.Prelude.{slice_get, slice_index, Option, Some, None}
use Rattle.hc_signal.specs.Member.{Has, first, later}
use Rattle.hc_walk.proofs.InRange.{HasRow, reached_row}
use Rattle.hc_signal.specs.declared.signal.NodeId.{NodeId}
use Rattle.hc_signal.specs.declared.signal.Node.{Node}
use Rattle.hc_signal.specs.declared.signal.Node.TheVariants.{Input, Wire, Const, Two, Not, Mux, Cat, Select, Reg, Read, InstOut, Op}
use Rattle.hc_bits.specs.Catalogue.{operation}
use Rattle.hc_signal.specs.Operators.{binary}
use Rattle.hc_bits.specs.BitVector.{not_, select, cat_all, mux}
use Rattle.hc_signal.specs.Graph.{Vertex, inst, Reached, output, further}
use Rattle.hc_signal.specs.Tree.{Tree, none, tree, graph, kid, empty, IsWhole}
use Rattle.hc_signal.specs.Occurrences.{Occurrence, tree_at, graph_at, NodeIs, IsReachedPath, comb_fanin, connection, CombStep, inside, down, up}
use Rattle.hc_bench.specs.Simulation.{State, value, input_value, value_at, optional_value, vector_at, width_of, memory_words}

-- Each reached vertex of a whole tree has a row.
reached_empty : {p : Vertex} → Reached empty p → ⊥
reached_empty (output p c) = elim c [ ]
reached_empty (further p q r c) = reached_empty r

pub row_in : (s : Tree) → IsWhole s → {p : Vertex} → Reached (graph s) p → HasRow (graph s) p
row_in none w r = absurd (reached_empty r)
row_in (tree g kids) w r = reached_row g w.0 r

whole_kid : (s : Tree) → IsWhole s → (i : ℕ) → Reached (graph s) (inst i) → IsWhole (kid s i)
whole_kid none w i r = absurd w
whole_kid (tree g kids) w i r = let x : HasRow g (inst i) = reached_row g w.0 r in (w.1 i x.0 x.1).1

pub whole_at : (t : Tree) → IsWhole t → (p : List ℕ) → IsReachedPath t p → IsWhole (tree_at t p)
whole_at t w [] r = w
whole_at t w (i ∷ p) r = whole_kid (tree_at t p) (whole_at t w p r.0) i r.1

-- The number of a node depends on what it needs alone.
module _ (t : Tree) (state : State) (inputs : List ℕ) (v w : Occurrence → ℕ) (p : List ℕ) (n : ℕ) where
  abbrev Agree : Type 0
  Agree = (q : List ℕ) (m : ℕ) → CombStep t p n q m → v (record { path = q; node = m }) ≡ w (record { path = q; node = m })

  abbrev AgreeOn : List NodeId → Type 0
  AgreeOn ids = (id : NodeId) → Has ids id → value_at v p id ≡ value_at w p id

  on_operands : (x : Node) → NodeIs t p n x → Agree → AgreeOn (comb_fanin x)
  on_operands x y a id h = a p id.0 (inside x y h)

  vector_agrees : (id : NodeId) → value_at v p id ≡ value_at w p id → vector_at t v p id ≡ vector_at t w p id
  vector_agrees id e = ap (λ z. record { width = width_of (slice_get (graph_at t p).nodes id.0); value = z }) e

  vectors_agree : (ids : List NodeId) → AgreeOn ids → map (vector_at t v p) ids ≡ map (vector_at t w p) ids
  vectors_agree [] a = refl
  vectors_agree (id ∷ ids) a = ap₂ (λ x xs. x ∷ xs) (vector_agrees id (a id first)) (vectors_agree ids (λ i h. a i (later h)))

  passed_down : (i port : ℕ) (o : Option NodeId) → NodeIs t p n (InstOut (record { 0 = i }) port) → slice_get (graph_at t (i ∷ p)).outputs port ≡ o → Agree
      → optional_value v (i ∷ p) o ≡ optional_value w (i ∷ p) o
  passed_down i port None y e a = refl
  passed_down i port (Some id) y e a = a (i ∷ p) id.0 (down port y e)

passed_up : (t : Tree) (state : State) (inputs : List ℕ) (v w : Occurrence → ℕ) (i : ℕ) (p : List ℕ) (n port : ℕ) (o : Option NodeId) → NodeIs t (i ∷ p) n (Input port)
    → connection (graph_at t p) i port ≡ o → Agree t state inputs v w (i ∷ p) n → optional_value v p o ≡ optional_value w p o
passed_up t state inputs v w i p n port None y e a = refl
passed_up t state inputs v w i p n port (Some id) y e a = a p id.0 (up port y e)

input_agrees : (t : Tree) (state : State) (inputs : List ℕ) (v w : Occurrence → ℕ) (p : List ℕ) (n port : ℕ) → NodeIs t p n (Input port) → Agree t state inputs v w p n
    → input_value t inputs v p port ≡ input_value t inputs w p port
input_agrees t state inputs v w [] n port y a = refl
input_agrees t state inputs v w (i ∷ p) n port y a = passed_up t state inputs v w i p n port (connection (graph_at t p) i port) y refl a

pub value_agrees : (t : Tree) (state : State) (inputs : List ℕ) (v w : Occurrence → ℕ) (p : List ℕ) (n : ℕ) (x : Node) → NodeIs t p n x → Agree t state inputs v w p n
    → value t state inputs v p n x ≡ value t state inputs w p n x
value_agrees t st ins v w p n (Input port) y a = input_agrees t st ins v w p n port y a
value_agrees t st ins v w p n (Wire None) y a = refl
value_agrees t st ins v w p n (Wire (Some d)) y a = on_operands t st ins v w p n (Wire (Some d)) y a d first
value_agrees t st ins v w p n (Const c) y a = refl
value_agrees t st ins v w p n (Two op b c) y a =
    ap₂ (λ x z. (binary op x z).value) (vector_agrees t st ins v w p n b (on_operands t st ins v w p n (Two op b c) y a b first))
    (vector_agrees t st ins v w p n c (on_operands t st ins v w p n (Two op b c) y a c (later first)))
value_agrees t st ins v w p n (Not b) y a = ap (λ x. (not_ x).value) (vector_agrees t st ins v w p n b (on_operands t st ins v w p n (Not b) y a b first))
value_agrees t st ins v w p n (Mux sel cases) y a =
    ap₂ (λ x z. (mux x z).value) (vector_agrees t st ins v w p n sel (on_operands t st ins v w p n (Mux sel cases) y a sel first))
    (vectors_agree t st ins v w p n cases (λ i h. on_operands t st ins v w p n (Mux sel cases) y a i (later h)))
value_agrees t st ins v w p n (Cat parts) y a = ap (λ x. (cat_all x).value) (vectors_agree t st ins v w p n parts (on_operands t st ins v w p n (Cat parts) y a))
value_agrees t st ins v w p n (Select b hi lo) y a = ap (λ x. (select x hi lo).value) (vector_agrees t st ins v w p n b (on_operands t st ins v w p n (Select b hi lo) y a b first))
value_agrees t st ins v w p n (Reg next enable clear init) y a = refl
value_agrees t st ins v w p n (Read m addr) y a = ap (λ z. slice_index (memory_words st (record { path = p; node = m.0 })) z) (on_operands t st ins v w p n (Read m addr) y a addr first)
value_agrees t st ins v w p n (InstOut i port) y a = passed_down t st ins v w p n i.0 port (slice_get (graph_at t (i.0 ∷ p)).outputs port) y refl a
value_agrees t st ins v w p n (Op kind args) y a = ap (λ x. (operation kind x).value) (vectors_agree t st ins v w p n args (on_operands t st ins v w p n (Op kind args) y a))
