-- Trees that are the same depend and settle alike.
use Rattle.std.proofs.Common.{◌≡◌, ℕ, zero, suc, List, [], ◌∷◌, map, length, refl, sym, subst, ◌∙◌, ap, ap₂}
use Rattle.std.proofs.lemmas.Option.{slice_get-map}
use Rattle.std.specs.Prelude.{slice_get, slice_index, Option, Some, None, option_map}
use Rattle.hc_signal.specs.Member.{Has, first, later}
use Rattle.hc_walk.proofs.Members.{has_map}
use Rattle.hc_signal.specs.declared.signal.NodeId.{NodeId}
use Rattle.hc_signal.specs.declared.signal.NodeRow.{NodeRow}
use Rattle.hc_signal.specs.declared.signal.Node.{Node}
use Rattle.hc_signal.specs.declared.signal.Node.TheVariants.{Input, Wire, Const, Two, Not, Mux, Cat, Select, Reg, Read, InstOut, Op}
use Rattle.hc_bits.specs.BitVector.{BitVector, not_, select, cat_all, mux}
use Rattle.hc_signal.specs.Operators.{binary}
use Rattle.hc_bits.specs.Catalogue.{operation}
use Rattle.hc_signal.specs.Graph.{node, mem, inst, Reached, output, fanin}
use Rattle.hc_signal.specs.Tree.{Tree, graph, IsWhole}
use Rattle.hc_signal.specs.Renumber.{Renumbering, id_by, node_by, row_by}
use Rattle.hc_canon.specs.Same.{IsIsomorphism, Same}
use Rattle.hc_signal.specs.Occurrences.{Occurrence, tree_at, graph_at, NodeIs, IsReachedPath, comb_fanin, connection, CombStep, inside, down, up, HasCombLoop}
use Rattle.hc_bench.specs.Simulation.{State, value, input_value, value_at, optional_value, vector_at, width_of, look_up, IsSettled}
use Rattle.hc_paths.proofs.Composed.{reached_fanin}
use Rattle.hc_walk.proofs.InRange.{HasRow}
use Rattle.hc_traces.proofs.Settling.{row_in, whole_at, Deep, deep_none, deep_next, deep_start, occurrences}
use Rattle.hc_trees.specs.Twins.{Partners, top, below, Twin, SomePairs, HavePartners}

-- the width at a twin
width_by : (r : Renumbering) (o : Option NodeRow) → width_of (option_map (row_by r) o) ≡ width_of o
width_by r None = refl
width_by r (Some row) = refl

-- States that give twins the same numbers and words.
pub record StatesAgree (s t : Tree) (st su : State) : Type 0 where
  pub registers : (p : List ℕ) (n : ℕ) (q : List ℕ) (m : ℕ) (next : NodeId) (enable : Option NodeId) (clear : Option (NodeId × BitVector)) (init : BitVector)
      → NodeIs s p n (Reg next enable clear init) → Twin s t p n q m
      → look_up 0 st.registers (record { path = p; node = n }) ≡ look_up 0 su.registers (record { path = q; node = m })
  pub memories : (p q : List ℕ) (to back : Renumbering) (k : ℕ) → Partners s t p q → IsIsomorphism to back (graph_at s p) (graph_at t q) → Reached (graph_at s p) (mem k)
      → look_up [] st.memories (record { path = p; node = k }) ≡ look_up [] su.memories (record { path = q; node = to.mem k })

may_value_by : (r : Renumbering) (v w : Occurrence → ℕ) (p q : List ℕ) (o : Option NodeId) → ((id : NodeId) → o ≡ Some id → value_at v p id ≡ value_at w q (id_by r id))
    → optional_value v p o ≡ optional_value w q (option_map (id_by r) o)
may_value_by r v w p q None h = refl
may_value_by r v w p q (Some id) h = h id refl

-- Two numberings that agree at the twins of what an occurrence needs.
abbrev NeedsAgree : Tree → Tree → (Occurrence → ℕ) → (Occurrence → ℕ) → List ℕ → ℕ → Type 0
NeedsAgree s t v w p n = (r : List ℕ) (k : ℕ) (u : List ℕ) (l : ℕ) → CombStep s p n r k → Twin s t r k u l → v (record { path = r; node = k }) ≡ w (record { path = u; node = l })

input_twin : (laws : HavePartners) (s t : Tree) (ins : List ℕ) (v w : Occurrence → ℕ) (p : List ℕ) (n : ℕ) (q : List ℕ) (port : ℕ) → Partners s t p q
    → NodeIs s p n (Input port) → NeedsAgree s t v w p n
    → ((r : List ℕ) (k : ℕ) → CombStep s p n r k → Reached (graph_at s r) (node k)) → input_value s ins v p port ≡ input_value t ins w q port
input_twin laws s t ins v w [] n _ port top y a c = refl
input_twin laws s t ins v w (i ∷ p) n _ port (below {q = q} {j = j} to back u x r l) y a c =
    may_value_by to v w p q (connection (graph_at s p) i port)
    (λ id o. a p id.0 q (to.node id.0) (up port y o) (record { paths = u; to = to; back = back; pairs = x; reached = c p id.0 (up port y o); goes = refl }))
    ∙ ap (optional_value w q) (sym (ap (λ b. connection (graph_at t q) b port) (sym l) ∙ laws.connections (graph_at s p) (graph_at t q) to back x i port r))

module _ (laws : HavePartners) (s t : Tree) (e : Same s t) (st su : State) (same : StatesAgree s t st su) (ins : List ℕ) (v w : Occurrence → ℕ) (p : List ℕ) (n : ℕ) (q : List ℕ)
    (m : ℕ) (tw : Twin s t p n q m) (a : NeedsAgree s t v w p n) where
  abbrev IsHere : Node → Type 0
  IsHere x = NodeIs s p n x

  operand : (x : Node) → IsHere x → (id : NodeId) → Has (comb_fanin x) id → value_at v p id ≡ value_at w q (id_by tw.to id)
  operand x y id h =
      a p id.0 q (tw.to.node id.0) (inside x y h)
      (record { paths = tw.paths; to = tw.to; back = tw.back; pairs = tw.pairs; reached = laws.operand s t tw (inside x y h); goes = refl })

  vector : (x : Node) → IsHere x → (id : NodeId) → Has (comb_fanin x) id → vector_at s v p id ≡ vector_at t w q (id_by tw.to id)
  vector x y id h =
      ap₂ (λ b c. record { width = b; value = c })
      (sym (ap width_of (tw.pairs.nodes id.0 (laws.operand s t tw (inside x y h))) ∙ width_by tw.to (slice_get (graph_at s p).nodes id.0)))
      (operand x y id h)

  vectors : (x : Node) → IsHere x → (ids : List NodeId) → ((id : NodeId) → Has ids id → Has (comb_fanin x) id) → map (vector_at s v p) ids ≡ map (vector_at t w q) (map (id_by tw.to) ids)
  vectors x y [] h = refl
  vectors x y (id ∷ ids) h = ap₂ (λ b c. b ∷ c) (vector x y id (h id first)) (vectors x y ids (λ i k. h i (later k)))

  output_twin : (i port : ℕ) → IsHere (InstOut (record { 0 = i }) port)
      → optional_value v (i ∷ p) (slice_get (graph_at s (i ∷ p)).outputs port) ≡ optional_value w (tw.to.inst i ∷ q) (slice_get (graph_at t (tw.to.inst i ∷ q)).outputs port)
  output_twin i port y =
      let r : Reached (graph_at s p) (inst i) = reached_fanin (graph_at s p) n (InstOut (record { 0 = i }) port) (inst i) y.0 y.1 y.2 tw.reached first in
      let z : SomePairs (graph_at s (i ∷ p)) (graph_at t (tw.to.inst i ∷ q)) =
      laws.graphs (tree_at s (i ∷ p)) (tree_at t (tw.to.inst i ∷ q)) (laws.kids (tree_at s p) (tree_at t q) tw.to tw.back i (laws.trees s t e tw.paths) tw.pairs r) in
      may_value_by z.0 v w (i ∷ p) (tw.to.inst i ∷ q) (slice_get (graph_at s (i ∷ p)).outputs port)
      (λ id o. a (i ∷ p) id.0 (tw.to.inst i ∷ q) (z.0.node id.0) (down port y o)
      (record { paths = below tw.to tw.back tw.paths tw.pairs r refl; to = z.0; back = z.1; pairs = z.2; reached = laws.operand s t tw (down port y o); goes = refl }))
      ∙ ap (optional_value w (tw.to.inst i ∷ q)) (sym (ap (λ l. slice_get l port) z.2.outputs ∙ slice_get-map (id_by z.0) (graph_at s (i ∷ p)).outputs port))

  twin_value : (x : Node) → IsHere x → value s st ins v p n x ≡ value t su ins w q m (node_by tw.to x)
  twin_value (Input port) y = input_twin laws s t ins v w p n q port tw.paths y a (λ r k b. laws.operand s t tw b)
  twin_value (Wire None) y = refl
  twin_value (Wire (Some d)) y = operand (Wire (Some d)) y d first
  twin_value (Const c) y = refl
  twin_value (Two op b c) y = ap₂ (λ i j. (binary op i j).value) (vector (Two op b c) y b first) (vector (Two op b c) y c (later first))
  twin_value (Not b) y = ap (λ i. (not_ i).value) (vector (Not b) y b first)
  twin_value (Mux sel cases) y = ap₂ (λ i j. (mux i j).value) (vector (Mux sel cases) y sel first) (vectors (Mux sel cases) y cases (λ i h. later h))
  twin_value (Cat fanin) y = ap (λ i. (cat_all i).value) (vectors (Cat fanin) y fanin (λ i h. h))
  twin_value (Select b hi lo) y = ap (λ i. (select i hi lo).value) (vector (Select b hi lo) y b first)
  twin_value (Reg next enable clear init) y = same.registers p n q m next enable clear init y tw
  twin_value (Read k addr) y =
      ap₂ (λ l b. slice_index l b)
      (same.memories p q tw.to tw.back k.0 tw.paths tw.pairs (reached_fanin (graph_at s p) n (Read k addr) (mem k.0) y.0 y.1 y.2 tw.reached (later first)))
      (operand (Read k addr) y addr first)
  twin_value (InstOut i port) y = output_twin i.0 port y
  twin_value (Op kind args) y = ap (λ i. (operation kind i).value) (vectors (Op kind args) y args (λ i h. h))

-- Settled numbers agree at twins.
module _ (laws : HavePartners) (s t : Tree) (e : Same s t) (whole : IsWhole s) (free : ¬ HasCombLoop s) (st su : State) (same : StatesAgree s t st su) (ins : List ℕ)
    (v w : Occurrence → ℕ) (a : IsSettled s st ins v) (b : IsSettled t su ins w) where
  settled_deep : (f : ℕ) (p : List ℕ) (n : ℕ) (q : List ℕ) (m : ℕ) → Deep s whole free f p n → Twin s t p n q m → v (record { path = p; node = n }) ≡ w (record { path = q; node = m })
  settled_deep zero p n q m d tw = absurd (deep_none s whole free p n d)
  settled_deep (suc f) p n q m d tw =
      let x : HasRow (graph_at s p) (node n) = row_in (tree_at s p) (whole_at s whole p d.2.0) d.2.1 in
      let y : NodeIs t q m (node_by tw.to x.0.node) = laws.row s t x.0.node tw (x.0, x.1, refl) in
      a (record { path = p; node = n }) x.0 d.2 x.1
      ∙ twin_value laws s t e st su same ins v w p n q m tw (λ r k u l h z. settled_deep f r k u l (deep_next s whole free f p n r k d h) z) x.0.node (x.0, x.1, refl)
      ∙ sym (b (record { path = q; node = m }) y.0 (laws.twin_reached s t tw) y.1 ∙ ap (value t su ins w q m) y.2)

  pub settled_twins : (p : List ℕ) (n : ℕ) (q : List ℕ) (m : ℕ) → IsReachedPath s p → Twin s t p n q m → v (record { path = p; node = n }) ≡ w (record { path = q; node = m })
  settled_twins p n q m r tw = settled_deep (length (occurrences s)) p n q m (deep_start s whole free p n (r, tw.reached)) tw
