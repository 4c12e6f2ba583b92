-- One step over right numbers gives a right number.
use Rattle.std.proofs.Common.{◌≡◌, ℕ, List, ◌∷◌, refl, sym, subst, ◌∙◌, ap}
use Rattle.std.specs.Prelude.{slice_get, Option, Some}
use Rattle.std.proofs.lemmas.Option.{same_Some}
use Rattle.hc_signal.specs.Member.{Has}
use Rattle.hc_signal.specs.declared.signal.NodeId.{NodeId}
use Rattle.hc_signal.specs.declared.signal.NodeRow.{NodeRow}
use Rattle.hc_signal.specs.declared.signal.Node.{Node}
use Rattle.hc_signal.specs.declared.signal.Node.TheVariants.{Input, InstOut}
use Rattle.hc_signal.specs.Graph.{Graph}
use Rattle.hc_signal.specs.Lawful.{NodeAt}
use Rattle.hc_signal.specs.Tree.{Tree}
use Rattle.hc_signal.specs.Occurrences.{Occurrence, graph_at, NodeIs, IsReachedOccurrence, comb_fanin, connection, CombStep, inside, down, up}
use Rattle.hc_bench.specs.Simulation.{State, value, optional_value, IsSettled}
use Rattle.hc_settling.proofs.Agrees.{value_agrees}
use Rattle.hc_steps.specs.Plan.{IsPlain, id_of}
use Rattle.hc_settling.specs.Known.{at_path}

-- a node is one
pub same_node : (g : Graph) (n : ℕ) (x y : Node) → NodeAt g n x → NodeAt g n y → x ≡ y
same_node g n x y a b = sym a.2 ∙ ap (λ (r : NodeRow). r.node) (same_Some _ _ (sym a.1 ∙ b.1)) ∙ b.2

-- right operands agree wherever a step of the same cycle goes
agrees_from : (t : Tree) (vals v : Occurrence → ℕ) (p : List ℕ) (n : ℕ) (x : Node) → NodeIs t p n x → IsPlain x
    → ((m : NodeId) → Has (comb_fanin x) m → vals (at_path p m.0) ≡ v (at_path p m.0))
    → (q : List ℕ) (m : ℕ) → CombStep t p n q m → vals (at_path q m) ≡ v (at_path q m)
agrees_from t vals v p n x y plain a q m (inside z w h) = a (id_of m) (subst (λ (c : Node). Has (comb_fanin c) (id_of m)) (same_node (graph_at t p) n z x w y) h)
agrees_from t vals v p n x y plain a _ m (down port w o) = absurd (subst IsPlain (same_node (graph_at t p) n x (InstOut _ port) y w) plain)
agrees_from t vals v _ n x y plain a q m (up {path = q'} {i = i} port w o) = absurd (subst IsPlain (same_node (graph_at t (i ∷ q')) n x (Input port) y w) plain)

module _ (t : Tree) (state : State) (inputs : List ℕ) (vals v : Occurrence → ℕ) (settled : IsSettled t state inputs v) where
  -- a node of the circuit itself
  pub make_right : (p : List ℕ) (n : ℕ) (x : Node) (row : NodeRow) → IsReachedOccurrence t (at_path p n) → NodeIs t p n x → IsPlain x → slice_get (graph_at t p).nodes n ≡ Some row
      → ((m : NodeId) → Has (comb_fanin x) m → vals (at_path p m.0) ≡ v (at_path p m.0)) → value t state inputs vals p n row.node ≡ v (at_path p n)
  make_right p n x row r y plain e a =
      value_agrees t state inputs vals v p n row.node (row, e, refl) (agrees_from t vals v p n x y plain a) ∙ sym (settled (at_path p n) row r e)

  -- an output of an instance
  pub take_right : (p : List ℕ) (n i port : ℕ) (row : NodeRow) (w : NodeId) → IsReachedOccurrence t (at_path p n) → NodeIs t p n (InstOut (record { 0 = i }) port)
      → slice_get (graph_at t p).nodes n ≡ Some row
      → slice_get (graph_at t (i ∷ p)).outputs port ≡ Some w → vals (at_path (i ∷ p) w.0) ≡ v (at_path (i ∷ p) w.0) → value t state inputs vals p n row.node ≡ v (at_path p n)
  take_right p n i port row w r y e o a =
      let is : row.node ≡ InstOut (record { 0 = i }) port = same_node (graph_at t p) n row.node (InstOut (record { 0 = i }) port) (row, e, refl) y in
      ap (λ (z : Node). value t state inputs vals p n z) is
      ∙ ap (λ (k : Option NodeId). optional_value vals (i ∷ p) k) o
      ∙ a
      ∙ sym (ap (λ (k : Option NodeId). optional_value v (i ∷ p) k) o)
      ∙ sym (ap (λ (z : Node). value t state inputs v p n z) is)
      ∙ sym (settled (at_path p n) row r e)

  -- an input of an instance
  pub pass_right : (p : List ℕ) (n i port m : ℕ) → NodeIs t (i ∷ p) m (Input port) → IsReachedOccurrence t (at_path (i ∷ p) m) → connection (graph_at t p) i port ≡ Some (id_of n)
      → v (at_path p n) ≡ v (at_path (i ∷ p) m)
  pass_right p n i port m y r c =
      sym (ap (λ (k : Option NodeId). optional_value v p k) c)
      ∙ sym (ap (λ (z : Node). value t state inputs v (i ∷ p) m z) y.2)
      ∙ sym (settled (at_path (i ∷ p) m) y.0 r y.1)
