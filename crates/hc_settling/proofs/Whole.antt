-- Where all parts of the top are known, all numbers are right, so they are settled and each instance is still.
use Rattle.std.proofs.Common.{◌≡◌, ℕ, Bool, false, List, [], ◌∷◌, refl, sym, subst, ◌∙◌, ap}
use Rattle.std.specs.Prelude.{Option, Some}
use Rattle.hc_signal.specs.Member.{Has}
use Rattle.hc_signal.specs.declared.signal.NodeId.{NodeId}
use Rattle.hc_signal.specs.declared.signal.NodeRow.{NodeRow}
use Rattle.hc_signal.specs.declared.signal.Node.{Node}
use Rattle.hc_signal.specs.declared.signal.Node.TheVariants.{Input, Wire, Const, Two, Not, Mux, Cat, Select, Reg, Read, InstOut, Op}
use Rattle.hc_signal.specs.Graph.{node, Reached}
use Rattle.hc_signal.specs.Lawful.{NodeAt}
use Rattle.hc_signal.specs.Tree.{Tree, none, tree, kid, IsWhole}
use Rattle.hc_signal.specs.Occurrences.{Occurrence, tree_at, graph_at, row_at, IsReachedPath, IsReachedOccurrence}
use Rattle.hc_bench.specs.Simulation.{State, value, optional_value, IsSettled}
use Rattle.hc_paths.proofs.Composed.{step_reached}
use Rattle.hc_settling.proofs.Agrees.{value_agrees, whole_at}
use Rattle.hc_steps.specs.Plan.{Step, make, take, pass, run, Part, steps_at, Fact, made, passed, ran, facts, HasStep}
use Rattle.hc_settling.specs.Known.{at_path, ArePlans, IsKnown, IsBalanced, IsStill, still, AreMarked, KeepsConstants, KeepsInputs}
use Rattle.hc_settling.proofs.Meant.{IsMeant, meant_at}
use Rattle.hc_settling.proofs.Quiet.{known_made, known_passed, known_run, constant_right}

module _ (t : Tree) (plans : List ℕ → List Part) (are : ArePlans t plans) (state : State) (inputs : List ℕ) (vals v : Occurrence → ℕ) (settled : IsSettled t state inputs v)
    (constants : KeepsConstants t vals) (tops : KeepsInputs t inputs vals) where
  abbrev Known : List ℕ → Fact → Type 0
  Known p f = IsKnown t plans vals v p f

  abbrev pub TopKnown : Type 0
  TopKnown = (part : ℕ) (f : Fact) → Has (facts (steps_at (plans []) part)) f → Known [] f

  -- all parts of all instances
  pub known_at : TopKnown → (p : List ℕ) → IsReachedPath t p → (part : ℕ) (f : Fact) → Has (facts (steps_at (plans p) part)) f → Known p f
  known_at top [] r part f h = top part f h
  known_at top (i ∷ p) r part f h =
      let g = (are p r.0).instances i part f r.1 h in known_run (known_at top p r.0 g.0 (ran i part) g.1) f h

  node_right : TopKnown → (p : List ℕ) → IsReachedPath t p → (n : ℕ) → Reached (graph_at t p) (node n) → (x : Node) → NodeAt (graph_at t p) n x → HasStep x → vals (at_path p n) ≡ v (at_path p n)
  node_right top p r n c x y s = let g = (are p r).nodes n x c y s in known_made (known_at top p r g.0 (made n) g.1) (r, c)

  input_right : TopKnown → (p : List ℕ) → IsReachedPath t p → (n port : ℕ) → Reached (graph_at t p) (node n) → NodeAt (graph_at t p) n (Input port) → vals (at_path p n) ≡ v (at_path p n)
  input_right top [] r n port c y = tops n port y (r, c) ∙ sym (ap (λ (z : Node). value t state inputs v [] n z) y.2) ∙ sym (settled (at_path [] n) y.0 (r, c) y.1)
  input_right top (i ∷ p) r n port c y =
      let g = (are p r.0).inputs i port n r.1 y in known_passed (known_at top p r.0 g.0 (passed i port) g.1) n y (r, c)

  kind_right : TopKnown → (p : List ℕ) → IsReachedPath t p → (n : ℕ) → Reached (graph_at t p) (node n) → (x : Node) → NodeAt (graph_at t p) n x → vals (at_path p n) ≡ v (at_path p n)
  kind_right top p r n c (Input port) y = input_right top p r n port c y
  kind_right top p r n c (Const k) y = constant_right t plans state inputs vals v settled constants p n k y (r, c)
  kind_right top p r n c (Wire d) y = node_right top p r n c (Wire d) y tt
  kind_right top p r n c (Two op a b) y = node_right top p r n c (Two op a b) y tt
  kind_right top p r n c (Not a) y = node_right top p r n c (Not a) y tt
  kind_right top p r n c (Mux sel cases) y = node_right top p r n c (Mux sel cases) y tt
  kind_right top p r n c (Cat parts) y = node_right top p r n c (Cat parts) y tt
  kind_right top p r n c (Select a hi lo) y = node_right top p r n c (Select a hi lo) y tt
  kind_right top p r n c (Reg next enable clear init) y = node_right top p r n c (Reg next enable clear init) y tt
  kind_right top p r n c (Read m addr) y = node_right top p r n c (Read m addr) y tt
  kind_right top p r n c (InstOut i port) y = node_right top p r n c (InstOut i port) y tt
  kind_right top p r n c (Op kind args) y = node_right top p r n c (Op kind args) y tt

  -- all numbers are right
  pub all_right : TopKnown → (s : Occurrence) (row : NodeRow) → IsReachedOccurrence t s → row_at t s ≡ Some row → vals s ≡ v s
  all_right top s row r e = kind_right top s.path r.0 s.node r.1 row.node (row, e, refl)

  -- so they are settled
  pub all_settled : ((s : Occurrence) → IsReachedOccurrence t s → (row : NodeRow) × (row_at t s ≡ Some row)) → TopKnown → IsSettled t state inputs vals
  all_settled rows top s row r e =
      all_right top s row r e
      ∙ settled s row r e
      ∙ sym (value_agrees t state inputs vals v s.path s.node row.node (row, e, refl) (λ q m step. let c : IsReachedOccurrence t (at_path q m) = step_reached t step r
      in let z = rows (at_path q m) c in all_right top (at_path q m) z.0 c z.1))

module _ (t : Tree) (plans : List ℕ → List Part) (are : ArePlans t plans) where
  -- Where the numbers are settled, no step would change anything.
  module _ (state : State) (inputs : List ℕ) (vals : Occurrence → ℕ) where
    balanced : IsSettled t state inputs vals → (p : List ℕ) → IsReachedPath t p → (s : Step) → IsMeant (graph_at t p) (λ i. graph_at t (i ∷ p)) s → IsBalanced t state inputs vals p s
    balanced settled p r (make n) c = λ row e. settled (at_path p n) row (r, c.0) e
    balanced settled p r (take n i port) c = λ row e. settled (at_path p n) row (r, c.0) e
    balanced settled p r (pass n i port) c = λ m y q.
        settled (at_path (i ∷ p) m) y.0 q y.1
        ∙ ap (λ (z : Node). value t state inputs vals (i ∷ p) m z) y.2
        ∙ ap (λ (k : Option NodeId). optional_value vals p k) c.1
    balanced settled p r (run i part) c = tt

    pub settled_balanced : IsSettled t state inputs vals → (p : List ℕ) → IsReachedPath t p → (part : ℕ) (s : Step) → Has (steps_at (plans p) part) s → IsBalanced t state inputs vals p s
    settled_balanced settled p r part s h = balanced settled p r s (meant_at t plans are p r part s h)

    -- A part that is not marked is still.
    still_in : IsWhole t → (stale : List ℕ → ℕ → Bool) → AreMarked t plans state inputs vals stale → (s : Tree) (p : List ℕ) (part : ℕ) → tree_at t p ≡ s
        → IsReachedPath t p → stale p part ≡ false → IsStill t plans state inputs vals p part
    still_in whole stale marked none p part e r u = absurd (subst IsWhole e (whole_at t whole p r))
    still_in whole stale marked (tree g kids) p part e r u =
        let m = marked p part r u in
        still m.0 (λ i b h. still_in whole stale marked (kids i) (i ∷ p) b (ap (λ (z : Tree). kid z i) e) (r, meant_at t plans are p r part (run i b) h) (m.1 i b h))

    pub unmarked_still : IsWhole t → (stale : List ℕ → ℕ → Bool) → AreMarked t plans state inputs vals stale → (p : List ℕ) (part : ℕ) → IsReachedPath t p
        → stale p part ≡ false → IsStill t plans state inputs vals p part
    unmarked_still whole stale marked p part r u = still_in whole stale marked (tree_at t p) p part refl r u
