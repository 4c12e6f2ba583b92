-- A change of the state or of the inputs keeps the marks where the parts that read what changed are stale.
use Rattle.std.proofs.Common.{◌≡◌, ℕ, Bool, false, List, ◌∷◌, refl, sym, subst, ◌∙◌, ap}
use Rattle.std.specs.Prelude.{slice_index}
use Rattle.hc_signal.specs.Member.{Has}
use Rattle.hc_signal.specs.declared.signal.Node.{Node}
use Rattle.hc_signal.specs.declared.signal.Node.TheVariants.{Input, Wire, Const, Two, Not, Mux, Cat, Select, Reg, Read, InstOut, Op}
use Rattle.hc_signal.specs.Tree.{Tree}
use Rattle.hc_signal.specs.Occurrences.{Occurrence, graph_at, NodeIs, IsReachedPath}
use Rattle.hc_bench.specs.Simulation.{State, value, value_at}
use Rattle.hc_steps.specs.Plan.{Step, make, take, pass, run, Part, steps_at, IsPlain}
use Rattle.hc_settling.specs.Known.{ArePlans, IsBalanced, AreMarked}
use Rattle.hc_settling.specs.Tables.{IsSameState}
use Rattle.hc_settling.proofs.Steps.{same_node}
use Rattle.hc_settling.proofs.Meant.{IsMeant, meant_at}

module _ (t : Tree) (old new : State) (inputs others : List ℕ) (vals : Occurrence → ℕ) where
  value_stays : (p : List ℕ) (n : ℕ) (x : Node) → IsPlain x → IsSameState old new p n x → value t old inputs vals p n x ≡ value t new others vals p n x
  value_stays p n (Input port) plain s = absurd plain
  value_stays p n (Wire d) plain s = refl
  value_stays p n (Const c) plain s = refl
  value_stays p n (Two op a b) plain s = refl
  value_stays p n (Not a) plain s = refl
  value_stays p n (Mux sel cases) plain s = refl
  value_stays p n (Cat parts) plain s = refl
  value_stays p n (Select a hi lo) plain s = refl
  value_stays p n (Reg next enable clear init) plain s = s
  value_stays p n (Read m addr) plain s = ap (λ (words : List ℕ). slice_index words (value_at vals p addr)) s
  value_stays p n (InstOut i port) plain s = absurd plain
  value_stays p n (Op kind args) plain s = refl

  module _ (plans : List ℕ → List Part) (are : ArePlans t plans) (stale : List ℕ → ℕ → Bool)
      (same : (q : List ℕ) (j m : ℕ) (x : Node) → IsReachedPath t q → stale q j ≡ false → Has (steps_at (plans q) j) (make m) → NodeIs t q m x → IsSameState old new q m x) where
    step_stays : (q : List ℕ) (j : ℕ) → IsReachedPath t q → stale q j ≡ false → (s : Step) → Has (steps_at (plans q) j) s
        → IsMeant (graph_at t q) (λ i. graph_at t (i ∷ q)) s → IsBalanced t old inputs vals q s → IsBalanced t new others vals q s
    step_stays q j r u (make m) h c b = λ row e.
        let is : c.1.0 ≡ row.node = same_node (graph_at t q) m c.1.0 row.node c.1.1 (row, e, refl) in
        b row e
        ∙ value_stays q m row.node (subst IsPlain is c.1.2) (same q j m row.node r u h (row, e, refl))
    step_stays q j r u (take m i port) h c b = λ row e.
        let is : row.node ≡ InstOut (record { 0 = i }) port = same_node (graph_at t q) m row.node (InstOut (record { 0 = i }) port) (row, e, refl) c.1 in
        b row e
        ∙ ap (λ (z : Node). value t old inputs vals q m z) is
        ∙ sym (ap (λ (z : Node). value t new others vals q m z) is)
    step_stays q j r u (pass m i port) h c b = b
    step_stays q j r u (run i part) h c b = tt

    pub changes_stay : AreMarked t plans old inputs vals stale → AreMarked t plans new others vals stale
    changes_stay marked q j r u = ((λ s h. step_stays q j r u s h (meant_at t plans are q r j s h) ((marked q j r u).0 s h)), (marked q j r u).1)
