-- A step that is taken makes its fact known.
use Rattle.std.proofs.Common.{ℕ, List, ◌∷◌, ◌∙◌}
use Rattle.hc_signal.specs.Tree.{Tree}
use Rattle.hc_signal.specs.Occurrences.{Occurrence, graph_at, IsReachedPath}
use Rattle.hc_bench.specs.Simulation.{State, IsSettled}
use Rattle.hc_steps.specs.Plan.{Step, make, take, pass, run, Part, Fact, made, passed, ran, fact, IsReady}
use Rattle.hc_settling.specs.Known.{IsKnown, is_made, is_passed, is_run, KeepsConstants, IsTaken}
use Rattle.hc_settling.proofs.Quiet.{begins, made_right, taken_right, passed_right}

module _ (t : Tree) (plans : List ℕ → List Part) (state : State) (inputs : List ℕ) (vals new v : Occurrence → ℕ) (settled : IsSettled t state inputs v) (constants : KeepsConstants t vals) where
  pub step_taken : (p : List ℕ) → IsReachedPath t p → (known : Fact → Type 0) → ((f : Fact) → known f → IsKnown t plans vals v p f) → (s : Step)
      → IsReady (graph_at t p) (λ i. graph_at t (i ∷ p)) (λ i. plans (i ∷ p)) known s → IsTaken t plans state inputs vals new v p s → IsKnown t plans new v p (fact s)
  step_taken p r known k (make n) ready b =
      let y = ready.1.1 in
      is_made (λ q. b y.0 y.1 ∙ made_right t plans state inputs vals v settled constants p r n ready.0 ready.1.0 y ready.1.2 (λ m h. k (made m.0) (ready.1.3 m h)) y.0 y.1)
  step_taken p r known k (take n i port) ready b =
      let y = ready.1 in let o = ready.2 in
      is_made (λ q. b y.0 y.1 ∙ taken_right t plans state inputs vals v settled constants p r n i port o.1 ready.0 y o.0 o.2 o.3 (k (ran i o.1) o.4) y.0 y.1)
  step_taken p r known k (pass n i port) ready b =
      is_passed (λ m y q. b m y q ∙ passed_right t plans state inputs vals v settled constants p r n i port ready.0 ready.1 (k (made n) ready.2) m y q)
  step_taken p r known k (run i part) ready b =
      is_run (b (begins t plans state inputs vals v settled constants p i part (λ j need. k (passed i j) (ready.1 j need)) (λ c is. k (ran i c) (ready.2 c is))))
