-- Copies of a node side by side.
use Rattle.std.proofs.Common.{◌≡◌, ℕ, ◌≤◌, ◌*◌, ◌&&◌, Bool, true, nat_le, List, replicate, sym, subst, arith}
use Rattle.std.specs.Prelude.{Result}
use Rattle.hc_fault.specs.declared.fault.FaultKind.TheVariants.{Width}
use Rattle.hc_signal.specs.declared.stop.BuildStop.{BuildStop}
use Rattle.hc_signal.specs.declared.signal.NodeId.{NodeId}
use Rattle.hc_signal.specs.Graph.{Graph}
use Rattle.hc_signal.specs.Builds.{width_at}
use Rattle.hc_unfold.specs.Gives.{Gives}
use Rattle.hc_unfold.specs.Drawing.{go_on, rule, cat}
use Rattle.hc_unfold.specs.Derived.{copies}

pub fit_few : (n w : ℕ) → (nat_le 1 n && nat_le (n * w) 128) ≡ true → 1 ≤ w → n ≤ 128
fit_few n w fit some = grind arith

pub copies_drawn : (result : Result NodeId BuildStop) (g new : Graph) (x : NodeId) (n : ℕ) (ids : List NodeId) → (nat_le 1 n && nat_le (n * width_at g x) 128) ≡ true
    → ids ≡ replicate n x → Gives {Y = Graph × NodeId} (λ id. (new, id)) result (cat ids g) → Gives {Y = Graph × NodeId} (λ id. (new, id)) result (copies x n g)
copies_drawn result g new x n ids fit e drawn =
    subst (λ (b : Bool). Gives {Y = Graph × NodeId} (λ id. (new, id)) result (go_on (rule Width b g) (λ _. cat (replicate n x)))) (sym fit)
    (subst (λ (l : List NodeId). Gives {Y = Graph × NodeId} (λ id. (new, id)) result (cat l g)) e drawn)
