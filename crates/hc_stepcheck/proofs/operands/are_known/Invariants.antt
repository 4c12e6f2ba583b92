use Rattle.std.proofs.Common.{◌≡◌, ℕ, ◌<◌}
use Rattle.std.specs.Prelude.{slice_get, Some}
use Rattle.hc_signal.specs.declared.signal.NodeId.{NodeId}
use Rattle.hc_steps.specs.Plan.{made}
use Rattle.hc_steps.specs.Views.{IsKnownAt}
use Rattle.hc_stepcheck.proofs.operands.are_known.Given as goal

abbrev pub invariant-ids : goal.invariant-ids
invariant-ids l = (k : ℕ) (m : NodeId) → k < l.id-index → slice_get l.ids k ≡ Some m → IsKnownAt l.circuit l.parts l.at.part l.at.step (made m.0)
