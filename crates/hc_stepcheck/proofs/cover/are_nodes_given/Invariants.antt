use Rattle.std.proofs.Common.{ℕ, ◌<◌}
use Rattle.hc_signal.specs.Lawful.{NodeAt}
use Rattle.hc_signal.specs.declared.signal.Node.{Node}
use Rattle.hc_steps.specs.Plan.{HasStep, IsGiven, made}
use Rattle.hc_stepcheck.proofs.cover.are_nodes_given.Given as goal

abbrev pub invariant-nodes : goal.invariant-nodes
invariant-nodes l = (k : ℕ) → k < l.n → (x : Node) → NodeAt l.site.form.now.circuit k x → HasStep x → IsGiven l.site.plan.now.parts (made k)
