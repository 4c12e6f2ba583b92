use Rattle.std.proofs.Common.{◌≤◌, ℕ, List, length, subst, ◌∙◌, ap}
use Rattle.hc_signal.specs.Graph.{Graph}
use Rattle.hc_signal.specs.Lawful.{NodeAt}
use Rattle.hc_signal.specs.declared.signal.Node.{Node}
use Rattle.hc_signal.specs.declared.signal.NodeRow.{NodeRow}
use Rattle.hc_steps.specs.Plan.{HasStep, IsGiven, made}
use Rattle.hc_steps.proofs.Lists.{next}
use Rattle.hc_stepcheck.proofs.Covering.{nodes_given}
use Rattle.hc_stepcheck.proofs.cover.are_nodes_given.Goals as goal

pub nodes-preserved : goal.nodes-preserved
nodes-preserved c =
    next (λ (k : ℕ). (x : Node) → NodeAt c.args.site.now.form.now.circuit k x → HasStep x → IsGiven c.args.site.now.plan.now.parts (made k)) c.nodes.n c.nodes.invariant
    (c.is_node_given.ensures c.if-is_node_given.true)

pub returns : goal.returns
returns c = λ t. nodes_given c.args.site.now.form.now.circuit c.args.site.now.plan.now.parts c.nodes.n
    (subst (λ (z : List NodeRow). length z ≤ c.nodes.n) (c.nodes-len.ensures ∙ ap (λ (g : Graph). g.nodes) c.circuit.ensures) c.nodes-test.false) c.nodes.invariant
