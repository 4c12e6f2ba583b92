use Rattle.std.proofs.Common.{ap, ◌∙◌}
use Rattle.hc_hierstate.proofs.Pushed.{other_left, register_kept}
use Rattle.hc_hierstate.proofs.registers.registers_of.Goals as goal
use Rattle.hc_hierstate.proofs.registers.registers_of.Goals.{then-is_register+in_ok-push, else-is_register}

pub nodes-preserved : goal.nodes-preserved
nodes-preserved c =
    elim c.if-is_register.branch [
      | then-is_register+in_ok-push w ↦ register_kept c.args.circuit.now c.nodes.n c.nodes.ids.items c.if-is_register.ids.items c.nodes.invariant c.is_register.result c.is_register.ensures
          w.if-is_register.true (ap (λ v. v.items) w.ids-is ∙ w.in_ok-push.ensures.items)
      | else-is_register w ↦ other_left c.args.circuit.now c.nodes.n c.nodes.ids.items c.if-is_register.ids.items c.nodes.invariant c.is_register.result c.is_register.ensures
          w.if-is_register.false (ap (λ v. v.items) w.ids-is)
    ]
