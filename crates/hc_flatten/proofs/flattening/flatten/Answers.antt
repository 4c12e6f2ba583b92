use Rattle.std.proofs.lemmas.Result.{IfOk-weaker}
use Rattle.hc_flatten.proofs.flattening.flatten.Goals as goal

pub returns-clause-flat : goal.returns-clause-flat
returns-clause-flat c = IfOk-weaker c.flat_circuit.result _ _ (λ made x. x.flat) c.flat_circuit.ensures

pub returns-clause-instances : goal.returns-clause-instances
returns-clause-instances c = IfOk-weaker c.flat_circuit.result _ _ (λ made x. x.instances) c.flat_circuit.ensures

pub returns-clause-checked : goal.returns-clause-checked
returns-clause-checked c = IfOk-weaker c.flat_circuit.result _ _ (λ made x. x.checked) c.flat_circuit.ensures

pub returns-clause-no_loop : goal.returns-clause-no_loop
returns-clause-no_loop c = IfOk-weaker c.flat_circuit.result _ _ (λ made x. x.no_loop) c.flat_circuit.ensures
