use Rattle.hc_signal.specs.Tree.{graph}
use Rattle.hc_traces.proofs.Begun.{some_rows}
use Rattle.hc_traces.proofs.laws.benches_run.Goals as goal

pub returns : goal.returns
returns c sim is count steps are = some_rows sim.tree is.whole is.no_loop (graph sim.tree).ports.inputs steps are.each sim.state sim.inputs count is.inputs
