use Rattle.hc_bench.proofs.BenchSteps.{steps_end}
use Rattle.hc_bench.proofs.make.bench.Goals as goal

pub returns-clause-steps : goal.returns-clause-steps
returns-clause-steps c = steps_end c.args.ports.now.inputs c.lines.count c.as_slice-line-items.result.now c.lines.line-index c.lines.steps c.requires.lawful.inputs
    c.lines-test.false c.lines.invariant.so_far
