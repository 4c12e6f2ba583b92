use Rattle.std.proofs.lemmas.List.{length-map}
use Rattle.hc_signal.specs.declared.signal.Port.{Port}
use Rattle.hc_signal.specs.Tree.{graph}
use Rattle.hc_bench.specs.Simulation.{initial_inputs}
use Rattle.hc_traces.proofs.Begun.{some_rows}
use Rattle.hc_traces.proofs.StartsStates.{some_initial}
use Rattle.hc_traces.proofs.laws.benches_have_runs.Goals as goal

pub returns-clause-starts : goal.returns-clause-starts
returns-clause-starts c t whole = some_initial t whole

pub returns-clause-runs : goal.returns-clause-runs
returns-clause-runs c t whole free steps are =
    let begun : _ = some_initial t whole in
    let run : _ = some_rows t whole free (graph t).ports.inputs steps are.each begun.0 (initial_inputs t) 0 (length-map (graph t).ports.inputs (λ (p : Port). 0)) in
    (run.0, (begun.0, begun.1, run.1))
