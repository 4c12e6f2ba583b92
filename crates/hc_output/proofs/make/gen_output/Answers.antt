use Rattle.std.proofs.Common.{refl}
use Rattle.hc_bench.specs.Listing.{listing}
use Rattle.hc_output.proofs.Runs.{flat_runs, gen_listing, ports_alike}
use Rattle.hc_output.proofs.make.gen_output.Goals as goal

pub returns-clause-out : goal.returns-clause-out
returns-clause-out c = λ e for called.
    let entries = c.args.db.now.entries in
    let hier = c.args.hier.now in
    let g = c.in_ok-circuit.circuit in
    let run = flat_runs c.benches_have_runs.ensures.runs c.benches_have_runs.ensures.starts c.flat_graphs_run_alike.ensures c.same_trees_run_alike.ensures entries hier g e
    c.args.bench.steps c.lawful.ensures c.in_ok-circuit.ensures for c.requires.steps in
    let out = gen_listing c.args.flat c.args.title.now c.in_ok-text.text.items g e run.0 (c.in_ok-text.ensures e run.0 for called run.2) (ports_alike entries hier g e c.in_ok-circuit.ensures for) in
    (run.0, out.0, run.2, out.1, (listing g.ports.outputs run.0, (run.0, run.1, refl), out.2))
