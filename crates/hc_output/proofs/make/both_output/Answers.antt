use Rattle.std.proofs.Common.{◌∷◌, ◌++◌, refl}
use Rattle.hc_bench.specs.Listing.{listing}
use Rattle.hc_output.specs.Output.{listing_for}
use Rattle.hc_output.proofs.Runs.{both_listing, flat_runs, ports_alike}
use Rattle.hc_output.proofs.make.both_output.Goals as goal

pub returns-clause-out : goal.returns-clause-out
returns-clause-out c = λ e for.
    let entries = c.args.db.now.entries in
    let hier = c.args.hier.now in
    let g = c.in_ok-circuit.circuit in
    let text = c.in_ok-text.text.items in
    let run = flat_runs c.benches_have_runs.ensures.runs c.benches_have_runs.ensures.starts c.flat_graphs_run_alike.ensures c.same_trees_run_alike.ensures entries hier g e
    c.args.bench.steps c.lawful.ensures c.in_ok-circuit.ensures for c.requires.steps in (
      run.0,
      text ++ 10 ∷ listing_for e run.0,
      run.2,
      (text, c.in_ok-text.ensures e for, refl),
      (listing g.ports.outputs run.0, (run.0, run.1, refl), both_listing text c.push.new.self.items g e run.0 c.in_ok-push.ensures.items (ports_alike entries hier g e c.in_ok-circuit.ensures for)),
    )
