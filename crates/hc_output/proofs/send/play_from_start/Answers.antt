use Rattle.hc_output.proofs.Sends.{front_of_run, on_err}
use Rattle.hc_output.proofs.send.play_from_start.Goals as goal

pub returns-clause-front : goal.returns-clause-front
returns-clause-front g c = λ out listed.
    on_err c.play.result _ _
    (front_of_run c.same_trees_run_alike.ensures c.parts_of_listings_are_fronts.ensures (g.S.Sim.runs c.args.sim.now) c.args.played.now.circuit c.ports.result.now
    c.args.played.now.bench.steps listed.0 out _ _ c.requires.tree c.ports.ensures c.lawful.ensures c.requires.start listed.1 listed.2)
    c.play.ensures.front
