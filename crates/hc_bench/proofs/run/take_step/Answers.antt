use Rattle.std.proofs.Common.{◌+◌, [], ◌∷◌, sym, subst}
use Rattle.hc_signal.specs.Tree.{graph}
use Rattle.hc_bench.specs.declared.kinds.Step.{Step}
use Rattle.hc_bench.specs.Playing.{Plays}
use Rattle.hc_bench.specs.Steps.{cycles_of}
use Rattle.hc_bench.proofs.Plays.{plays_set, plays_reset, input_within}
use Rattle.hc_bench.proofs.run.take_step.Goals as goal

pub returns-in-Set-clause-all : goal.returns-in-Set-clause-all
returns-in-Set-clause-all g c =
    let from = g.S.Sim.runs c.args.sim.now in
    let to = g.S.Sim.runs c.set.new.self in
    let taken = g.K.Sink.taken c.args.to.now in
    subst (λ (s : Step). Plays c.args.outputs.now from c.args.count (s ∷ []) to (c.args.count + cycles_of s) taken taken c.args.waiting.now c.args.waiting.now) (sym c.in-Set.is)
    (plays_set c.args.outputs.now from to c.args.count c.in-Set.port c.in-Set.value taken c.args.waiting.now
    (input_within (graph from.tree).ports.inputs from.inputs c.args.step c.in-Set.port c.in-Set.value c.in-Set.is c.requires.fits c.lawful.ensures.inputs) c.set.ensures)

pub returns-in-Reset-clause-all : goal.returns-in-Reset-clause-all
returns-in-Reset-clause-all g c =
    let from = g.S.Sim.runs c.args.sim.now in
    let to = g.S.Sim.runs c.reset.new.self in
    let taken = g.K.Sink.taken c.args.to.now in
    subst (λ (s : Step). Plays c.args.outputs.now from c.args.count (s ∷ []) to (c.args.count + cycles_of s) taken taken c.args.waiting.now c.args.waiting.now) (sym c.in-Reset.is)
    (plays_reset c.args.outputs.now from to c.args.count taken c.args.waiting.now c.reset.ensures)
