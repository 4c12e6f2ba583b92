use Rattle.std.proofs.Common.{arith}
use Rattle.hc_bench.proofs.Plays.{play_more, few_more, play_cut, play_end, play_end_cut, on_err}
use Rattle.hc_bench.proofs.run.play.Goals as goal

pub returns-in_err-take_step-clause-front : goal.returns-in_err-take_step-clause-front
returns-in_err-take_step-clause-front g c =
    on_err c.from_residual.result
    (play_cut c.as_slice-outputs.result.now c.args.ports.now.outputs (g.S.Sim.runs c.args.sim.now)
    (g.S.Sim.runs c.steps.sim) c.steps.count c.args.bench.now.steps c.as_slice-step-items.result.now c.steps.step-index c.step-item.result
    (g.K.Sink.taken c.args.to.now) (g.K.Sink.taken c.steps.to) (g.K.Sink.taken c.take_step.new.to) c.new-waiting.result c.steps.waiting c.as_slice-outputs.ensures
    c.as_slice-step-items.ensures c.steps-test.true c.step-item.is c.new-waiting.ensures c.steps.invariant.plays c.in_err-take_step.ensures.front)

pub steps-preserved : goal.steps-preserved
steps-preserved g c = record {
  plays = play_more c.as_slice-outputs.result.now (g.S.Sim.runs c.args.sim.now) (g.S.Sim.runs c.steps.sim) (g.S.Sim.runs c.take_step.new.sim) c.steps.count c.cycles_of-count.result
      c.as_slice-step-items.result.now c.steps.step-index c.step-item.result
      (g.K.Sink.taken c.args.to.now) (g.K.Sink.taken c.steps.to) (g.K.Sink.taken c.take_step.new.to) c.new-waiting.result c.steps.waiting c.take_step.new.waiting c.steps-test.true
      c.step-item.is c.cycles_of-count.ensures c.steps.invariant.plays c.in_ok-take_step.ensures.all;
  few = few_more c.as_slice-step-items.result.now c.steps.step-index c.step-item.result c.steps.count c.cycles_of-count.result 1000000 c.steps-test.true c.step-item.is
      c.cycles_of-count.ensures c.steps.invariant.few;
  never_falls = omega (arith, c.steps.invariant.never_falls, c.in_ok-take_step.ensures.cause.never_falls);
}

pub returns-clause-all : goal.returns-clause-all
returns-clause-all g c =
    play_end c.as_slice-outputs.result.now c.args.ports.now.outputs (g.S.Sim.runs c.args.sim.now)
    (g.S.Sim.runs c.steps.sim) c.steps.count c.args.bench.now.steps c.as_slice-step-items.result.now c.steps.step-index
    (g.K.Sink.taken c.args.to.now) (g.K.Sink.taken c.steps.to) (g.K.Sink.taken c.flush.new.to) c.new-waiting.result c.steps.waiting c.as_slice-outputs.ensures
    c.as_slice-step-items.ensures c.steps-test.false c.new-waiting.ensures c.steps.invariant.plays c.flush.result c.flush.ensures.sent.all

pub returns-clause-front : goal.returns-clause-front
returns-clause-front g c =
    play_end_cut c.as_slice-outputs.result.now c.args.ports.now.outputs (g.S.Sim.runs c.args.sim.now)
    (g.S.Sim.runs c.steps.sim) c.steps.count c.args.bench.now.steps c.as_slice-step-items.result.now c.steps.step-index
    (g.K.Sink.taken c.args.to.now) (g.K.Sink.taken c.steps.to) (g.K.Sink.taken c.flush.new.to) c.new-waiting.result c.steps.waiting c.as_slice-outputs.ensures
    c.as_slice-step-items.ensures c.steps-test.false c.new-waiting.ensures c.steps.invariant.plays c.flush.result c.flush.ensures.sent.front
