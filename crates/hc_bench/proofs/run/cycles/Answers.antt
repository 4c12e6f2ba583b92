use Rattle.std.proofs.Common.{◌+◌, suc, ◌≤◌, ◌≡◌, arith, add-one}
use Rattle.hc_bench.proofs.Plays.{plays_no_cycle, plays_cycle, cycle_cut, on_err}
use Rattle.hc_bench.proofs.run.cycles.Goals as goal

pub ticks-init : goal.ticks-init
ticks-init g c = record {
  plays = plays_no_cycle c.args.outputs.now (g.S.Sim.runs c.args.sim.now) c.args.count (g.K.Sink.taken c.args.to.now) c.args.waiting.now;
  never_falls = omega arith;
}

pub returns-in_err-tick-clause-front : goal.returns-in_err-tick-clause-front
returns-in_err-tick-clause-front g c =
    let within : suc c.ticks.done ≤ c.args.times = omega (arith, c.ticks-test.true) in
    on_err c.from_residual.result
    (cycle_cut c.args.outputs.now (g.S.Sim.runs c.args.sim.now) (g.S.Sim.runs c.ticks.sim) (g.S.Sim.runs c.tick.new.sim) c.args.count (c.args.count + c.ticks.done) c.ticks.done
    (g.K.Sink.taken c.args.to.now) (g.K.Sink.taken c.ticks.to) (g.K.Sink.taken c.tick.new.to) c.args.waiting.now c.ticks.waiting c.tick.new.waiting c.ticks.invariant.plays
    c.in_err-tick.ensures.cycle c.args.times within c.in_err-tick.ensures.sent.front)

pub ticks-preserved : goal.ticks-preserved
ticks-preserved g c =
    let one : c.ticks.done + 1 ≡ suc c.ticks.done = add-one c.ticks.done in
    let next : c.args.count + (c.ticks.done + 1) ≡ suc (c.args.count + c.ticks.done) = omega arith in
    record {
      plays = plays_cycle c.args.outputs.now (g.S.Sim.runs c.args.sim.now) (g.S.Sim.runs c.ticks.sim) (g.S.Sim.runs c.tick.new.sim) c.args.count (c.args.count + c.ticks.done) c.ticks.done
          (g.K.Sink.taken c.args.to.now) (g.K.Sink.taken c.ticks.to) (g.K.Sink.taken c.tick.new.to) c.args.waiting.now c.ticks.waiting c.tick.new.waiting c.ticks.invariant.plays
          c.in_ok-tick.ensures.cycle (c.ticks.done + 1) (c.args.count + (c.ticks.done + 1)) one next c.in_ok-tick.ensures.sent.all;
      never_falls = omega (arith, c.ticks.invariant.never_falls, c.in_ok-tick.ensures.sent.cause.never_falls);
    }
