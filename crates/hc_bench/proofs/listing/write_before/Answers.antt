use Rattle.std.proofs.Common.{◌+◌, drop, arith}
use Rattle.hc_signal.specs.Tree.{graph}
use Rattle.hc_bench.specs.Listing.{value_text, values_text}
use Rattle.hc_bench.proofs.Pieces.{loop_none, loop_cut, loop_more}
use Rattle.hc_bench.proofs.Rows.{outputs_more}
use Rattle.hc_bench.proofs.listing.write_before.Goals as goal

pub outputs-init : goal.outputs-init
outputs-init g c = record { so_far = loop_none _ _ _; never_falls = omega arith }

pub returns-in_err-write_value : goal.returns-in_err-write_value
returns-in_err-write_value g c =
    let sim = g.S.Sim.runs c.args.sim.now in
    loop_cut _ _ _ _ _ _ _ _ _ _ _ (value_text (c.index-outputs-place.result, c.before-in-outputs.result.value))
    (values_text (drop (c.outputs.place + 1) c.args.outputs.now) (drop (c.outputs.place + 1) sim.before)) c.from_residual.result c.from_residual.ensures.0
    c.outputs.invariant.so_far c.outputs.invariant.never_falls
    (outputs_more (graph sim.tree).ports.outputs c.args.outputs.now sim.before c.outputs.place c.index-outputs-place.result c.before-in-outputs.result c.requires
    c.outputs-test.true c.lawful.ensures.before c.index-outputs-place.is c.before-in-outputs.ensures)
    c.in_err-write_value.ensures.front c.in_err-write_value.ensures.cause.never_falls c.in_err-write_value.ensures.cause.failed

pub outputs-preserved : goal.outputs-preserved
outputs-preserved g c =
    let sim = g.S.Sim.runs c.args.sim.now in
    record {
      so_far = loop_more _ _ _ _ _ _ _ _ (value_text (c.index-outputs-place.result, c.before-in-outputs.result.value))
          (values_text (drop (c.outputs.place + 1) c.args.outputs.now) (drop (c.outputs.place + 1) sim.before)) c.outputs.invariant.so_far
          (outputs_more (graph sim.tree).ports.outputs c.args.outputs.now sim.before c.outputs.place c.index-outputs-place.result c.before-in-outputs.result c.requires
          c.outputs-test.true c.lawful.ensures.before c.index-outputs-place.is c.before-in-outputs.ensures)
          c.in_ok-write_value.ensures.all;
      never_falls = omega (arith, c.outputs.invariant.never_falls, c.in_ok-write_value.ensures.cause.never_falls);
    }
