use Rattle.std.proofs.Common.{arith}
use Rattle.hc_edges.proofs.Initial.{reset_ends, reset_then}
use Rattle.hc_edges.proofs.resets.reset_each.Goals as goal

pub instances-preserved : goal.instances-preserved
instances-preserved c =
    reset_then c.args.clocked.now c.instances.p c.args.contents.now c.instances.contents c.reset_at.new.contents c.args.store.now c.instances.store c.reset_at.new.store c.instances.invariant
    c.reset_at.ensures.fit c.reset_at.ensures.store c.reset_at.ensures.words c.reset_at.ensures.reset c.reset_at.ensures.others c.reset_at.ensures.marks

pub returns-clause-reset : goal.returns-clause-reset
returns-clause-reset c =
    let past = c.instances-test.false in
    let many = c.len-p-end.ensures in
    reset_ends c.args.clocked.now c.instances.p c.args.contents.now c.instances.contents c.args.store.now c.instances.store c.instances.invariant (omega (arith, past, many))
