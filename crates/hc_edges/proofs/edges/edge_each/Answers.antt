use Rattle.std.proofs.Common.{arith}
use Rattle.hc_edges.proofs.Edged.{edged_ends, edged_then}
use Rattle.hc_edges.proofs.edges.edge_each.Goals as goal

pub instances-preserved : goal.instances-preserved
instances-preserved c =
    edged_then c.args.clocked.now c.instances.p c.args.contents.now c.instances.contents c.edge_at.new.contents c.args.store.now c.instances.store c.edge_at.new.store c.instances.invariant
    c.edge_at.ensures.fit c.edge_at.ensures.store c.edge_at.ensures.edge c.edge_at.ensures.others c.edge_at.ensures.marks

pub returns-clause-edge : goal.returns-clause-edge
returns-clause-edge c =
    let past = c.instances-test.false in
    let many = c.len-p-end.ensures in
    edged_ends c.args.clocked.now c.instances.p c.args.contents.now c.instances.contents c.args.store.now c.instances.store c.instances.invariant (omega (arith, past, many))
