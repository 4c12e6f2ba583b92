use Rattle.std.proofs.Common.{◌≡◌, ◌<◌, length, arith}
use Rattle.hc_layout.proofs.RunnerRows.{begun, next_more}
use Rattle.hc_layout.proofs.up.runners.Goals as goal

pub instances-init : goal.instances-init
instances-init c = begun _ _ _ _ _ _ _ _ c.requires c.in_ok-push_row.ensures.ok c.new-up.ensures c.as_slice.ensures.value c.in_ok-row.ensures

pub push_kids-requires-clause-layout : goal.push_kids-requires-clause-layout
push_kids-requires-clause-layout c = (c.args.top, c.requires)

pub push_kids-requires-clause-many : goal.push_kids-requires-clause-many
push_kids-requires-clause-many c =
    let there : c.instances.p < length c.args.layout.now.entries = omega (arith, c.len-p-end.ensures) in
    c.instances.invariant.1.begins there

pub instances-preserved : goal.instances-preserved
instances-preserved c =
    let there : c.instances.p < length c.args.layout.now.entries = omega (arith, c.len-p-end.ensures) in (
      c.in_ok-push_kids.ensures.up,
      next_more c.args.db.now.entries c.args.top c.args.layout.now c.instances.p _ _ c.requires there
          (c.instances.invariant.1.begins there) c.in_ok-push_kids.ensures.many,
    )

pub returns : goal.returns
returns c =
    let end : c.instances.p ≡ length c.args.layout.now.entries = omega (arith, c.len-p-end.ensures) in
    record { runners = c.instances.invariant.0; whole = c.instances.invariant.1.ends end }
