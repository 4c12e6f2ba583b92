use Rattle.std.proofs.Common.{◌≡◌, length, arith}
use Rattle.std.specs.Prelude.{slice_get}
use Rattle.hc_layout.specs.Up.{parts_of}
use Rattle.hc_layout.proofs.RunnerRows.{kid_more, kid_all}
use Rattle.hc_layout.proofs.up.kid_row.Goals as goal

pub parts-preserved : goal.parts-preserved
parts-preserved c =
    kid_more c.args.up.now (slice_get c.args.plans.now c.args.id.0) c.args.p c.args.i.0 c.parts.part _ _ _ _ _ _ c.parts.invariant c.in_ok-push.ensures.items c.in_ok-short.ensures
    c.number_or.ensures c.running_part-by.ensures c.items-start.ensures

pub returns : goal.returns
returns c =
    let all : c.parts.part ≡ length (parts_of c.args.plans.now c.args.kid) = omega (arith, c.in_ok-part-end.ensures, c.count_parts.ensures) in
    kid_all c.args.up.now (slice_get c.args.plans.now c.args.id.0) c.args.p c.args.i.0 _ _ _ c.parts.invariant all
