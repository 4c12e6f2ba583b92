use Rattle.std.proofs.Common.{◌≡◌, length, arith}
use Rattle.hc_layout.specs.Up.{parts_of}
use Rattle.hc_layout.proofs.RunnerRows.{numbers_more, numbers_all}
use Rattle.hc_layout.proofs.up.top_row.Goals as goal

pub parts-preserved : goal.parts-preserved
parts-preserved c = numbers_more _ _ _ c.parts.invariant c.in_ok-push.ensures.items

pub returns : goal.returns
returns c =
    let all : c.parts.part ≡ length (parts_of c.args.plans.now c.args.top) = omega (arith, c.in_ok-part-end.ensures, c.count_parts.ensures) in
    numbers_all _ _ _ c.parts.invariant all
