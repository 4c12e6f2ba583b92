use Rattle.hc_stepcheck.proofs.Knowing.{earlier, within_part}
use Rattle.hc_stepcheck.proofs.known.is_known.Goals as goal

pub returns-then-spot-at-2 : goal.returns-then-spot-at-2
returns-then-spot-at-2 c = λ t g. within_part g c.args.parts.now c.args.at.part c.args.at.step c.args.spot.part c.args.spot.step _ c.if-spot-at.true
    (c.gives.ensures c.if-gives.true) c.if-spot-at-2.true

pub returns-then-is_before : goal.returns-then-is_before
returns-then-is_before c = λ t g. earlier g c.args.parts.now c.args.at.part c.args.at.step c.args.spot.part c.args.spot.step _ (c.gives.ensures c.if-gives.true)
    (c.is_before.ensures c.if-is_before.true)
