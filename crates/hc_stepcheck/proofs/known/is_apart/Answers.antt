use Rattle.hc_stepcheck.proofs.Knowing.{apart_is}
use Rattle.hc_stepcheck.proofs.known.is_apart.Goals as goal

pub returns : goal.returns
returns c = λ t h. c.is_beyond.ensures t (apart_is c.args.parts.now c.args.part c.args.other c.in-Some.own.now c.in-Some-part_at.it.now _ _ c.in-Some.ensures
    c.in-Some-part_at.ensures c.needs.ensures c.needs-2.ensures h)
