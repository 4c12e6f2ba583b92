use Rattle.std.proofs.Common.{Global}
use Rattle.hc_plan.specs.Stepping.{outs_of}
use Rattle.hc_plan.proofs.Outs.{Found, kid_added, kid_missing}
use Rattle.hc_plan.proofs.step.kids_of.Goals as goal

pub returns-in_default : goal.returns-in_default
returns-in_default c =
    kid_missing Global (outs_of c.args.outs.now) c.args.kids.now c.kids.kid-index 0 c.kids-test.true c.in_default.ensures

pub kids-preserved : goal.kids-preserved
kids-preserved c =
    let outs = outs_of c.args.outs.now in
    let old : Found Global = (c.kids.ids, c.kids.all) in
    let new : Found Global = (c.push.new.self, c.push-in-kids.new.self) in
    let ids = c.in_ok-push.ensures.items in
    let paths = c.in_ok-push-2.ensures.items in
    kid_added outs c.args.kids.now c.kids.kid-index 0 old new c.in-Some.out.now c.in_ok-copy_of.field-0
    c.kids-test.true c.kids.invariant c.in-Some.ensures ids paths c.in_ok-copy_of.ensures
