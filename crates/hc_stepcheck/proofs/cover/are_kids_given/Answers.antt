use Rattle.std.proofs.Common.{ℕ, length, ap, arith}
use Rattle.hc_canon.specs.declared.form.EntryId.{EntryId}
use Rattle.hc_stepcheck.specs.Checked.{AreInputsGiven, AreRunsGiven}
use Rattle.hc_steps.proofs.Lists.{next}
use Rattle.hc_stepcheck.proofs.Covering.{kids_given}
use Rattle.hc_stepcheck.proofs.cover.are_kids_given.Goals as goal

pub kids-preserved : goal.kids-preserved
kids-preserved c =
    next (λ (k : ℕ). AreInputsGiven c.args.site.now.db.now.entries c.args.site.now.form.now c.args.site.now.plan.now.parts k
    × AreRunsGiven c.args.site.now.plans.now c.args.site.now.form.now c.args.site.now.plan.now.parts k)
    c.kids.i c.kids.invariant (c.is_kid_given.ensures c.if-is_kid_given.true)

pub returns : goal.returns
returns c = λ t.
    kids_given c.args.site.now.db.now.entries c.args.site.now.plans.now c.args.site.now.form.now c.args.site.now.plan.now.parts c.kids.i
    (omega (arith, c.kids-test.false, ap (length {A = EntryId}) c.kids-len.ensures)) c.kids.invariant
