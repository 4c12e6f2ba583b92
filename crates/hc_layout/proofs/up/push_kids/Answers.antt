use Rattle.std.proofs.Common.{◌≡◌, length, arith}
use Rattle.hc_layout.proofs.RunnerRows.{kid_pushed, one_longer, kids_pushed}
use Rattle.hc_layout.proofs.up.push_kids.Goals as goal

pub kids-preserved : goal.kids-preserved
kids-preserved c = (
  kid_pushed c.args.db.now.entries c.args.plans.now c.requires.layout.0 c.args.layout.now c.kids.up c.push_kid.new.up c.args.p c.kids.i _ _ _ _ _ _ c.requires.layout.1
      c.kids.invariant.0 c.entry-id.ensures c.requires.many c.get.ensures c.kids-kids.ensures c.kid_at.ensures c.kids.invariant.1 c.in_ok-short.ensures c.in_ok-push_kid.ensures,
  one_longer _ _ _ _ _ c.kids.invariant.1 c.in_ok-push_kid.ensures,
)

pub returns-clause-many : goal.returns-clause-many
returns-clause-many c =
    λ other e. (let all : c.kids.i ≡ length c.kids-kids.result.now = omega arith
    in kids_pushed _ _ _ c.args.layout.now.entries _ _ _ _ c.args.p _ c.entry-id.ensures e c.get.ensures c.kids-kids.ensures all c.kids.invariant.1)
