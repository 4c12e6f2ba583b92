use Rattle.hc_flatten.proofs.Kids.{read_here}
use Rattle.hc_flatten.proofs.Starts.{reaches_next, starts_next}
use Rattle.hc_flatten.proofs.layout.starts.Goals as goal

pub kids-preserved : goal.kids-preserved
kids-preserved c = record {
  next = reaches_next c.args.db.now.entries c.args.sizes.now c.args.form.now _ _ c.kids.kid-index _ c.kids.next c.in-Some-after_kid.next c.requires
      (read_here c.args.form.now.kids c.kids-kid-items.result.now c.kids.kid-index _ c.kids-kid-items.ensures c.kids-test.true) c.kids.invariant.next c.in-Some-after_kid.ensures;
  made = starts_next c.args.place.now c.args.form.now c.args.db.now.entries c.kids.made.items c.push.new.self.items c.kids.kid-index c.kids.next c.kids.invariant.made
      c.kids.invariant.next c.in_ok-push.ensures.items;
}
