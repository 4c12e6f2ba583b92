use Rattle.std.proofs.Common.{◌≡◌, length, ap, ◌∙◌, arith}
use Rattle.hc_naming.specs.NameTable.{name_at}
use Rattle.hc_naming.proofs.Slots.{empty_more, empty_none}
use Rattle.hc_naming.proofs.naming.empty_slots.Goals as goal

pub loop-slots-init : goal.loop-slots-init
loop-slots-init c = record {
  few = let none : length c.in_ok-slots.slots.items ≡ 0 = ap length c.in_ok-slots.ensures.items in omega arith;
  empty = λ k. ap (λ slots. name_at slots k) c.in_ok-slots.ensures.items ∙ empty_none k;
}

pub loop-slots-preserved : goal.loop-slots-preserved
loop-slots-preserved c = record {
  few = omega (arith, c.in_ok-push.ensures.len);
  empty = λ k. ap (λ slots. name_at slots k) c.in_ok-push.ensures.items ∙ empty_more c.loop-slots.slots.items c.loop-slots.invariant.empty k;
}
