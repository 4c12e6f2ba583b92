use Rattle.std.proofs.lemmas.Result.{IfOk-weaker, MatchResult-weaker}
use Rattle.hc_paths.proofs.Orders.{roots_right, order_local, order_free, cycle_local}
use Rattle.hc_paths.proofs.local.order_backwards.Goals as goal

pub order-requires : goal.order-requires
order-requires c = roots_right _ _ c.lawful.ensures _ _ c.as_slice.ensures.value c.in_ok-roots.ensures

pub returns-clause-order : goal.returns-clause-order
returns-clause-order c = IfOk-weaker c.order.result _ _ (λ order o. order_local _ _ c.lawful.ensures _ _ c.as_slice.ensures.value c.in_ok-roots.ensures order o) c.order.ensures.order

pub returns-clause-free : goal.returns-clause-free
returns-clause-free c = IfOk-weaker c.order.result _ _ (λ order o. order_free _ _ c.lawful.ensures _ _ c.as_slice.ensures.value c.in_ok-roots.ensures order o) c.order.ensures.order

pub returns-clause-cycle : goal.returns-clause-cycle
returns-clause-cycle c = MatchResult-weaker c.order.result c.order.ensures.cycle (λ order o. o) (λ stop h e. cycle_local _ _ c.lawful.ensures _ _ c.as_slice.ensures.value c.in_ok-roots.ensures (h e))
