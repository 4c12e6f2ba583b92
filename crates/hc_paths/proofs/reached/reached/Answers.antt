use Rattle.hc_paths.proofs.Orders.{among_reached}
use Rattle.hc_paths.proofs.reached.reached.Goals as goal

pub returns : goal.returns
returns c = among_reached _ _ _ _ c.as_slice.ensures.value c.in_ok-ids.ensures c.in_ok-met.ensures.reached
