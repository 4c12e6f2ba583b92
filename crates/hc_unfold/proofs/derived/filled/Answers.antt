use Rattle.hc_unfold.proofs.Lists.{front_of_copies}
use Rattle.hc_unfold.proofs.derived.filled.Goals as goal

pub returns : goal.returns
returns c n few = front_of_copies n 128 c.args.x few
