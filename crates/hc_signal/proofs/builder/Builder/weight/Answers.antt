use Rattle.hc_signal.proofs.Added.{weight_counts}
use Rattle.hc_signal.proofs.builder.Builder.weight.Goals as goal

pub returns-clause-rows : goal.returns-clause-rows
returns-clause-rows c = weight_counts _ c.args.self.now _ _ _ c.self.invariant c.self.view_is
