use Rattle.hc_steps.specs.Plan.{Begins}
use Rattle.hc_steps.proofs.Pushed.{pushed}
use Rattle.hc_steps.proofs.laws.pushes_keep_ready.Goals as goal

pub returns : goal.returns
returns c = λ g graphs plans plan j steps s a r. pushed g graphs plans (Begins g plan j) steps s a r
