use Rattle.hc_signal.specs.Member.{Has}
use Rattle.hc_settling.proofs.Quiet.{known_stays}
use Rattle.hc_settling.proofs.Taken.{step_taken}
use Rattle.hc_settling.proofs.knowing.steps_make_known.Goals as goal

pub returns : goal.returns
returns c = record {
  taken = λ t plans state inputs vals new v settled constants p r known k s ready b. step_taken t plans state inputs vals new v settled constants p r (Has known) k s ready b;
  stays = λ t plans old new v keep p f h. known_stays keep h;
}
