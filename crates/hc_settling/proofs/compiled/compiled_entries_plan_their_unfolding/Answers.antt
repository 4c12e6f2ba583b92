use Rattle.hc_settling.proofs.Entries.{all_planned, all_tabled}
use Rattle.hc_settling.proofs.compiled.compiled_entries_plan_their_unfolding.Goals as goal

pub returns : goal.returns
returns c = record {
  plans = λ h top plans legal within are. all_planned h legal top within plans are;
  tables = λ h top plans legal within are. all_tabled h legal top within plans are;
}
