use Rattle.hc_settling.proofs.Entries.{circuit_by_path, entered_at}
use Rattle.hc_settling.proofs.compiled.unfoldings_are_of_entries.Goals as goal

pub returns : goal.returns
returns c = record {
  circuits = λ h top path legal. circuit_by_path h legal top path;
  entries = λ h top path legal within r. entered_at h legal top within path r;
}
