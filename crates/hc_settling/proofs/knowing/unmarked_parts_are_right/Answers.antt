use Rattle.hc_settling.proofs.Quiet.{still_known}
use Rattle.hc_settling.proofs.Whole.{unmarked_still}
use Rattle.hc_settling.proofs.knowing.unmarked_parts_are_right.Goals as goal

pub returns : goal.returns
returns c = record {
  still = λ t plans state inputs vals stale whole are marked p part r u. unmarked_still t plans are state inputs vals whole stale marked p part r u;
  right = λ t plans state inputs vals v are settled constants p part r s k f h. still_known t plans state inputs vals v settled constants are s r k f h;
}
