use Rattle.hc_hiersite.proofs.Settled.{made_settled, made_kept, none_marked}
use Rattle.hc_hiersite.proofs.laws.made_sites_settle.Goals as goal

pub returns : goal.returns
returns c = record {
  settled = λ h top g l state inputs old new made free has right ends. made_settled h top g l state inputs old new made has ends free right;
  kept = λ h top g l state inputs old new made free has right ends. made_kept h top g l state inputs old new made has ends free right;
  quiet = λ h top g l state inputs old new path part made has ends. none_marked h top g l state inputs old new made has ends path part;
}
