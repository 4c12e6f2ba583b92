use Rattle.std.proofs.Common.{refl}
use Rattle.hc_hiersite.proofs.Shown.{made_shown}
use Rattle.hc_hiersite.proofs.laws.made_sites_show.Goals as goal

pub returns : goal.returns
returns c = record {
  shows = λ h top g l state inputs made has. made_shown h top g l made state inputs has;
  top = λ h top g l made. refl;
}
