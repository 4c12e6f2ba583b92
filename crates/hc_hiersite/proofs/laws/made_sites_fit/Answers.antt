use Rattle.hc_hiersite.proofs.Fits.{made_fit}
use Rattle.hc_hiersite.proofs.laws.made_sites_fit.Goals as goal

pub returns : goal.returns
returns c h top g l made = made_fit h top g l made
