use Rattle.hc_draft.proofs.Smaller.{no_larger}
use Rattle.hc_draft.proofs.laws.masks_within_come_first.Goals as goal

pub returns : goal.returns
returns c = λ a b h. no_larger a b h
