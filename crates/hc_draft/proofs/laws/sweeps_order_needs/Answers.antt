use Rattle.std.proofs.Common.{ℕ}
use Rattle.hc_signal.specs.declared.signal.Node.TheVariants.{Input}
use Rattle.hc_signal.specs.Lawful.{NodeAt}
use Rattle.hc_paths.specs.Fanin.{local_fanin}
use Rattle.hc_paths.specs.Local.{LocalPath, on}
use Rattle.hc_paths.proofs.LocalSteps.{fanin_step}
use Rattle.hc_draft.proofs.Sweep.{swept_within, swept_keeps}
use Rattle.hc_draft.proofs.laws.sweeps_order_needs.Goals as goal

pub returns : goal.returns
returns c = record {
  within = λ next order masks different sorted n m h a k b. swept_within next order masks different sorted n m h a k b;
  keeps = λ g kids order masks k a n m y l.
      swept_keeps (local_fanin g kids) k (λ z. (j : ℕ) × NodeAt g j (Input k) × LocalPath g kids z.0 j)
      (λ z w h p. (p.0, p.1, on (fanin_step g kids z w h) p.2)) order masks (λ z p. a z p.0 p.1 p.2) n (m, y, l);
}
