use Rattle.std.proofs.Common.{refl, true≢false}
use Rattle.hc_settling.proofs.Agrees.{row_in, whole_at}
use Rattle.hc_signal.specs.Occurrences.{tree_at}
use Rattle.hc_settling.proofs.Whole.{all_settled, settled_balanced}
use Rattle.hc_settling.proofs.knowing.known_tops_settle.Goals as goal

pub returns : goal.returns
returns c = record {
  settled = λ t plans state inputs vals v whole are settled constants tops top. all_settled t plans are state inputs vals v settled constants tops
      (λ s r. row_in (tree_at t s.path) (whole_at t whole s.path r.0) r.1) top;
  balanced = λ t plans state inputs vals are settled p r part s h. settled_balanced t plans are state inputs vals settled p r part s h;
  cleared = λ t plans state inputs vals are settled p part r u. ((λ s h. settled_balanced t plans are state inputs vals settled p r part s h), (λ i b h. refl));
  opening = λ t plans state inputs vals p part r u. absurd (true≢false u);
}
