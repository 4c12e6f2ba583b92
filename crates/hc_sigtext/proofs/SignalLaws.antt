-- Signals are read exactly where they are spelled.
use Rattle.std.proofs.Common.{◌≡◌, ℕ, ◌≤◌, [], Some, refl, sym, ◌∙◌, ap, subst, arith}
use Rattle.hc_sigtext.specs.declared.tree.Sig.{Sig}
use Rattle.hc_sigtext.specs.Grammar.{Tokens, IsSig, most_open}
use Rattle.hc_sigtext.specs.SigReading.{signal_at}
use Rattle.hc_tokens.proofs.NumbersSound.{append-nil}
use Rattle.hc_sigtext.proofs.SigFound.{sig_found}
use Rattle.hc_sigtext.proofs.SigSound.{signal_sound}
use Rattle.hc_sigtext.proofs.Fronts.{some-first}

pub signal-read : (ts : Tokens) (s : Sig) (d : ℕ) → IsSig ts s → most_open 0 ts ≤ d → signal_at d ts ≡ Some (s, [])
signal-read ts s d h l = ap (signal_at d) (sym (append-nil ts)) ∙ sig_found h d 0 (omega arith) [] refl

pub signal-spelled : (ts : Tokens) (s : Sig) (d : ℕ) → signal_at d ts ≡ Some (s, []) → IsSig ts s × (most_open 0 ts ≤ d)
signal-spelled ts s d e =
    let f = signal_sound d ts [] s e in
    let is : ts ≡ f.front = f.parts ∙ append-nil f.front in
    (subst (λ x. IsSig x s) (sym is) f.holds, subst (λ x. most_open 0 x ≤ d) (sym is) (omega (arith, f.within 0)))

pub one_signal : (ts : Tokens) (s t : Sig) → IsSig ts s → IsSig ts t → s ≡ t
one_signal ts s t h k = some-first s t [] [] (sym (signal-read ts s (most_open 0 ts) h (omega arith)) ∙ signal-read ts t (most_open 0 ts) k (omega arith))
