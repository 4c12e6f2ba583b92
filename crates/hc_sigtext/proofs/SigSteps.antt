-- Steps of the readers of signals.
use Rattle.std.proofs.Common.{◌≡◌, ℕ, zero, suc, ◌-◌, Result, subst, arith, refl}
use Rattle.hc_tokens.specs.declared.stop.Stop.{Stop}
use Rattle.hc_sigtext.specs.declared.tree.Sig.{Sig}
use Rattle.hc_sigtext.specs.declared.reading.Head.{Head}
use Rattle.hc_sigtext.specs.Grammar.{Tokens}
use Rattle.hc_tokens.specs.Returns.{Returns}
use Rattle.hc_sigtext.specs.SigReading.{bodies_at, body_at}

pub enclosed_gives : {X : Type 0} (view : X → Sig × Tokens) (x : Result X Stop) (d : ℕ) (h : Head) (ts : Tokens) → (d ≡ 0 → ⊥) → Returns view x (body_at (d - 1) h ts) → Returns view x (bodies_at d h ts)
enclosed_gives view x zero h ts some e = absurd (some refl)
enclosed_gives view x (suc d) h ts some e = subst (λ k. Returns view x (body_at k h ts)) (omega arith) e
