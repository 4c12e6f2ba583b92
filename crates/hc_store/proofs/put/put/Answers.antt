use Rattle.std.proofs.Common.{◌≡◌, ℕ, Bool, true, false, List, refl, subst}
use Rattle.hc_store.specs.Marks.{AreMoreMarked}
use Rattle.hc_store.specs.Stored.{kept, put}
use Rattle.hc_store.proofs.put.put.Goals as goal

not_both : (b : Bool) → b ≡ true → b ≡ false → ⊥
not_both b t f = cc

pub returns-then-is_at : goal.returns-then-is_at
returns-then-is_at c = kept (c.is_at.ensures.0 c.if-is_at.true)

pub returns : goal.returns
returns c = put (λ e. not_both c.is_at.result (c.is_at.ensures.1 e) c.if-is_at.false)
    (subst (λ (up : List (List ℕ)). AreMoreMarked up c.args.p c.args.parts.now c.args.store.now.stale c.wake_all.new.stale) c.up.ensures c.wake_all.ensures) c.put.ensures refl
