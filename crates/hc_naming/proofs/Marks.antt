-- The marks of the outputs.
use Rattle.std.proofs.Common.{◌≡◌, ℕ, zero, suc, ◌+◌, ◌<◌, ◌==◌, ◌||◌, Bool, true, false, List, drop, length, refl, sym, ap, ◌∙◌, inl, inr, eq-eqb, eqb-true, true≢false}
use Rattle.std.specs.Prelude.{slice_get, slice_set, Option, Some, unwrap_or, replicate}
use Rattle.std.specs.List.{list_any}
use Rattle.hc_signal.specs.declared.signal.NodeId.{NodeId}
use Rattle.hc_naming.specs.NameTable.{mark_at}
use Rattle.hc_naming.proofs.Lists.{drop_at}
use Rattle.hc_naming.proofs.Named.{choice}
use Rattle.hc_naming.proofs.Slots.{get_set_same, get_set_other}

or_true : (b : Bool) → (b || true) ≡ true
or_true true = refl
or_true false = refl

-- one mark more
pub mark_cut : (marks : List Bool) (ids : List NodeId) (k n : ℕ) (id : NodeId) → slice_get ids k ≡ Some id → id.0 < length marks
    → (mark_at (slice_set marks id.0 true) n || list_any (λ (i : NodeId). i.0 == n) (drop (k + 1) ids)) ≡ (mark_at marks n || list_any (λ (i : NodeId). i.0 == n) (drop k ids))
mark_cut marks ids k n id at within =
    let rest : Bool = list_any (λ (i : NodeId). i.0 == n) (drop (k + 1) ids) in
    elim (choice (id.0 == n)) [
      | inl e ↦
          (let same : id.0 ≡ n = eqb-true id.0 n e in
          let set : mark_at (slice_set marks id.0 true) n ≡ true = ap (λ m. mark_at (slice_set marks id.0 true) m) (sym same) ∙ ap (λ (o : Option Bool). unwrap_or o false)
          (get_set_same marks id.0 true within) in
          ap (λ b. b || rest) set ∙ sym (ap (λ l. mark_at marks n || list_any (λ (i : NodeId). i.0 == n) l) (drop_at ids k id at) ∙ ap (λ b. mark_at marks n || (b || rest)) e
          ∙ or_true (mark_at marks n)))
      | inr e ↦
          ap (λ (o : Option Bool). unwrap_or o false || rest) (get_set_other marks id.0 n true (λ same. true≢false (sym (eq-eqb id.0 n same) ∙ e)))
          ∙ sym (ap (λ l. mark_at marks n || list_any (λ (i : NodeId). i.0 == n) l) (drop_at ids k id at) ∙ ap (λ b. mark_at marks n || (b || rest)) e)
    ]

-- no mark
pub mark_none : (len n : ℕ) → mark_at (replicate len false) n ≡ false
mark_none zero n = refl
mark_none (suc len) zero = refl
mark_none (suc len) (suc n) = mark_none len n
