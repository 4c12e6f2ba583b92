-- A name has one mangled form.
use Rattle.std.proofs.Common.{◌≡◌, ℕ, List, sym, ap, subst, ◌∙◌, inl, inr}
use Rattle.std.proofs.lemmas.Bool.{cases_order}
use Rattle.hc_signal.specs.Member.{Has}
use Rattle.hc_names.specs.Mangling.{numbered, IsMangled}

pub mangled_single : (name : List ℕ) (used : List (List ℕ)) (a b : List ℕ) → IsMangled name used a → IsMangled name used b → a ≡ b
mangled_single name used a b (inl x) (inl y) = x.1 ∙ sym y.1
mangled_single name used a b (inl x) (inr y) = absurd (x.0 y.0)
mangled_single name used a b (inr x) (inl y) = absurd (y.0 x.0)
mangled_single name used a b (inr x) (inr y) =
    elim (cases_order x.1.0 y.1.0) [
      | inl same ↦ x.1.1 ∙ ap (numbered name) same ∙ sym y.1.1
      | inr other ↦ elim other [
        | inl lt ↦ absurd (x.1.2 (subst (Has used) (sym x.1.1) (y.1.3 x.1.0 lt)))
        | inr lt ↦ absurd (y.1.2 (subst (Has used) (sym y.1.1) (x.1.3 y.1.0 lt)))
      ]
    ]
