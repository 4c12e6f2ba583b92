-- A reader or a writer of std, as contracts see its adapter.
use Rattle.std.specs.Prelude.{ℕ, refl}
use Rattle.std.specs.Coded.{Coded, code_by, coded×, coded_ℕ}

-- what is read or written, and how many calls on it have failed
pub record Counted (X : Type 0) : Type 0 where
  pub inner : X
  pub faults : ℕ

abbrev pub counted_code : {X : Type 0} → Coded X → Coded (Counted X)
counted_code {X} code = code_by (X × ℕ) (coded× code coded_ℕ) (λ c. (c.inner, c.faults)) (λ p. record { inner = p.0; faults = p.1 }) (λ _. refl)
