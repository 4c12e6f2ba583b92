-- The steps of a bench are for the inputs of its top.
use Rattle.std.proofs.Common.{◌≡◌, ℕ, zero, suc, ◌+◌, ◌-◌, ◌<◌, ◌≤◌, ◌^◌, Bool, true, false, cond, ◌==◌, ◌&&◌, List, [], ◌∷◌, refl, subst, arith}
use Rattle.std.specs.Prelude.{Option, Some, None, Result, Ok, Err, ℤ, pos, negsuc, nat_abs, nat_le, nat_lt, slice_get, sum_by, if◌then◌else◌}
use Rattle.std.proofs.lemmas.Bool.{and_parts, leb-true, ltb-true}
use Rattle.std.proofs.lemmas.List.Sums.{sum_by-cons}
use Rattle.std.proofs.lemmas.Nat.{pow_below}
use Rattle.hc_fault.specs.declared.fault.Fault.{Fault}
use Rattle.hc_fault.specs.declared.fault.FaultKind.{FaultKind}
use Rattle.hc_fault.specs.declared.fault.FaultKind.TheVariants as fault
use Rattle.hc_bits.specs.BitVector.{BitVector, IsVector, IsWidth, from_i64}
use Rattle.hc_lines.specs.declared.tree.BenchValue.{BenchValue}
use Rattle.hc_lines.specs.declared.tree.BenchValue.TheVariants.{Plain, Sized}
use Rattle.hc_lines.specs.declared.tree.BenchWhat.{BenchWhat}
use Rattle.hc_lines.specs.declared.tree.BenchWhat.TheVariants as line
use Rattle.hc_lang.specs.declared.tree.BenchLine.{BenchLine}
use Rattle.hc_lang.specs.declared.tree.Design.{Design}
use Rattle.hc_signal.specs.Member.{Has, first, later}
use Rattle.hc_signal.specs.Lawful.{ArePorts}
use Rattle.hc_signal.specs.declared.signal.Port.{Port}
use Rattle.hc_signal.specs.declared.signal.Ports.{Ports}
use Rattle.hc_bench.specs.Steps.{AreStepsFor, IsStepFor, at_line, before, cycles_of, input_place, set_at, set_port, step_of, step_to, steps_from, steps_of, then_steps, value_in}
use Rattle.hc_bench.specs.declared.kinds.Step.{Step}
use Rattle.hc_bench.specs.declared.kinds.Step.TheVariants.{Set, Cycle, Reset}

-- ---- values

one_below : (w : ℕ) → 1 ≤ w → 0 < 2 ^ w
one_below w some = let less : 2 ^ 0 < 2 ^ w = pow_below 0 w some in omega arith

vector_of_number : (w : ℕ) (z : ℤ) (v : BitVector) → IsWidth w → from_i64 w z ≡ Some v → IsVector v w
vector_of_number w (pos n) v b e = by (nat_lt n (2 ^ w)) refl e
  where
    by : (t : Bool) → nat_lt n (2 ^ w) ≡ t → cond t (Some (record { width = w; value = n })) None ≡ Some v → IsVector v w
    by true is e' =
        let same : ◌≡◌ {A = BitVector} (record { width = w; value = n }) v = cc in
        subst (λ x. IsVector x w) same (record { some = b.0; few = b.1; fits = ltb-true n (2 ^ w) is }, refl)
    by false is e' = absurd cc
vector_of_number w (negsuc n) v b e = by (nat_le (n + 1) (2 ^ (w - 1))) e
  where
    by : (t : Bool) → cond t (Some (record { width = w; value = 2 ^ w - (n + 1) })) None ≡ Some v → IsVector v w
    by true e' =
        let same : ◌≡◌ {A = BitVector} (record { width = w; value = 2 ^ w - (n + 1) }) v = cc in
        let some : 0 < 2 ^ w = one_below w b.0 in
        subst (λ x. IsVector x w) same (record { some = b.0; few = b.1; fits = omega arith }, refl)
    by false e' = absurd cc

value_fits : (w : ℕ) (value : BenchValue) (v : BitVector) → IsWidth w → value_in w value ≡ Some v → IsVector v w
value_fits w (Plain n) v b e = vector_of_number w n v b e
value_fits w (Sized (pos n) x) v b e = by ((n == w) && nat_lt x (2 ^ w)) refl e
  where
    by : (t : Bool) → ((n == w) && nat_lt x (2 ^ w)) ≡ t → cond t (Some (record { width = w; value = x })) None ≡ Some v → IsVector v w
    by true is e' =
        let same : ◌≡◌ {A = BitVector} (record { width = w; value = x }) v = cc in
        let parts : _ = and_parts (n == w) (nat_lt x (2 ^ w)) is in
        subst (λ y. IsVector y w) same (record { some = b.0; few = b.1; fits = ltb-true x (2 ^ w) parts.1 }, refl)
    by false is e' = absurd cc
value_fits w (Sized (negsuc n) x) v b e = absurd cc

-- ---- steps

has_from_place : {X : Type 0} (xs : List X) (i : ℕ) (x : X) → slice_get xs i ≡ Some x → Has xs x
has_from_place [] i x e = absurd cc
has_from_place (y ∷ xs) zero x e = let same : y ≡ x = cc in subst (λ z. Has (y ∷ xs) z) same first
has_from_place (y ∷ xs) (suc i) x e = later (has_from_place xs i x e)

module _ (inputs : List Port) (widths : (p : Port) → Has inputs p → IsWidth p.width) where
  abbrev Fits : ℕ → Step → Type 0
  Fits count step = IsStepFor inputs step × (count + cycles_of step ≤ 1000000)

  set_fits : (count : ℕ) → count ≤ 1000000 → (value : BenchValue) (at : Option ℕ) (step : Step) → set_at inputs value at ≡ Ok step → Fits count step
  set_fits count few value None step e = absurd cc
  set_fits count few value (Some place) step e = by (slice_get inputs place) refl e
    where
      valued : (p : Port) → slice_get inputs place ≡ Some p → (o : Option BitVector) → value_in p.width value ≡ o → step_to place o ≡ Ok step → Fits count step
      valued p at (Some x) is e' =
          let same : ◌≡◌ {A = Step} (Set place x) step = cc in
          subst (Fits count) same ((p, at, value_fits p.width value x (widths p (has_from_place inputs place p at)) is), omega (arith, few))
      valued p at None is e' = absurd cc

      by : (o : Option Port) → slice_get inputs place ≡ o → set_port place value o ≡ Ok step → Fits count step
      by (Some p) at e' = valued p at (value_in p.width value) refl e'
      by None at e' = absurd cc

  step_fits : (count : ℕ) → count ≤ 1000000 → (w : BenchWhat) (step : Step) → step_of inputs count w ≡ Ok step → Fits count step
  step_fits count few (line.Set name value) step e = set_fits count few value (input_place name inputs) step e
  step_fits count few (line.Cycle times) step e = by (nat_le (count + nat_abs times) 1000000) refl e
    where
      by : (b : Bool) → nat_le (count + nat_abs times) 1000000 ≡ b → ◌≡◌ {A = Result Step FaultKind} (if b then Ok (Cycle (nat_abs times)) else Err fault.TooManyCycles) (Ok step) → Fits count step
      by true is e' = let same : ◌≡◌ {A = Step} (Cycle (nat_abs times)) step = cc in subst (Fits count) same (tt, leb-true (count + nat_abs times) 1000000 is)
      by false is e' = absurd cc
  step_fits count few line.Reset step e = let same : ◌≡◌ {A = Step} Reset step = cc in subst (Fits count) same (tt, omega (arith, few))

  abbrev AllFit : ℕ → List Step → Type 0
  AllFit count steps = ((k : ℕ) (step : Step) → slice_get steps k ≡ Some step → IsStepFor inputs step) × (count + sum_by cycles_of steps ≤ 1000000)

  one_more : (count : ℕ) (step : Step) (rest : List Step) → Fits count step → AllFit (count + cycles_of step) rest → AllFit count (step ∷ rest)
  one_more count step rest fit all = (
    each,
    (let s : sum_by cycles_of (step ∷ rest) ≡ cycles_of step + sum_by cycles_of rest = sum_by-cons cycles_of step rest
        in let m : count + cycles_of step + sum_by cycles_of rest ≤ 1000000 = all.1 in omega (arith, s, m)),
  )
    where
      each : (k : ℕ) (other : Step) → slice_get (step ∷ rest) k ≡ Some other → IsStepFor inputs other
      each zero other e = let same : step ≡ other = cc in subst (IsStepFor inputs) same fit.0
      each (suc k) other e = all.0 k other e

  steps_fit : (ls : List BenchLine) (count : ℕ) → count ≤ 1000000 → (steps : List Step) → steps_from inputs count ls ≡ Ok steps → AllFit count steps
  steps_fit [] count few steps e = let same : [] ≡ steps = cc in subst (AllFit count) same ((λ k step at. absurd cc), omega (arith, few))
  steps_fit (l ∷ ls) count few steps e = by (step_of inputs count l.what) refl e (λ step less rest is. steps_fit ls (count + cycles_of step) less rest is)
    where
      joined : (step : Step) → Fits count step → (r : Result (List Step) Fault) → ((rest : List Step) → r ≡ Ok rest → AllFit (count + cycles_of step) rest)
          → before step r ≡ Ok steps → AllFit count steps
      joined step fit (Ok rest) all e' = let same : step ∷ rest ≡ steps = cc in subst (AllFit count) same (one_more count step rest fit (all rest refl))
      joined step fit (Err f) all e' = absurd cc

      by : (r : Result Step FaultKind) → step_of inputs count l.what ≡ r → then_steps (at_line l.line r) (λ step. steps_from inputs (count + cycles_of step) ls) ≡ Ok steps
          → ((step : Step) → count + cycles_of step ≤ 1000000 → (rest : List Step) → steps_from inputs (count + cycles_of step) ls ≡ Ok rest → AllFit (count + cycles_of step) rest)
          → AllFit count steps
      by (Ok step) is e' more = let fit : Fits count step = step_fits count few l.what step is in joined step fit (steps_from inputs (count + cycles_of step) ls) (more step fit.1) e'
      by (Err kind) is e' more = absurd cc

pub are_steps : (d : Design) (ports : Ports) (steps : List Step) → ArePorts ports → steps_of d ports ≡ Ok steps → AreStepsFor ports.inputs steps
are_steps d ports steps are e =
    let all : AllFit ports.inputs are.inputs 0 steps = steps_fit ports.inputs are.inputs d.bench 0 (omega arith) steps e in
    record { each = all.0; few = (let m : 0 + sum_by cycles_of steps ≤ 1000000 = all.1 in omega (arith, m)) }
