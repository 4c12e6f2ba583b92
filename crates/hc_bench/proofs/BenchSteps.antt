-- The steps of a bench, line by line.
use Rattle.std.proofs.Common.{◌≡◌, ℕ, zero, suc, ◌+◌, ◌-◌, ◌^◌, ◌<◌, ◌≤◌, ◌==◌, ◌&&◌, nat_lt, nat_le, rules, Bool, true, false, List, [], ◌∷◌, ◌++◌, drop, append-nil, length, get_or, refl, sym, ap, subst, ◌∙◌, arith}
use Rattle.std.specs.Prelude.{Option, Some, None, Result, Ok, Err, if◌then◌else◌, slice_get, sum_by, pos, negsuc, nat_abs, ℤ}
use Rattle.std.proofs.lemmas.Option.{slice_get_read}
use Rattle.std.proofs.lemmas.Bool.Decides.{nat_tests}
use Rattle.std.proofs.lemmas.List.Sums.{sum_by-cons}
use Rattle.std.proofs.Math.ListN.{drop_of_length-le}
use Rattle.hc_fault.specs.declared.fault.Fault.{Fault}
use Rattle.hc_fault.specs.declared.fault.FaultKind.{FaultKind}
use Rattle.hc_fault.specs.declared.fault.FaultKind.TheVariants as fault
use Rattle.hc_lines.specs.declared.tree.BenchValue.{BenchValue}
use Rattle.hc_lines.specs.declared.tree.BenchValue.TheVariants.{Plain, Sized}
use Rattle.hc_lines.specs.declared.tree.BenchWhat.{BenchWhat}
use Rattle.hc_lines.specs.declared.tree.BenchWhat.TheVariants as line
use Rattle.hc_lang.specs.declared.tree.BenchLine.{BenchLine}
use Rattle.hc_bits.specs.BitVector.{BitVector, IsWidth, IsVector, from_i64}
use Rattle.hc_signal.specs.Member.{Has}
use Rattle.hc_signal.proofs.Places.{has_get_or, has_from_place}
use Rattle.hc_signal.specs.declared.signal.Port.{Port}
use Rattle.hc_bench.specs.declared.kinds.Step.{Step}
use Rattle.hc_bench.specs.declared.kinds.Step.TheVariants.{Set, Cycle, Reset}
use Rattle.hc_bench.specs.Steps.{value_in, step_to, set_port, set_at, input_place, step_of, cycles_of, at_line, before, then_steps, steps_from, IsStepFor, AreStepsFor}

-- each input has a width
abbrev pub HaveWidths : List Port → Type 0
HaveWidths ps = (p : Port) → Has ps p → IsWidth p.width

-- ---- one line

pub width_of_port : (all ps : List Port) (place : ℕ) (p : Port) → ps ≡ all → HaveWidths all → place < length ps → IsWidth (get_or ps place p).width
width_of_port all ps place p same widths within = subst HaveWidths (sym same) widths (get_or ps place p) (has_get_or ps place p within)

-- an input that is there takes the value that it has
pub set_is : (all ps : List Port) (name : List ℕ) (value : BenchValue) (place : ℕ) (p : Port) (r : Option BitVector) → ps ≡ all → Some place ≡ input_place name ps
    → place < length ps → p ≡ get_or ps place p → r ≡ value_in (get_or ps place p).width value → step_to place r ≡ set_at all value (input_place name all)
set_is all ps name value place p r same at within item e =
    let there : slice_get ps place ≡ Some p = slice_get_read ps (length ps) place p refl within item in
    ap (step_to place) (e ∙ ap (λ (q : Port). value_in q.width value) (sym item)) ∙ sym (ap (set_port place value) there) ∙ ap (set_at ps value) at
    ∙ ap (λ (l : List Port). set_at l value (input_place name l)) same

-- ---- all lines

-- steps that were read, and those that are still to be read
abbrev pub onto : List Step → Result (List Step) Fault → Result (List Step) Fault
onto done (Ok more) = Ok (done ++ more)
onto done (Err f) = Err f

-- ---- what steps keep to

below : (n m : ℕ) → nat_lt n m ≡ true → n < m
below n m e = grind (arith, nat_tests)

at_most : (n m : ℕ) → nat_le n m ≡ true → n ≤ m
at_most n m e = grind (arith, nat_tests)

power_some : (w : ℕ) → 0 < 2 ^ w
power_some w = search (rules, arith)

under_power : (n w : ℕ) → 2 ^ w - (n + 1) < 2 ^ w
under_power n w = let some = power_some w in omega (arith, some)

fitting : (w n : ℕ) (x : BitVector) → IsWidth w → n < 2 ^ w → Some (record { width = w; value = n }) ≡ Some x → IsVector x w
fitting w n x is less e =
    let v : BitVector = record { width = w; value = n } in
    let same : v ≡ x = cc in
    subst (λ (y : BitVector). IsVector y w) same (record { some = is.0; few = is.1; fits = less }, refl)

abbrev made : Step → Result Step FaultKind
made s = Ok s

pattern_fits : (w : ℕ) (n : ℤ) (x : BitVector) → IsWidth w → from_i64 w n ≡ Some x → IsVector x w
pattern_fits w (pos n) x is e = by (nat_lt n (2 ^ w)) refl e
  where
    by : (b : Bool) → nat_lt n (2 ^ w) ≡ b → (if b then Some (record { width = w; value = n }) else None) ≡ Some x → IsVector x w
    by true less e = fitting w n x is (below n (2 ^ w) less) e
    by false less e = cc
pattern_fits w (negsuc n) x is e = by (nat_le (n + 1) (2 ^ (w - 1))) e
  where
    by : (b : Bool) → (if b then Some (record { width = w; value = 2 ^ w - (n + 1) }) else None) ≡ Some x → IsVector x w
    by true e = fitting w (2 ^ w - (n + 1)) x is (under_power n w) e
    by false e = cc

value_fits : (w : ℕ) (value : BenchValue) (x : BitVector) → IsWidth w → value_in w value ≡ Some x → IsVector x w
value_fits w (Plain n) x is e = pattern_fits w n x is e
value_fits w (Sized (pos v) y) x is e = by (v == w) (nat_lt y (2 ^ w)) refl e
  where
    by : (a b : Bool) → nat_lt y (2 ^ w) ≡ b → (if a && b then Some (record { width = w; value = y }) else None) ≡ Some x → IsVector x w
    by true true less e = fitting w y x is (below y (2 ^ w) less) e
    by true false less e = cc
    by false b less e = cc
value_fits w (Sized (negsuc v) y) x is e = cc

abbrev Fits : List Port → ℕ → Step → Type 0
Fits inputs count step = IsStepFor inputs step × (count + cycles_of step ≤ 1000000)

fits_made : (inputs : List Port) (count : ℕ) (a step : Step) → Fits inputs count a → made a ≡ made step → Fits inputs count step
fits_made inputs count a step fits e = let same : a ≡ step = cc in subst (Fits inputs count) same fits

set_fits : (inputs : List Port) (count : ℕ) (value : BenchValue) (o : Option ℕ) (step : Step) → HaveWidths inputs → count ≤ 1000000 → set_at inputs value o ≡ Ok step → Fits inputs count step
set_fits inputs count value None step widths few e = cc
set_fits inputs count value (Some place) step widths few e = by_port (slice_get inputs place) refl e
  where
    by_value : (p : Port) → slice_get inputs place ≡ Some p → (r : Option BitVector) → value_in p.width value ≡ r → step_to place r ≡ Ok step → Fits inputs count step
    by_value p at None is e = cc
    by_value p at (Some x) is e = fits_made inputs count (Set place x) step ((p, at, value_fits p.width value x (widths p (has_from_place inputs place p at)) is), omega (arith, few)) e

    by_port : (o : Option Port) → slice_get inputs place ≡ o → set_port place value o ≡ Ok step → Fits inputs count step
    by_port None at e = cc
    by_port (Some p) at e = by_value p at (value_in p.width value) refl e

-- the step of a line keeps to the inputs, and its cycles are not too many
step_fits : (inputs : List Port) (count : ℕ) (what : BenchWhat) (step : Step) → HaveWidths inputs → count ≤ 1000000 → step_of inputs count what ≡ Ok step → Fits inputs count step
step_fits inputs count (line.Set name value) step widths few e = set_fits inputs count value (input_place name inputs) step widths few e
step_fits inputs count (line.Cycle times) step widths few e = by (nat_le (count + nat_abs times) 1000000) refl e
  where
    by : (b : Bool) → nat_le (count + nat_abs times) 1000000 ≡ b → (if b then Ok (Cycle (nat_abs times)) else Err fault.TooManyCycles) ≡ made step → Fits inputs count step
    by true within e = fits_made inputs count (Cycle (nat_abs times)) step (tt, at_most (count + nat_abs times) 1000000 within) e
    by false within e = cc
step_fits inputs count line.Reset step widths few e = fits_made inputs count Reset step (tt, omega (arith, few)) e

abbrev All : List Port → List Step → Type 0
All inputs steps = (k : ℕ) (step : Step) → slice_get steps k ≡ Some step → IsStepFor inputs step

no_step : (inputs : List Port) → All inputs []
no_step inputs k step at = cc

one_step : (inputs : List Port) (s : Step) (steps : List Step) → IsStepFor inputs s → All inputs steps → All inputs (s ∷ steps)
one_step inputs s steps is all zero step at = let same : s ≡ step = cc in subst (IsStepFor inputs) same is
one_step inputs s steps is all (suc k) step at = all k step at

pub steps_fit : (inputs : List Port) (count : ℕ) (lines : List BenchLine) (steps : List Step) → HaveWidths inputs → count ≤ 1000000
    → steps_from inputs count lines ≡ Ok steps → All inputs steps × (count + sum_by cycles_of steps ≤ 1000000)
steps_fit inputs count [] steps widths few e =
    let none : [] ≡ steps = cc in
    (subst (All inputs) none (no_step inputs), subst (λ (l : List Step). count + sum_by cycles_of l ≤ 1000000) none (omega (arith, few)))
steps_fit inputs count (l ∷ ls) steps widths few e = by (λ s more. steps_fit inputs (count + cycles_of s) ls more widths) (step_of inputs count l.what) refl e
  where
    Keep : ℕ → List Step → Type 0
    Keep n kept = All inputs kept × (n + sum_by cycles_of kept ≤ 1000000)

    Rest : Type 0
    Rest = (s : Step) (more : List Step) → count + cycles_of s ≤ 1000000 → steps_from inputs (count + cycles_of s) ls ≡ Ok more → Keep (count + cycles_of s) more

    joined : (s : Step) (more : List Step) → Fits inputs count s → Keep (count + cycles_of s) more → Keep count (s ∷ more)
    joined s more fits kept = (one_step inputs s more fits.0 kept.0, let sum = sum_by-cons cycles_of s more in omega (arith, sum, kept.1))

    by_rest : (s : Step) → Fits inputs count s
        → ((more : List Step) → count + cycles_of s ≤ 1000000 → steps_from inputs (count + cycles_of s) ls ≡ Ok more → Keep (count + cycles_of s) more)
        → (r : Result (List Step) Fault) → steps_from inputs (count + cycles_of s) ls ≡ r → before s r ≡ Ok steps → Keep count steps
    by_rest s fits rest (Err f) is e = cc
    by_rest s fits rest (Ok more) is e = let same : s ∷ more ≡ steps = cc in subst (Keep count) same (joined s more fits (rest more fits.1 is))

    by : Rest → (r : Result Step FaultKind) → step_of inputs count l.what ≡ r → then_steps (at_line l.line r) (λ s. steps_from inputs (count + cycles_of s) ls) ≡ Ok steps → Keep count steps
    by rest (Err kind) is e = cc
    by rest (Ok s) is e = by_rest s (step_fits inputs count l.what s widths few is) (rest s) (steps_from inputs (count + cycles_of s) ls) refl e

-- no line is left
pub steps_end : (inputs : List Port) (count : ℕ) (lines : List BenchLine) (i : ℕ) (steps : List Step) → HaveWidths inputs → length lines ≤ i
    → onto steps (steps_from inputs count (drop i lines)) ≡ steps_from inputs 0 lines → AreStepsFor inputs steps
steps_end inputs count lines i steps widths past so_far =
    let none : drop i lines ≡ [] = drop_of_length-le lines past in
    let last : onto steps (steps_from inputs count (drop i lines)) ≡ Ok steps = ap (λ (l : List BenchLine). onto steps (steps_from inputs count l)) none
    ∙ ap (λ (l : List Step). let r : Result (List Step) Fault = Ok l in r) (append-nil steps) in
    let kept = steps_fit inputs 0 lines steps widths (omega arith) (sym so_far ∙ last) in
    record { each = kept.0; few = omega (arith, kept.1) }
