-- The steps of a design's bench, or the first fault of its lines.
use Rattle.std.specs.Prelude.{◌≡◌, ℕ, ◌+◌, ◌^◌, ◌≤◌, ◌==◌, ◌&&◌, nat_lt, nat_le, if◌then◌else◌, List, [], ◌∷◌, sum_by, position, slice_get, Option, Some, None, Result, Ok, Err, pos, negsuc, nat_abs}
use Rattle.std.specs.Str.{bytes_eq}
use Rattle.hc_fault.specs.declared.fault.Fault.{Fault}
use Rattle.hc_fault.specs.declared.fault.FaultKind.{FaultKind}
use Rattle.hc_fault.specs.declared.fault.FaultKind.TheVariants as fault
use Rattle.hc_lines.specs.declared.tree.BenchValue.{BenchValue}
use Rattle.hc_lines.specs.declared.tree.BenchValue.TheVariants.{Plain, Sized}
use Rattle.hc_lines.specs.declared.tree.BenchWhat.{BenchWhat}
use Rattle.hc_lines.specs.declared.tree.BenchWhat.TheVariants as line
use Rattle.hc_lang.specs.declared.tree.BenchLine.{BenchLine}
use Rattle.hc_lang.specs.declared.tree.Design.{Design}
use Rattle.hc_bits.specs.BitVector.{BitVector, IsVector, from_i64}
use Rattle.hc_signal.specs.declared.signal.Port.{Port}
use Rattle.hc_signal.specs.declared.signal.Ports.{Ports}
use Rattle.hc_bench.specs.declared.kinds.Step.{Step}
use Rattle.hc_bench.specs.declared.kinds.Step.TheVariants.{Set, Cycle, Reset}

-- ---- one line

-- the value in w bits: a number by its bit pattern, a literal of this width where it fits
abbrev pub value_in : ℕ → BenchValue → Option BitVector
value_in w (Plain n) = from_i64 w n
value_in w (Sized (pos v) x) = if (v == w) && nat_lt x (2 ^ w) then Some (record { width = w; value = x }) else None
value_in w (Sized (negsuc v) x) = None

-- the step to a value that the port has
abbrev pub step_to : ℕ → Option BitVector → Result Step FaultKind
step_to place None = Err fault.BenchValue
step_to place (Some x) = Ok (Set place x)

abbrev pub set_port : ℕ → BenchValue → Option Port → Result Step FaultKind
set_port place value None = Err fault.BenchPort
set_port place value (Some port) = step_to place (value_in port.width value)

abbrev pub set_at : List Port → BenchValue → Option ℕ → Result Step FaultKind
set_at inputs value None = Err fault.BenchPort
set_at inputs value (Some place) = set_port place value (slice_get inputs place)

abbrev pub input_place : List ℕ → List Port → Option ℕ
input_place name inputs = position (λ (p : Port). bytes_eq p.name name) inputs

-- The step of a line after this many cycles, or its first fault. A text has no negative count of cycles.
abbrev pub step_of : List Port → ℕ → BenchWhat → Result Step FaultKind
step_of inputs count (line.Set name value) = set_at inputs value (input_place name inputs)
step_of inputs count (line.Cycle times) = if nat_le (count + nat_abs times) 1000000 then Ok (Cycle (nat_abs times)) else Err fault.TooManyCycles
step_of inputs count line.Reset = Ok Reset

-- ---- all lines

abbrev pub cycles_of : Step → ℕ
cycles_of (Cycle times) = times
cycles_of other = 0

-- a fault of a line has no path
abbrev pub at_line : ℕ → Result Step FaultKind → Result Step Fault
at_line n (Ok step) = Ok step
at_line n (Err kind) = Err (record { kind = kind; line = n; path = None })

abbrev pub before : Step → Result (List Step) Fault → Result (List Step) Fault
before step (Ok steps) = Ok (step ∷ steps)
before step (Err f) = Err f

abbrev pub then_steps : Result Step Fault → (Step → Result (List Step) Fault) → Result (List Step) Fault
then_steps (Ok step) more = before step (more step)
then_steps (Err f) more = Err f

-- the steps of the lines after this many cycles, or the first fault
abbrev pub steps_from : List Port → ℕ → List BenchLine → Result (List Step) Fault
steps_from inputs count [] = Ok []
steps_from inputs count (l ∷ ls) = then_steps (at_line l.line (step_of inputs count l.what)) (λ step. steps_from inputs (count + cycles_of step) ls)

-- the steps of a design's bench for these ports of its top, or the first fault
abbrev pub steps_of : Design → Ports → Result (List Step) Fault
steps_of design ports = steps_from ports.inputs 0 design.bench

-- ---- what steps keep to

-- a value of the port at a place, of its width
abbrev pub IsPortValue : List Port → ℕ → BitVector → Type 0
IsPortValue ports place x = (p : Port) × (slice_get ports place ≡ Some p) × IsVector x p.width

abbrev pub IsStepFor : List Port → Step → Type 0
IsStepFor inputs (Set place x) = IsPortValue inputs place x
IsStepFor inputs other = Unit {0}

-- Each value is for an input, of its width, and the cycles are not too many in all.
pub record AreStepsFor (inputs : List Port) (steps : List Step) : Type 0 where
  pub each : (k : ℕ) (step : Step) → slice_get steps k ≡ Some step → IsStepFor inputs step
  pub few : sum_by cycles_of steps ≤ 1000000
