-- A bench has a row for each of its cycles.
use Rattle.std.proofs.Common.{◌≡◌, ℕ, suc, List, length, refl, arith}
use Rattle.std.specs.Prelude.{sum_by}
use Rattle.std.proofs.lemmas.List.Sums.{sum_by-cons}
use Rattle.hc_signal.specs.Tree.{Tree}
use Rattle.hc_bench.specs.declared.kinds.Step.{Step}
use Rattle.hc_bench.specs.declared.kinds.Step.TheVariants.{Set, Cycle, Reset}
use Rattle.hc_bench.specs.Listing.{CycleRow}
use Rattle.hc_bench.specs.Simulation.{State}
use Rattle.hc_bench.specs.Steps.{cycles_of}
use Rattle.hc_bench.specs.Trace.{Trace, stop, set, start, past, cycle, IsRun}

module _ (t : Tree) where
  rows_many : {state : State} {inputs : List ℕ} {count : ℕ} {steps : List Step} {rows : List CycleRow} → Trace t state inputs count steps rows → length rows ≡ sum_by cycles_of steps
  rows_many stop = refl
  rows_many (set {port = port} {x = x} {steps = steps} lt more) = let n = rows_many more in let s = sum_by-cons cycles_of (Set port x) steps in omega (arith, n, s)
  rows_many (start {steps = steps} more) = let n = rows_many more in let s = sum_by-cons cycles_of Reset steps in omega (arith, n, s)
  rows_many (past {steps = steps} more) = let n = rows_many more in let s = sum_by-cons cycles_of (Cycle 0) steps in omega (arith, n, s)
  rows_many (cycle {times = times} {steps = steps} one more) =
      let n = rows_many more in
      let s = sum_by-cons cycles_of (Cycle times) steps in
      let r = sum_by-cons cycles_of (Cycle (suc times)) steps in
      omega (arith, n, s, r)

pub run_rows : (t : Tree) (steps : List Step) (rows : List CycleRow) → IsRun t steps rows → length rows ≡ sum_by cycles_of steps
run_rows t steps rows (state, initial, trace) = rows_many t trace
