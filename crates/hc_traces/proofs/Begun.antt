-- Runs of all steps, and of a beginning of them.
use Rattle.std.proofs.Common.{◌≡◌, ℕ, zero, suc, ◌<◌, List, [], ◌∷◌, ◌++◌, length, refl, sym, subst, ◌∙◌, ap, ap₂, append_assoc, arith}
use Rattle.std.specs.Prelude.{Option, slice_get, slice_set, Some}
use Rattle.std.proofs.lemmas.Option.{slice_get_within}
use Rattle.std.proofs.Math.ListN.{length-set}
use Rattle.hc_outside.specs.Moves.{AppendsFront}
use Rattle.hc_signal.specs.declared.signal.Port.{Port}
use Rattle.hc_signal.specs.Tree.{Tree, IsWhole}
use Rattle.hc_signal.specs.Occurrences.{Occurrence, HasCombLoop}
use Rattle.hc_bench.specs.declared.kinds.Step.{Step}
use Rattle.hc_bench.specs.declared.kinds.Step.TheVariants.{Set, Cycle, Reset}
use Rattle.hc_bench.specs.Listing.{CycleRow, listing}
use Rattle.hc_bench.specs.Playing.{IsPartListed}
use Rattle.hc_bench.specs.Simulation.{State, IsStateOf, IsSettled, clock_edge, outputs_of, reset}
use Rattle.hc_bench.specs.Steps.{IsStepFor}
use Rattle.hc_bench.specs.Trace.{IsCycle, Trace, stop, set, start, past, cycle, Begins, none, part, more, Simulation, IsSimulation}
use Rattle.hc_bench.proofs.Plays.{listing_append}
use Rattle.hc_traces.proofs.Settling.{some_settled}
use Rattle.hc_traces.proofs.Traces.{reset_state, cycle_keeps, cycle_state, cycle_before, cycle_after}

abbrev SomeRows : Tree → State → List ℕ → ℕ → List Step → Type 0
SomeRows t state inputs count steps = (rows : List CycleRow) × Trace t state inputs count steps rows

-- each value is for an input
abbrev AreWithin : List Port → List Step → Type 0
AreWithin ports steps = (k : ℕ) (step : Step) → slice_get steps k ≡ Some step → IsStepFor ports step

module _ (t : Tree) (whole : IsWhole t) (free : ¬ HasCombLoop t) where
  some_cycles : (times : ℕ) (state : State) (inputs : List ℕ) (count : ℕ) (steps : List Step) → ((s : State) (n : ℕ) → SomeRows t s inputs n steps)
      → SomeRows t state inputs count (Cycle times ∷ steps)
  some_cycles zero state inputs count steps rest = let r = rest state count in (r.0, past r.1)
  some_cycles (suc times) state inputs count steps rest =
      let v : (v : Occurrence → ℕ) × IsSettled t state inputs v = some_settled t whole free state inputs in
      let next : State = clock_edge t v.0 state in
      let w : (w : Occurrence → ℕ) × IsSettled t next inputs w = some_settled t whole free next inputs in
      let here : IsCycle t state inputs next (outputs_of t v.0) (outputs_of t w.0) = record { v = v.0; w = w.0; settled = v.1; edge = refl; settled_again = w.1; before_is = refl; after_is = refl } in
      let r : SomeRows t next inputs (suc count) (Cycle times ∷ steps) = some_cycles times next inputs (suc count) steps rest in
      (record { cycle = count; before = outputs_of t v.0; after = outputs_of t w.0 } ∷ r.0, cycle here r.1)

  pub some_rows : (ports : List Port) (steps : List Step) → AreWithin ports steps → (state : State) (inputs : List ℕ) (count : ℕ) → length inputs ≡ length ports → SomeRows t state inputs count steps
  some_rows ports [] are state inputs count many = ([], stop)
  some_rows ports (Set place x ∷ steps) are state inputs count many =
      let fits = are 0 (Set place x) refl in
      let within : place < length inputs = subst (λ n. place < n) (sym many) (slice_get_within ports place fits.0 fits.1) in
      let r : SomeRows t state (slice_set inputs place x.value) count steps = some_rows ports steps (λ k s at. are (suc k) s at) state (slice_set inputs place x.value) count
      (length-set inputs place x.value ∙ many) in
      (r.0, set within r.1)
  some_rows ports (Cycle times ∷ steps) are state inputs count many = some_cycles times state inputs count steps (λ s n. some_rows ports steps (λ k step at. are (suc k) step at) s inputs n many)
  some_rows ports (Reset ∷ steps) are state inputs count many =
      let r : SomeRows t (reset t state) inputs count steps = some_rows ports steps (λ k s at. are (suc k) s at) (reset t state) inputs count many in
      (r.0, start r.1)

  -- a beginning of the steps gives a beginning of the rows
  abbrev Extends : List CycleRow → List CycleRow → Type 0
  Extends rows all = (rest : List CycleRow) × (all ≡ rows ++ rest)

  same_row : (n : ℕ) (b c o q : List ℕ) → b ≡ c → o ≡ q → ◌≡◌ {A = CycleRow} (record { cycle = n; before = b; after = o }) (record { cycle = n; before = c; after = q })
  same_row n b c o q before after = ap₂ (λ i j. record { cycle = n; before = i; after = j }) before after

  one_longer : (row other : CycleRow) (rows all : List CycleRow) → row ≡ other → Extends rows all → Extends (row ∷ rows) (other ∷ all)
  one_longer row other rows all same (rest, is) = (rest, ap (λ (r : CycleRow). r ∷ all) (sym same) ∙ ap (λ (l : List CycleRow). row ∷ l) is)

  pub begun_rows : {state : State} {inputs : List ℕ} {count : ℕ} {front steps : List Step} {rows all : List CycleRow} → IsStateOf t state → Begins front steps
      → Trace t state inputs count front rows → Trace t state inputs count steps all → Extends rows all
  begun_rows {all = all} k none stop run = (all, refl)
  begun_rows {all = all} k (part le) (past stop) run = (all, refl)
  begun_rows k (part le) (cycle x a) (past b) = absurd (omega (arith, le))
  begun_rows {state = s} {inputs = ins} {count = n} k (part {steps = steps} le) (cycle {next = state} {before = b} {after = o} x run)
      (cycle {next = other} {before = c} {after = q} {times = times} {rows = rest} y run_too) =
      let same : other ≡ state = cycle_state t whole free s ins state other b o c q k x y in
      let u : Trace t state ins (suc n) (Cycle times ∷ steps) rest = subst (λ z. Trace t z ins (suc n) (Cycle times ∷ steps) rest) same run_too in
      one_longer _ _ _ _ (same_row n b c o q (cycle_before t whole free s ins state other b o c q x y) (cycle_after t whole free s ins state other b o c q k x y))
      (begun_rows (cycle_keeps t whole free s ins state b o k x) (part (omega (arith, le))) run u)
  begun_rows k (more begins) (set _ a) (set _ b) = begun_rows k begins a b
  begun_rows {state = s} k (more begins) (start a) (start b) = begun_rows (reset_state t s k) begins a b
  begun_rows k (more begins) (past a) (past b) = begun_rows k begins a b
  begun_rows {state = s} {inputs = ins} {count = n} k (more {steps = steps} begins) (cycle {next = state} {before = b} {after = o} x run)
      (cycle {next = other} {before = c} {after = q} {times = times} {rows = rest} y run_too) =
      let same : other ≡ state = cycle_state t whole free s ins state other b o c q k x y in
      let u : Trace t state ins (suc n) (Cycle times ∷ steps) rest = subst (λ z. Trace t z ins (suc n) (Cycle times ∷ steps) rest) same run_too in
      one_longer _ _ _ _ (same_row n b c o q (cycle_before t whole free s ins state other b o c q x y) (cycle_after t whole free s ins state other b o c q k x y))
      (begun_rows (cycle_keeps t whole free s ins state b o k x) (more begins) run u)

-- what was taken of the listing of a beginning is a front of the whole listing
pub front_of_listing : (outputs : List Port) (sim : Simulation) (steps : List Step) (rows : List CycleRow) (old new : Option (List ℕ)) → IsSimulation sim
    → Trace sim.tree sim.state sim.inputs 0 steps rows → IsPartListed outputs sim 0 steps old new → AppendsFront old new (listing outputs rows)
front_of_listing outputs sim steps rows old new is all listed =
    let more_rows : Extends sim.tree is.whole is.no_loop listed.rows rows = begun_rows sim.tree is.whole is.no_loop is.state listed.begins listed.trace all in
    longer (listing outputs more_rows.0) listed.taken (ap (listing outputs) more_rows.1 ∙ listing_append outputs listed.rows more_rows.0)
  where
    longer : (rest : List ℕ) → AppendsFront old new (listing outputs listed.rows) → listing outputs rows ≡ listing outputs listed.rows ++ rest → AppendsFront old new (listing outputs rows)
    longer rest (left, (front, parts, some)) is = (left ++ rest, (front, is ∙ ap (λ l. l ++ rest) parts ∙ append_assoc front left rest, some))
