-- Runs of a bench, step after step.
use Rattle.std.proofs.Common.{◌≡◌, ℕ, zero, suc, ◌+◌, ◌<◌, ◌≤◌, List, [], ◌∷◌, ◌++◌, take, drop, length, get_or, map, inl, inr, refl, sym, ap, subst, ◌∙◌, append_assoc, append-nil, arith, add-one, add-zero, drop-cons}
use Rattle.std.proofs.lemmas.Grind.{flat_map-append}
use Rattle.std.proofs.lemmas.List.{map-append}
use Rattle.std.proofs.KnownBytes.{Appends-trans}
use Rattle.std.specs.Prelude.{Option, Result, Ok, Err, OnOk, OnErr, slice_set, sum_by}
use Rattle.std.proofs.lemmas.Option.{slice_get_cases}
use Rattle.std.proofs.lemmas.List.Sums.{sum_by-cons}
use Rattle.std.proofs.lemmas.List.{take-append-drop, take_all}
use Rattle.std.proofs.Math.Seq.{take-suc}
use Rattle.std.specs.Io.KnownBytes.{Appends}
use Rattle.hc_outside.specs.Moves.{AppendsFront, AppendsUpTo}
use Rattle.hc_bits.specs.Digits.{lines_text}
use Rattle.hc_bits.specs.BitVector.{BitVector}
use Rattle.hc_signal.specs.declared.signal.Port.{Port}
use Rattle.hc_signal.specs.Tree.{Tree}
use Rattle.hc_bench.specs.declared.kinds.Step.{Step}
use Rattle.hc_bench.specs.declared.kinds.Step.TheVariants.{Set, Cycle, Reset}
use Rattle.hc_bench.specs.Listing.{CycleRow, row_text, listing}
use Rattle.hc_bench.specs.Playing.{row_of, IsListed, IsPartListed, LeadsTo, Plays, PlaysPart}
use Rattle.hc_bench.specs.Simulation.{State, reset}
use Rattle.hc_bench.specs.Steps.{cycles_of, IsPortValue, IsStepFor}
use Rattle.hc_bench.specs.Trace.{IsCycle, Trace, stop, set, start, past, cycle, Begins, none, part, more, Simulation, RunsCycle}
use Rattle.hc_bench.proofs.Pieces.{queue_none, queue_more, queue_front, front_behind}

-- a cycle more at the end of cycles
one_more : {t : Tree} {state : State} {inputs : List ℕ} {count : ℕ} {steps : List Step} {rows : List CycleRow} (k : ℕ)
    → Trace t state inputs count (Cycle k ∷ Cycle (suc zero) ∷ steps) rows → Trace t state inputs count (Cycle (suc k) ∷ steps) rows
one_more zero (past run) = run
one_more (suc k) (cycle is run) = cycle is (one_more k run)

-- a trace in a tree that is the same, from a state and inputs that are the same
trace_in : (s t : Tree) (state : State) (inputs others : List ℕ) (count : ℕ) (steps : List Step) (rows : List CycleRow) → s ≡ t → inputs ≡ others
    → Trace s state inputs count steps rows → Trace t state others count steps rows
trace_in s t state inputs others count steps rows same equal run = subst (λ (i : List ℕ). Trace t state i count steps rows) equal (subst (λ (u : Tree). Trace u state inputs count steps rows) same run)

cycle_in : (s t : Tree) (state next : State) (inputs before after : List ℕ) → s ≡ t → IsCycle s state inputs next before after → IsCycle t state inputs next before after
cycle_in s t state next inputs before after same is = subst (λ (u : Tree). IsCycle u state inputs next before after) same is

-- ---- listings

pub listing_append : (outputs : List Port) (rows others : List CycleRow) → listing outputs (rows ++ others) ≡ listing outputs rows ++ listing outputs others
listing_append outputs rows others = ap lines_text (map-append (row_text outputs) rows others) ∙ flat_map-append (λ (line : List ℕ). line ++ 10 ∷ []) (map (row_text outputs) rows)
    (map (row_text outputs) others)

listing_one : (outputs : List Port) (row : CycleRow) → listing outputs (row ∷ []) ≡ row_text outputs row ++ 10 ∷ []
listing_one outputs row = append-nil (row_text outputs row ++ 10 ∷ [])

-- the listing of more rows was handed on
taken_more : (outputs : List Port) (rows others : List CycleRow) (a b c : Option (List ℕ)) (waiting middle left : List ℕ)
    → AppendsUpTo a b (waiting ++ listing outputs rows) middle → AppendsUpTo b c (middle ++ listing outputs others) left
    → AppendsUpTo a c (waiting ++ listing outputs (rows ++ others)) left
taken_more outputs rows others a b c waiting middle left first last = subst (λ (l : List ℕ). AppendsUpTo a c (waiting ++ l) left) (sym (listing_append outputs rows others))
    (queue_more a b c waiting middle left (listing outputs rows) (listing outputs others) first last)

-- a front of the listing of more rows was taken
cut_more : (outputs : List Port) (rows others : List CycleRow) (a b c : Option (List ℕ)) (waiting middle : List ℕ)
    → AppendsUpTo a b (waiting ++ listing outputs rows) middle → AppendsFront b c (middle ++ listing outputs others)
    → AppendsFront a c (waiting ++ listing outputs (rows ++ others))
cut_more outputs rows others a b c waiting middle first last = subst (λ (l : List ℕ). AppendsFront a c (waiting ++ l)) (sym (listing_append outputs rows others))
    (queue_front a b c waiting middle (listing outputs rows) (listing outputs others) first last)

-- ---- steps that were played

pub plays_none : (outputs : List Port) (sim : Simulation) (count : ℕ) (a : Option (List ℕ)) (w : List ℕ) → Plays outputs sim count [] sim count a a w w
plays_none outputs sim count a w = record { rows = []; leads = λ ahead others run. run; tree = refl; taken = queue_none a w }

pub plays_no_cycle : (outputs : List Port) (sim : Simulation) (count : ℕ) (a : Option (List ℕ)) (w : List ℕ) → Plays outputs sim count (Cycle 0 ∷ []) sim (count + 0) a a w w
plays_no_cycle outputs sim count a w = subst (λ (n : ℕ). Plays outputs sim count (Cycle 0 ∷ []) sim n a a w w) (sym (add-zero count))
    (record { rows = []; leads = λ ahead others run. past run; tree = refl; taken = queue_none a w })

-- steps without rows
pub plays_set : (outputs : List Port) (from to : Simulation) (count place : ℕ) (x : BitVector) (a : Option (List ℕ)) (w : List ℕ) → place < length from.inputs
    → to ≡ record from { inputs = slice_set from.inputs place x.value } → Plays outputs from count (Set place x ∷ []) to (count + 0) a a w w
plays_set outputs from to count place x a w within is =
    let changed : Simulation = record from { inputs = slice_set from.inputs place x.value } in
    let here : Plays outputs from count (Set place x ∷ []) changed count a a w w = record { rows = []; leads = λ ahead others run. set within run; tree = refl; taken = queue_none a w } in
    subst (λ (s : Simulation). Plays outputs from count (Set place x ∷ []) s (count + 0) a a w w) (sym is)
    (subst (λ (n : ℕ). Plays outputs from count (Set place x ∷ []) changed n a a w w) (sym (add-zero count)) here)

pub plays_reset : (outputs : List Port) (from to : Simulation) (count : ℕ) (a : Option (List ℕ)) (w : List ℕ) → to ≡ record from { state = reset from.tree from.state }
    → Plays outputs from count (Reset ∷ []) to (count + 0) a a w w
plays_reset outputs from to count a w is =
    let changed : Simulation = record from { state = reset from.tree from.state } in
    let here : Plays outputs from count (Reset ∷ []) changed count a a w w = record { rows = []; leads = λ ahead others run. start run; tree = refl; taken = queue_none a w } in
    subst (λ (s : Simulation). Plays outputs from count (Reset ∷ []) s (count + 0) a a w w) (sym is)
    (subst (λ (n : ℕ). Plays outputs from count (Reset ∷ []) changed n a a w w) (sym (add-zero count)) here)

-- ---- one cycle more

module _ (outputs : List Port) (from mid to : Simulation) (count next k : ℕ) (a b c : Option (List ℕ)) (u v w : List ℕ)
    (so_far : Plays outputs from count (Cycle k ∷ []) mid next a b u v) (run : RunsCycle mid to) where
  abbrev row : CycleRow
  row = row_of next to

  cycle_leads : LeadsTo from count (Cycle (suc k) ∷ []) to (suc next) (so_far.rows ++ row ∷ [])
  cycle_leads ahead others rest =
      let after : Trace from.tree to.state mid.inputs (suc next) ahead others = trace_in from.tree from.tree to.state to.inputs mid.inputs (suc next) ahead others refl run.inputs rest in
      let here : Trace from.tree mid.state mid.inputs next (Cycle (suc zero) ∷ ahead) (row ∷ others) = cycle
      (cycle_in mid.tree from.tree mid.state to.state mid.inputs to.before to.after so_far.tree run.cycle) (past after) in
      let led : Trace from.tree from.state from.inputs count (Cycle (suc k) ∷ ahead) (so_far.rows ++ (row ∷ others)) = one_more k (so_far.leads (Cycle (suc zero) ∷ ahead) (row ∷ others) here) in
      subst (Trace from.tree from.state from.inputs count (Cycle (suc k) ∷ ahead)) (sym (append_assoc so_far.rows (row ∷ []) others)) led

  pub plays_cycle : (last after : ℕ) → last ≡ suc k → after ≡ suc next → AppendsUpTo b c (v ++ (row_text outputs (row_of next to) ++ 10 ∷ [])) w
      → Plays outputs from count (Cycle last ∷ []) to after a c u w
  plays_cycle last after one_last one_after sent =
      let line : AppendsUpTo b c (v ++ listing outputs (row ∷ [])) w = subst (λ (l : List ℕ). AppendsUpTo b c (v ++ l) w) (sym (listing_one outputs row)) sent in
      let here : Plays outputs from count (Cycle (suc k) ∷ []) to (suc next) a c u w = record {
        rows = so_far.rows ++ row ∷ [];
        leads = cycle_leads;
        tree = run.tree
            ∙ so_far.tree;
        taken = taken_more outputs so_far.rows (row ∷ []) a b c u v w so_far.taken line;
      } in
      subst (λ (n : ℕ). Plays outputs from count (Cycle n ∷ []) to after a c u w) (sym one_last) (subst (λ (n : ℕ). Plays outputs from count (Cycle (suc k) ∷ []) to n a c u w) (sym one_after) here)

  -- its line was not taken whole
  pub cycle_cut : (times : ℕ) → suc k ≤ times → AppendsFront b c (v ++ (row_text outputs (row_of next to) ++ 10 ∷ [])) → PlaysPart outputs from count (Cycle times ∷ []) a c u
  cycle_cut times within sent =
      let line : AppendsFront b c (v ++ listing outputs (row ∷ [])) = subst (λ (l : List ℕ). AppendsFront b c (v ++ l)) (sym (listing_one outputs row)) sent in
      record {
        front = Cycle (suc k) ∷ [];
        begins = part within;
        rows = so_far.rows ++ row ∷ [];
        trace = subst (Trace from.tree from.state from.inputs count (Cycle (suc k) ∷ [])) (append-nil (so_far.rows ++ row ∷ [])) (cycle_leads [] [] stop);
        taken = cut_more outputs so_far.rows (row ∷ []) a b c u v so_far.taken line;
      }

-- ---- one step more

pub plays_step : (outputs : List Port) (from mid to : Simulation) (count middle next : ℕ) (steps : List Step) (step : Step) (a b c : Option (List ℕ)) (u v w : List ℕ)
    → Plays outputs from count steps mid middle a b u v → Plays outputs mid middle (step ∷ []) to next b c v w
    → Plays outputs from count (steps ++ step ∷ []) to next a c u w
plays_step outputs from mid to count middle next steps step a b c u v w first last = record {
  rows = first.rows ++ last.rows;
  leads = leads;
  tree = last.tree ∙ first.tree;
  taken = taken_more outputs first.rows last.rows a b c u v w first.taken last.taken;
}
  where
    leads : LeadsTo from count (steps ++ step ∷ []) to next (first.rows ++ last.rows)
    leads ahead others run =
        let there : Trace mid.tree mid.state mid.inputs middle (step ∷ ahead) (last.rows ++ others) = last.leads ahead others
        (trace_in from.tree mid.tree to.state to.inputs to.inputs next ahead others (sym first.tree) refl run) in
        let all : Trace from.tree from.state from.inputs count (steps ++ (step ∷ ahead)) (first.rows ++ (last.rows ++ others)) = first.leads (step ∷ ahead) (last.rows ++ others)
        (trace_in mid.tree from.tree mid.state mid.inputs mid.inputs middle (step ∷ ahead) (last.rows ++ others) first.tree refl there) in
        subst (λ (l : List Step). Trace from.tree from.state from.inputs count l ((first.rows ++ last.rows) ++ others)) (sym (append_assoc steps (step ∷ []) ahead))
        (subst (Trace from.tree from.state from.inputs count (steps ++ (step ∷ ahead))) (sym (append_assoc first.rows last.rows others)) all)

begins_none : {front : List Step} (rest : List Step) → Begins front [] → Begins front rest
begins_none rest none = none

begins_longer : {front : List Step} {step : Step} (rest : List Step) → Begins front (step ∷ []) → Begins front (step ∷ rest)
begins_longer rest none = none
begins_longer rest (part le) = part le
begins_longer rest (more begins) = more (begins_none rest begins)

begins_after : (steps rest : List Step) {front : List Step} {step : Step} → Begins front (step ∷ []) → Begins (steps ++ front) (steps ++ step ∷ rest)
begins_after [] rest begins = begins_longer rest begins
begins_after (s ∷ steps) rest begins = more (begins_after steps rest begins)

-- a step that was not played whole
pub step_cut : (outputs : List Port) (from mid : Simulation) (count middle : ℕ) (steps rest : List Step) (step : Step) (a b c : Option (List ℕ)) (u v : List ℕ)
    → Plays outputs from count steps mid middle a b u v → PlaysPart outputs mid middle (step ∷ []) b c v → PlaysPart outputs from count (steps ++ step ∷ rest) a c u
step_cut outputs from mid count middle steps rest step a b c u v first last = record {
  front = steps ++ last.front;
  begins = begins_after steps rest last.begins;
  rows = first.rows ++ last.rows;
  trace = first.leads last.front last.rows (trace_in mid.tree from.tree mid.state mid.inputs mid.inputs middle last.front last.rows first.tree refl last.trace);
  taken = cut_more outputs first.rows last.rows a b c u v first.taken last.taken;
}

-- all steps were played
played_trace : (outputs : List Port) (from to : Simulation) (next : ℕ) (steps : List Step) (a b : Option (List ℕ)) (u v : List ℕ) (played : Plays outputs from 0 steps to next a b u v)
    → Trace from.tree from.state from.inputs 0 steps played.rows
played_trace outputs from to next steps a b u v played = subst (λ (l : List Step). Trace from.tree from.state from.inputs 0 l played.rows) (append-nil steps)
    (subst (Trace from.tree from.state from.inputs 0 (steps ++ [])) (append-nil played.rows) (played.leads [] [] stop))

begins_all : (steps : List Step) → Begins steps steps
begins_all [] = none
begins_all (s ∷ steps) = more (begins_all steps)

-- the rest of the listing was taken
rest_taken : (a b c : Option (List ℕ)) (bytes rest : List ℕ) → AppendsUpTo a b bytes rest → Appends b c rest → Appends a c bytes
rest_taken a b c bytes rest (front, whole, first) last = subst (Appends a c) (sym whole) (Appends-trans a b c front rest first last)

-- a front of the rest was taken
rest_cut : (a b c : Option (List ℕ)) (bytes rest : List ℕ) → AppendsUpTo a b bytes rest → AppendsFront b c rest → AppendsFront a c bytes
rest_cut a b c bytes rest (front, whole, first) last = subst (AppendsFront a c) (sym whole) (front_behind a b c front rest first last)

all_listed : (outputs : List Port) (from to : Simulation) (next : ℕ) (steps : List Step) (a b c : Option (List ℕ)) (v : List ℕ)
    → Plays outputs from 0 steps to next a b [] v → Appends b c v → IsListed outputs from steps a c
all_listed outputs from to next steps a b c v played last = record {
  rows = played.rows;
  trace = played_trace outputs from to next steps a b [] v played;
  taken = rest_taken a b c (listing outputs played.rows) v played.taken last;
}

-- all steps were played, and the last bytes were not taken whole
all_part_listed : (outputs : List Port) (from to : Simulation) (next : ℕ) (steps : List Step) (a b c : Option (List ℕ)) (v : List ℕ)
    → Plays outputs from 0 steps to next a b [] v → AppendsFront b c v → IsPartListed outputs from 0 steps a c
all_part_listed outputs from to next steps a b c v played last = record {
  front = steps;
  begins = begins_all steps;
  rows = played.rows;
  trace = played_trace outputs from to next steps a b [] v played;
  taken = rest_cut a b c (listing outputs played.rows) v played.taken last;
}

-- bytes did not wait at the start
part_listed : (outputs : List Port) (sim : Simulation) (count : ℕ) (steps : List Step) (a b : Option (List ℕ)) → PlaysPart outputs sim count steps a b [] → IsPartListed outputs sim count steps a b
part_listed outputs sim count steps a b begun = record { front = begun.front; begins = begun.begins; rows = begun.rows; trace = begun.trace; taken = begun.taken }

-- ---- along the list of steps

pub input_within : (ports : List Port) (inputs : List ℕ) (step : Step) (place : ℕ) (x : BitVector) → step ≡ Set place x → IsStepFor ports step → length inputs ≡ length ports → place < length inputs
input_within ports inputs step place x is fits many =
    let port : IsPortValue ports place x = subst (IsStepFor ports) is fits in
    subst (λ (n : ℕ). place < n) (sym many) (elim (slice_get_cases ports place).1 [
      | inl (p, within, at, get) ↦ within
      | inr (beyond, empty) ↦ cc
    ])

item_at : (items : List Step) (i : ℕ) (step : Step) → i < length items → step ≡ get_or items i step → drop i items ≡ step ∷ drop (i + 1) items
item_at items i step within item = rw add-one (drop-cons items i step within ∙ ap (λ (s : Step). s ∷ drop (suc i) items) (sym item))

taken_one : (items : List Step) (i : ℕ) (step : Step) → i < length items → step ≡ get_or items i step → take (i + 1) items ≡ take i items ++ step ∷ []
taken_one items i step within item = rw add-one (take-suc items i step within ∙ ap (λ (s : Step). take i items ++ s ∷ []) (sym item))

pub play_more : (outputs : List Port) (from mid to : Simulation) (middle times : ℕ) (items : List Step) (i : ℕ) (step : Step) (a b c : Option (List ℕ)) (u v w : List ℕ)
    → i < length items → step ≡ get_or items i step → times ≡ cycles_of step → Plays outputs from 0 (take i items) mid middle a b u v
    → Plays outputs mid middle (step ∷ []) to (middle + cycles_of step) b c v w → Plays outputs from 0 (take (i + 1) items) to (middle + times) a c u w
play_more outputs from mid to middle times items i step a b c u v w within item is first last =
    subst (λ (n : ℕ). Plays outputs from 0 (take (i + 1) items) to (middle + n) a c u w) (sym is)
    (subst (λ (l : List Step). Plays outputs from 0 l to (middle + cycles_of step) a c u w) (sym (taken_one items i step within item))
    (plays_step outputs from mid to 0 middle (middle + cycles_of step) (take i items) step a b c u v w first last))

pub few_more : (items : List Step) (i : ℕ) (step : Step) (count times most : ℕ) → i < length items → step ≡ get_or items i step → times ≡ cycles_of step
    → count + sum_by cycles_of (drop i items) ≤ most → count + times + sum_by cycles_of (drop (i + 1) items) ≤ most
few_more items i step count times most within item is few =
    let sum : sum_by cycles_of (drop i items) ≡ cycles_of step + sum_by cycles_of (drop (i + 1) items) = ap (sum_by cycles_of) (item_at items i step within item)
    ∙ sum_by-cons cycles_of step (drop (i + 1) items) in
    omega (arith, sum, few, is)

pub play_cut : (outs outputs : List Port) (from mid : Simulation) (middle : ℕ) (all items : List Step) (i : ℕ) (step : Step) (a b c : Option (List ℕ)) (u v : List ℕ)
    → outs ≡ outputs → items ≡ all → i < length items → step ≡ get_or items i step → u ≡ [] → Plays outs from 0 (take i items) mid middle a b u v
    → PlaysPart outs mid middle (step ∷ []) b c v → IsPartListed outputs from 0 all a c
play_cut outs outputs from mid middle all items i step a b c u v same whole within item empty first last =
    let parts : take i items ++ step ∷ drop (i + 1) items ≡ items = ap (λ (l : List Step). take i items ++ l) (sym (item_at items i step within item)) ∙ take-append-drop i items in
    let cut : PlaysPart outs from 0 (take i items ++ step ∷ drop (i + 1) items) a c u = step_cut outs from mid 0 middle (take i items) (drop (i + 1) items) step a b c u v first last in
    let here : IsPartListed outs from 0 (take i items ++ step ∷ drop (i + 1) items) a c = part_listed outs from 0 (take i items ++ step ∷ drop (i + 1) items) a c
    (subst (PlaysPart outs from 0 (take i items ++ step ∷ drop (i + 1) items) a c) empty cut) in
    subst (λ (l : List Step). IsPartListed outputs from 0 l a c) (parts ∙ whole) (subst (λ (ps : List Port). IsPartListed ps from 0 (take i items ++ step ∷ drop (i + 1) items) a c) same here)

module _ (outs outputs : List Port) (from to : Simulation) (next : ℕ) (all items : List Step) (i : ℕ) (a b c : Option (List ℕ)) (u v : List ℕ) (same : outs ≡ outputs)
    (whole : items ≡ all) (beyond : length items ≤ i) (empty : u ≡ []) (so_far : Plays outs from 0 (take i items) to next a b u v) where
  played : Plays outs from 0 (take i items) to next a b [] v
  played = subst (λ (l : List ℕ). Plays outs from 0 (take i items) to next a b l v) empty so_far

  listed : Appends b c v → IsListed outputs from all a c
  listed last = subst (λ (l : List Step). IsListed outputs from l a c) (take_all i items beyond ∙ whole)
      (subst (λ (ps : List Port). IsListed ps from (take i items) a c) same (all_listed outs from to next (take i items) a b c v played last))

  part_of_all : AppendsFront b c v → IsPartListed outputs from 0 all a c
  part_of_all last = subst (λ (l : List Step). IsPartListed outputs from 0 l a c) (take_all i items beyond ∙ whole)
      (subst (λ (ps : List Port). IsPartListed ps from 0 (take i items) a c) same (all_part_listed outs from to next (take i items) a b c v played last))

  pub play_end : {T E : Type 0} (result : Result T E) → OnOk result (Appends b c v) → OnOk result (IsListed outputs from all a c)
  play_end (Ok x) last = listed last
  play_end (Err e) last = tt

  pub play_end_cut : {T E : Type 0} (result : Result T E) → OnErr result (AppendsFront b c v) → OnErr result (IsPartListed outputs from 0 all a c)
  play_end_cut (Ok x) last = tt
  play_end_cut (Err e) last = part_of_all last

pub on_err : {T E P : Type 0} (result : Result T E) → P → OnErr result P
on_err (Ok x) p = tt
on_err (Err e) p = p
