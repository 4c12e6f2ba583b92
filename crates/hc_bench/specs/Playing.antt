-- What a simulator did and a sink took, as the steps of a bench were played.
use Rattle.std.specs.Prelude.{◌≡◌, ℕ, List, ◌++◌, Option}
use Rattle.std.specs.Io.KnownBytes.{Appends}
use Rattle.hc_outside.specs.Moves.{AppendsFront, AppendsUpTo}
use Rattle.hc_signal.specs.declared.signal.Port.{Port}
use Rattle.hc_bench.specs.declared.kinds.Step.{Step}
use Rattle.hc_bench.specs.Listing.{CycleRow, listing}
use Rattle.hc_bench.specs.Trace.{Trace, Begins, Simulation}

-- the row of a cycle of this number that was run last
abbrev pub row_of : ℕ → Simulation → CycleRow
row_of number sim = record { cycle = number; before = sim.before; after = sim.after }

-- The steps give these rows from here, and their listing was taken.
pub record IsListed (outputs : List Port) (sim : Simulation) (steps : List Step) (old new : Option (List ℕ)) : Type 0 where
  pub rows : List CycleRow
  pub trace : Trace sim.tree sim.state sim.inputs 0 steps rows
  pub taken : Appends old new (listing outputs rows)

-- A beginning of the steps gives these rows from here, after so many cycles, and a front of their listing was taken.
pub record IsPartListed (outputs : List Port) (sim : Simulation) (count : ℕ) (steps : List Step) (old new : Option (List ℕ)) : Type 0 where
  pub front : List Step
  pub begins : Begins front steps
  pub rows : List CycleRow
  pub trace : Trace sim.tree sim.state sim.inputs count front rows
  pub taken : AppendsFront old new (listing outputs rows)

-- ---- parts of a run

-- From one place of a run, after so many cycles, these steps lead to another, with these rows: what goes on there goes on
-- from the first place.
abbrev pub LeadsTo : Simulation → ℕ → List Step → Simulation → ℕ → List CycleRow → Type 0
LeadsTo from count steps to next rows = (more : List Step) (others : List CycleRow) → Trace from.tree to.state to.inputs next more others
    → Trace from.tree from.state from.inputs count (steps ++ more) (rows ++ others)

-- The steps were played. Of the bytes that waited and the listing of their rows, all were taken but those that are left waiting.
pub record Plays (outputs : List Port) (from : Simulation) (count : ℕ) (steps : List Step) (to : Simulation) (next : ℕ) (old new : Option (List ℕ)) (waiting left : List ℕ) : Type 0 where
  pub rows : List CycleRow
  pub leads : LeadsTo from count steps to next rows
  pub tree : to.tree ≡ from.tree
  pub taken : AppendsUpTo old new (waiting ++ listing outputs rows) left

-- A beginning of the steps was played, and a front of the bytes that waited and the listing of its rows was taken.
pub record PlaysPart (outputs : List Port) (sim : Simulation) (count : ℕ) (steps : List Step) (old new : Option (List ℕ)) (waiting : List ℕ) : Type 0 where
  pub front : List Step
  pub begins : Begins front steps
  pub rows : List CycleRow
  pub trace : Trace sim.tree sim.state sim.inputs count front rows
  pub taken : AppendsFront old new (waiting ++ listing outputs rows)
