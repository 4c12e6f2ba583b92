-- What a function of the program answered, against what the definition gives.
use Rattle.std.specs.Prelude.{◌≡◌, ℕ, ◌≤◌, ◌<◌, length, slice_get, Some, Result, Ok, Err}
use Rattle.hc_signal.specs.declared.signal.NodeRow.{NodeRow}
use Rattle.hc_fault.specs.declared.fault.FaultKind.{FaultKind}
use Rattle.hc_signal.specs.declared.stop.BuildStop.{BuildStop}
use Rattle.hc_signal.specs.declared.stop.BuildStop.TheVariants.{Fault, NoMemory}
use Rattle.hc_signal.specs.Graph.{Graph}
use Rattle.hc_signal.specs.Weight.{graph_weight}

-- the fault is the one that the definition gives; want of memory says nothing
abbrev pub Stops : {Y : Type 0} → BuildStop → Result Y FaultKind → Type 0
Stops (Fault kind) given = given ≡ Err kind
Stops NoMemory given = Unit {0}

-- the answer, seen by view, is what the definition gives, unless memory ran out
abbrev pub Gives : {X Y : Type 0} → (X → Y) → Result X BuildStop → Result Y FaultKind → Type 0
Gives view (Ok x) given = given ≡ Ok (view x)
Gives view (Err stop) given = Stops stop given

-- nodes were added at the end, and nothing else
pub record Grows (old new : Graph) : Type 0 where
  pub nodes : length old.nodes ≤ length new.nodes
  pub rows : (n : ℕ) (row : NodeRow) → slice_get old.nodes n ≡ Some row → slice_get new.nodes n ≡ Some row
  pub memories : new.memories ≡ old.memories
  pub instances : new.instances ≡ old.instances

-- room for one node more, and for one memory or instance
pub record HasRoom (g : Graph) : Type 0 where
  pub light : graph_weight g < 2147483648
  pub nodes : length g.nodes ≤ graph_weight g
  pub memories : length g.memories ≤ graph_weight g
  pub instances : length g.instances ≤ graph_weight g
