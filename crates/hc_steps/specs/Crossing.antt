-- An instance that two ways lead through one after the other: an example of plans.
use Rattle.std.specs.Prelude.{List, [], ◌∷◌, Some, None}
use Rattle.hc_signal.specs.declared.signal.NodeRow.{NodeRow}
use Rattle.hc_signal.specs.declared.signal.Node.{Node}
use Rattle.hc_signal.specs.declared.signal.Node.TheVariants.{Input, Wire, Not, InstOut}
use Rattle.hc_signal.specs.Graph.{Graph}
use Rattle.hc_steps.specs.Plan.{make, take, pass, run, Part, id_of}

abbrev pub bit_row : Node → NodeRow
bit_row x = record { width = 1; node = x; label = None }

-- two inputs, each inverted
abbrev pub child : Graph
child = record {
  ports = record { inputs = []; outputs = [] };
  outputs = id_of 0 ∷ id_of 3 ∷ [];
  nodes = bit_row (Wire (Some (id_of 1))) ∷ bit_row (Not (id_of 2)) ∷ bit_row (Input 0) ∷ bit_row (Wire (Some (id_of 4))) ∷ bit_row (Not (id_of 5)) ∷ bit_row (Input 1) ∷ [];
  memories = [];
  instances = [];
}

-- the first output leads to the second input
abbrev pub parent : Graph
parent = record {
  ports = record { inputs = []; outputs = [] };
  outputs = id_of 0 ∷ [];
  nodes = bit_row (Wire (Some (id_of 1))) ∷ bit_row (InstOut (record { 0 = 0 }) 1) ∷ bit_row (Input 0) ∷ bit_row (Wire (Some (id_of 4))) ∷ bit_row (InstOut (record { 0 = 0 }) 0) ∷ [];
  memories = [];
  instances = record { ports = record { inputs = []; outputs = [] }; conns = id_of 2 ∷ id_of 3 ∷ []; label = None } ∷ [];
}

abbrev pub child_plan : List Part
child_plan = record { needs = 1; steps = make 1 ∷ make 0 ∷ [] } ∷ record { needs = 2; steps = make 4 ∷ make 3 ∷ [] } ∷ []

abbrev pub parent_plan : List Part
parent_plan = record { needs = 1; steps = pass 2 0 0 ∷ run 0 0 ∷ take 4 0 0 ∷ make 3 ∷ pass 3 0 1 ∷ run 0 1 ∷ take 1 0 1 ∷ make 0 ∷ [] } ∷ []
