-- The plan of a flat simulator: for each node of an order, what makes its value.
use Rattle.std.specs.Prelude.{List, [], ◌∷◌, map, slice_get, Option, Some, None}
use Rattle.hc_signal.specs.declared.signal.NodeId.{NodeId}
use Rattle.hc_signal.specs.declared.signal.NodeRow.{NodeRow}
use Rattle.hc_signal.specs.declared.signal.Node.{Node}
use Rattle.hc_signal.specs.declared.signal.Node.TheVariants.{Input, Wire, Two, Not, Mux, Select, Reg}
use Rattle.hc_signal.specs.Graph.{Graph}
use Rattle.hc_flatsim.specs.declared.plan.Make.{Make}
use Rattle.hc_flatsim.specs.declared.plan.Make.TheVariants.{Same, Binary, Complement, Part, Choice, FromPort, Held, Row}
use Rattle.hc_flatsim.specs.declared.plan.Step.{Step}

-- a multiplexer of these cases: two have a step of their own
abbrev pub choice_of : NodeId → List NodeId → Make
choice_of sel (a ∷ b ∷ []) = Choice sel a b
choice_of sel other = Row

-- what makes the value of a node
abbrev pub make_of : Node → Make
make_of (Wire (Some a)) = Same a
make_of (Two op a b) = Binary op a b
make_of (Not a) = Complement a
make_of (Select a hi lo) = Part a hi lo
make_of (Mux sel cases) = choice_of sel cases
make_of (Input port) = FromPort port
make_of (Reg next enable clear init) = Held
make_of other = Row

abbrev pub make_of_row : Option NodeRow → Make
make_of_row None = Row
make_of_row (Some row) = make_of row.node

abbrev pub step_of : Graph → NodeId → Step
step_of g id = record { id = id; make = make_of_row (slice_get g.nodes id.0) }

-- a step for each of these nodes
abbrev pub plan_of : Graph → List NodeId → List Step
plan_of g ids = map (step_of g) ids

-- the nodes that have a step
abbrev pub planned : List Step → List NodeId
planned steps = map (λ (s : Step). s.id) steps
