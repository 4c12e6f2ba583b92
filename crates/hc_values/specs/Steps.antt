-- What makes the value of a node, in short.
use Rattle.std.specs.Prelude.{◌≡◌, [], ◌∷◌, slice_get, Option, Some}
use Rattle.hc_bits.specs.BitVector.{BitVector}
use Rattle.hc_signal.specs.declared.signal.NodeId.{NodeId}
use Rattle.hc_signal.specs.declared.signal.NodeRow.{NodeRow}
use Rattle.hc_signal.specs.declared.signal.Node.{Node}
use Rattle.hc_signal.specs.declared.signal.Node.TheVariants.{Input, Wire, Two, Not, Mux, Select, Reg}
use Rattle.hc_signal.specs.Graph.{Graph}
use Rattle.hc_values.specs.declared.step.Make.{Make}
use Rattle.hc_values.specs.declared.step.Make.TheVariants.{Same, Binary, Complement, Part, Choice, FromPort, Held, Row}
use Rattle.hc_values.specs.declared.step.Step.{Step}

abbrev pub IsRegisterNode : Node → Type 0
IsRegisterNode x = (next : NodeId) × (enable : Option NodeId) × (clear : Option (NodeId × BitVector)) × (init : BitVector) × (x ≡ Reg next enable clear init)

abbrev pub IsNoInput : Node → Type 0
IsNoInput (Input port) = ⊥
IsNoInput other = Unit {0}

-- what is said of a node is so
abbrev pub IsMadeBy : Node → Make → Type 0
IsMadeBy x (Same a) = x ≡ Wire (Some a)
IsMadeBy x (Binary op a b) = x ≡ Two op a b
IsMadeBy x (Complement a) = x ≡ Not a
IsMadeBy x (Part a hi lo) = x ≡ Select a hi lo
IsMadeBy x (Choice sel a b) = x ≡ Mux sel (a ∷ b ∷ [])
IsMadeBy x (FromPort port) = x ≡ Input port
IsMadeBy x Held = IsRegisterNode x
IsMadeBy x Row = IsNoInput x

-- the node of the step is there, and made so
abbrev pub IsStepOf : Graph → Step → Type 0
IsStepOf g s = (row : NodeRow) × (slice_get g.nodes s.id.0 ≡ Some row) × IsMadeBy row.node s.make
