-- Connections under way fit the input ports.
use Rattle.std.specs.Prelude.{◌≡◌, ℕ, List, [], ◌∷◌, Option, Some, slice_get}
use Rattle.hc_signal.specs.declared.signal.NodeId.{NodeId}
use Rattle.hc_signal.specs.declared.signal.Port.{Port}
use Rattle.hc_signal.specs.Graph.{Graph}
use Rattle.hc_signal.specs.Lawful.{HasWidth, MayHaveWidth}

-- one place for each port, and a connected one has a node of the port's width
abbrev pub FitPorts : Graph → List Port → List (Option NodeId) → Type 0
FitPorts g [] [] = Unit {0}
FitPorts g (p ∷ ps) (o ∷ os) = MayHaveWidth g o p.width × FitPorts g ps os
FitPorts g [] (o ∷ os) = ⊥
FitPorts g (p ∷ ps) [] = ⊥

-- the node has the width of the port at this place
abbrev pub FitsAt : Graph → List Port → ℕ → NodeId → Type 0
FitsAt g ins at id = (p : Port) → slice_get ins at ≡ Some p → HasWidth g id p.width
