-- The text of the module of a flattened circuit.
use Rattle.std.specs.Prelude.{ℕ, List, []}
use Rattle.hc_signal.specs.Graph.{Graph}
use Rattle.hc_signal.specs.Tree.{Tree, leaf}
use Rattle.hc_signal.specs.FlatGraph.{IsFlat}
use Rattle.hc_verilog.specs.ModuleText.{IsTreeText}

-- the module of the flat graph of a tree, under a title
abbrev pub IsFlatText : Tree → List ℕ → List ℕ → Type 0
IsFlatText t title text = (g : Graph) × IsFlat t g × IsTreeText (leaf g) (λ i. []) title text
