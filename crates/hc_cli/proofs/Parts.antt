-- The parts of a fault line.
use Rattle.std.proofs.Common.{◌≡◌, ℕ, List, ◌++◌, append_assoc, sym, ◌∙◌}
use Rattle.std.specs.Prelude.{codes, decimal}
use Rattle.hc_fault.specs.declared.fault.Fault.{Fault}
use Rattle.hc_cli.specs.FaultLine.{fault_line, kind_text, path_text}

-- up to the path
abbrev pub front_text : Fault → List ℕ
front_text f = kind_text f.kind ++ codes " line " ++ decimal f.line ++ codes " path "

pub line_parts : (f : Fault) → fault_line f ≡ front_text f ++ (path_text f.path ++ codes "\n")
line_parts f = append_assoc (front_text f) (path_text f.path) (codes "\n")

-- the pieces of the front, one after another
pub front_pieces : (kind line : List ℕ) → kind ++ (codes " line " ++ (line ++ codes " path ")) ≡ kind ++ codes " line " ++ line ++ codes " path "
front_pieces kind line = sym (append_assoc (kind ++ codes " line ") line (codes " path ") ∙ append_assoc kind (codes " line ") (line ++ codes " path "))
