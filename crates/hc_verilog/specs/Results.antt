-- A table of the nodes that are outputs of instances.
use Rattle.std.specs.Prelude.{◌≡◌, ℕ, ◌&&◌, ◌==◌, List, [], find, Option, option_map}
use Rattle.std.specs.Option.{option_map_or}
use Rattle.std.specs.Map.{lookup}
use Rattle.hc_signal.specs.declared.signal.NodeRow.{NodeRow}
use Rattle.hc_signal.specs.Graph.{node}
use Rattle.hc_naming.specs.ModuleNames.{Named, vertex}
use Rattle.hc_verilog.specs.Templates.{is_output_of}

-- the place of the node of an instance's output
abbrev pub result_in : List ((ℕ × ℕ) × ℕ) → ℕ → ℕ → Option ℕ
result_in entries i port = lookup (λ (key : ℕ × ℕ). (i == key.0) && (port == key.1)) entries

-- the table has the first node of each output
pub record AreResults (nodes : List (ℕ × NodeRow)) (entries : List ((ℕ × ℕ) × ℕ)) : Type 0 where
  pub right : (i port : ℕ) → result_in entries i port ≡ option_map (λ (p : ℕ × NodeRow). p.0) (find (λ (p : ℕ × NodeRow). is_output_of i port p.1.node) nodes)

-- the name of that node; nothing where there is none
unfoldable pub result_name : (Named → List ℕ) → List ((ℕ × ℕ) × ℕ) → ℕ → ℕ → List ℕ
result_name name entries i port = option_map_or (λ n. name (vertex (node n))) (result_in entries i port) []
