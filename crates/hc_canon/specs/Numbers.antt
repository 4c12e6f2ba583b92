-- The order of a walk, and the tables of new numbers.
use Rattle.std.specs.Prelude.{◌≡◌, ℕ, suc, List, [], ◌∷◌, get_or}
use Rattle.std.proofs.Math.ListN.{set}
use Rattle.hc_canon.specs.declared.numbers.Order.{Order}
use Rattle.hc_canon.specs.declared.numbers.Numbers.{Numbers}
use Rattle.hc_signal.specs.declared.signal.NodeRow.{NodeRow}
use Rattle.hc_signal.specs.declared.signal.Node.{Node}
use Rattle.hc_signal.specs.declared.signal.Node.TheVariants.{Input}
use Rattle.hc_signal.specs.Graph.{Graph, Vertex}
use Rattle.hc_signal.specs.Renumber.{Renumbering}
use Rattle.hc_canon.specs.Numbering.{nodes_met, memories_met, instances_met}

-- what a walk met, kind by kind
pub record IsOrderOf (g : Graph) (end : List Vertex) (order : Order) : Type 0 where
  pub nodes : order.nodes.items ≡ nodes_met g end
  pub memories : order.memories.items ≡ memories_met end
  pub instances : order.instances.items ≡ instances_met end

-- the number of an input is its port
abbrev pub port_of : Node → ℕ
port_of (Input port) = port
port_of other = 0

abbrev pub input_number : NodeRow → ℕ
input_number row = port_of row.node

-- the table with the numbers a, a + 1 and so on at these places
abbrev pub numbered : List ℕ → ℕ → List ℕ → List ℕ
numbered table a [] = table
numbered table a (n ∷ ns) = numbered (set table n a) (suc a) ns

abbrev pub by_tables : List ℕ → List ℕ → List ℕ → Renumbering
by_tables ns ms is = record { node = λ n. get_or ns n 0; mem = λ m. get_or ms m 0; inst = λ i. get_or is i 0 }

abbrev pub renumbering : Numbers → Renumbering
renumbering numbers = by_tables numbers.nodes.items numbers.memories.items numbers.instances.items
