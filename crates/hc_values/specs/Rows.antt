-- What is kept of one circuit, and where in a tree it stands.
use Rattle.std.specs.Prelude.{◌≡◌, ℕ, List, [], map, replicate, slice_get, Option, Some, None}
use Rattle.hc_bits.specs.BitVector.{BitVector}
use Rattle.hc_signal.specs.declared.signal.NodeRow.{NodeRow}
use Rattle.hc_signal.specs.declared.signal.Memory.{Memory}
use Rattle.hc_signal.specs.Graph.{Graph}
use Rattle.hc_signal.specs.Tree.{Tree}
use Rattle.hc_signal.specs.Occurrences.{Occurrence, graph_at}

-- A value for each node, a register for each node, of which those of registers count, and words for each memory.
pub record Kept : Type 0 where
  pub values : List BitVector
  pub registers : List BitVector
  pub memories : List (List BitVector)

abbrev pub widths : List BitVector → List ℕ
widths xs = map (λ (x : BitVector). x.width) xs

abbrev pub numbers : List BitVector → List ℕ
numbers xs = map (λ (x : BitVector). x.value) xs

abbrev pub node_widths : List NodeRow → List ℕ
node_widths rows = map (λ (row : NodeRow). row.width) rows

abbrev pub memory_widths : Memory → List ℕ
memory_widths m = replicate m.size m.width

-- each list has the widths of what it stands for
pub record AreRowsOf (g : Graph) (kept : Kept) : Type 0 where
  pub values : widths kept.values ≡ node_widths g.nodes
  pub registers : widths kept.registers ≡ node_widths g.nodes
  pub memories : map widths kept.memories ≡ map memory_widths g.memories

-- the number at a place, 0 past the end
abbrev pub number_of : Option BitVector → ℕ
number_of None = 0
number_of (Some x) = x.value

abbrev pub number_at : List BitVector → ℕ → ℕ
number_at xs place = number_of (slice_get xs place)

-- the words at a place, none past the end
abbrev pub words_of : Option (List BitVector) → List BitVector
words_of None = []
words_of (Some words) = words

abbrev pub words_at : List (List BitVector) → ℕ → List BitVector
words_at memories place = words_of (slice_get memories place)

abbrev pub at_path : List ℕ → ℕ → Occurrence
at_path p n = record { path = p; node = n }

-- The circuit stands at path p of the tree, and v gives each of its nodes the value that is kept.
pub record StandsAt (t : Tree) (p : List ℕ) (v : Occurrence → ℕ) (g : Graph) (values : List BitVector) : Type 0 where
  pub circuit : graph_at t p ≡ g
  pub numbers : (n : ℕ) → v (at_path p n) ≡ number_at values n

-- ---- at the start

abbrev pub zero_of : ℕ → BitVector
zero_of width = record { width = width; value = 0 }

abbrev pub zeros_of_nodes : List NodeRow → List BitVector
zeros_of_nodes rows = map (λ (row : NodeRow). zero_of row.width) rows

abbrev pub zeros_of_memory : Memory → List BitVector
zeros_of_memory m = replicate m.size (zero_of m.width)
