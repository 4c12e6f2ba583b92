-- The rules that each elaborated circuit meets, and the first that a circuit breaks.
use Rattle.std.specs.Prelude.{◌≡◌, ℕ, ◌<◌, ◌≤◌, ◌⊎◌, [], length, None}
use Rattle.hc_signal.specs.declared.signal.Node.TheVariants.{Wire}
use Rattle.hc_signal.specs.Graph.{Graph, node, Reached}
use Rattle.hc_signal.specs.Lawful.{NodeAt}

-- a reached wire without a driver
abbrev pub IsUndriven : Graph → ℕ → Type 0
IsUndriven g n = Reached g (node n) × NodeAt g n (Wire None)

pub record IsChecked (g : Graph) : Type 0 where
  pub outputs : 1 ≤ length g.ports.outputs
  pub few_inputs : length g.ports.inputs ≤ 128
  pub few_outputs : length g.ports.outputs ≤ 128
  pub driven : (n : ℕ) → Reached g (node n) → NodeAt g n (Wire None) → ⊥

-- the rules, in the order in which they are tried
pub data Rule : Type 0 where
  some_output : Rule
  few_ports : Rule
  all_driven : Rule

abbrev pub HasPorts : Graph → Type 0
HasPorts g = (1 ≤ length g.ports.outputs) × (length g.ports.outputs ≤ 128) × (length g.ports.inputs ≤ 128)

-- The first broken rule, and a place: 0; the place 128 among the inputs, where they are too many, else among the
-- outputs; the least reached wire without a driver.
abbrev pub Breaks : Graph → Rule → ℕ → Type 0
Breaks g some_output k = (g.ports.outputs ≡ []) × (k ≡ 0)
Breaks g few_ports k = (1 ≤ length g.ports.outputs) × ((128 < length g.ports.inputs) ⊎ (128 < length g.ports.outputs)) × (k ≡ 128)
Breaks g all_driven k = HasPorts g × IsUndriven g k × ((j : ℕ) → j < k → ¬ IsUndriven g j)
