-- The calls whose modules can be written.
use Rattle.std.specs.Prelude.{◌≡◌, ℕ, ◌≤◌, List, length, slice_get, Some}
use Rattle.hc_signal.specs.declared.signal.Instance.{Instance}
use Rattle.hc_signal.specs.Lawful.{IsLawful}
use Rattle.hc_signal.specs.Member.{Has}
use Rattle.hc_signal.specs.Tree.{graph, kid}
use Rattle.hc_names.specs.Naming.{NamedTree}

-- The circuit of the call is lawful, with ports whose numbers have 32 bits; each of its instances has the tree of a call.
pub record IsWritable (calls : List NamedTree) (call : NamedTree) : Type 0 where
  pub lawful : IsLawful (graph call.tree)
  pub few_inputs : length (graph call.tree).ports.inputs ≤ 4294967296
  pub few_outputs : length (graph call.tree).ports.outputs ≤ 4294967296
  pub kids : (i : ℕ) (it : Instance) → slice_get (graph call.tree).instances i ≡ Some it → (other : NamedTree) × Has calls other × (other.tree ≡ kid call.tree i)
