-- What names mean: ports, nodes, memories and instances share one table.
use Rattle.std.specs.Prelude.{ℕ, Bool, ◌&&◌, List, Option, Some, None, ℤ}
use Rattle.std.specs.Map.{lookup}
use Rattle.std.specs.Option.{option_eq}
use Rattle.std.specs.Ordering.{int_eq}
use Rattle.std.specs.Str.{bytes_eq}
use Rattle.hc_signal.specs.declared.signal.NodeId.{NodeId}
use Rattle.hc_signal.specs.declared.signal.MemId.{MemId}
use Rattle.hc_signal.specs.declared.signal.InstId.{InstId}
use Rattle.hc_signal.specs.Graph.{Graph}
use Rattle.hc_signal.specs.Member.{Has}
use Rattle.hc_signal.specs.Builds.{IsNode, IsMemory, IsInstance}
pub use Rattle.hc_unfold.specs.declared.names.Target.{Target}
use Rattle.hc_unfold.specs.declared.names.Target.TheVariants as target

-- a name's bytes and its index, where it has one: `x` and `x[0]` are different
abbrev pub Key : Type 0
Key = List ℕ × Option ℤ

abbrev pub same_key : Key → Key → Bool
same_key a b = bytes_eq a.0 b.0 && option_eq int_eq a.1 b.1

-- names and what they mean, in the order in which they were given
abbrev pub Names : Type 0
Names = List (Key × Target)

abbrev pub meaning : Names → Key → Option Target
meaning names key = lookup (same_key key) names

-- ---- what a name means, if it is of one kind

abbrev pub as_node : Option Target → Option NodeId
as_node (Some (target.Node id)) = Some id
as_node (Some (target.Memory id)) = None
as_node (Some (target.Instance id)) = None
as_node None = None

abbrev pub as_memory : Option Target → Option MemId
as_memory (Some (target.Memory id)) = Some id
as_memory (Some (target.Node id)) = None
as_memory (Some (target.Instance id)) = None
as_memory None = None

abbrev pub as_instance : Option Target → Option InstId
as_instance (Some (target.Instance id)) = Some id
as_instance (Some (target.Node id)) = None
as_instance (Some (target.Memory id)) = None
as_instance None = None

-- ---- names of a graph

-- it stands in the graph
abbrev pub IsThere : Graph → Target → Type 0
IsThere g (target.Node id) = IsNode g id
IsThere g (target.Memory id) = IsMemory g id
IsThere g (target.Instance id) = IsInstance g id

-- each name means something of the graph
abbrev pub AreKnown : Graph → Names → Type 0
AreKnown g names = (n : Key × Target) → Has names n → IsThere g n.1
