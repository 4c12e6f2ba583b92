-- When two trees are the same circuit.
use Rattle.std.specs.Prelude.{◌≡◌, ℕ, map, slice_get, option_map}
use Rattle.hc_signal.specs.Graph.{Graph, Vertex, node, mem, inst, Reached}
use Rattle.hc_signal.specs.Renumber.{Renumbering, renumber, id_by, row_by, memory_by, instance_by}
use Rattle.hc_signal.specs.Tree.{Tree, none, tree}

-- A one-to-one pairing of what the outputs of g reach with what those of h reach: `to` takes each
-- vertex of g to its partner, and `back` takes the partner to where it came from. The rows of partners
-- are equal but for the numbers in them, which are partners too.
pub record IsIsomorphism (to back : Renumbering) (g h : Graph) : Type 0 where
  pub ports : h.ports ≡ g.ports
  pub outputs : h.outputs ≡ map (id_by to) g.outputs
  pub one_to_one : (p : Vertex) → Reached g p → renumber back (renumber to p) ≡ p
  pub nodes : (n : ℕ) → Reached g (node n) → slice_get h.nodes (to.node n) ≡ option_map (row_by to) (slice_get g.nodes n)
  pub memories : (m : ℕ) → Reached g (mem m) → slice_get h.memories (to.mem m) ≡ option_map (memory_by to) (slice_get g.memories m)
  pub instances : (i : ℕ) → Reached g (inst i) → slice_get h.instances (to.inst i) ≡ option_map (instance_by to) (slice_get g.instances i)

-- The graphs are isomorphic, and the trees of paired instances are the same. What no output reaches is not compared.
abbrev pub Same : Tree → Tree → Type 0
Same none none = Unit {0}
Same none (tree h others) = ⊥
Same (tree g kids) none = ⊥
Same (tree g kids) (tree h others) =
    (to : Renumbering) × (back : Renumbering) × IsIsomorphism to back g h × ((i : ℕ) → Reached g (inst i) → Same (kids i) (others (to.inst i)))
