-- A table of the names in a module, and the names that it has while they are taken.
use Rattle.std.specs.Prelude.{◌≡◌, ℕ, List, [], ◌∷◌, ◌++◌, map, length, slice_get, slice_set, Option, Some, None, unwrap_or, Bool, true, false, if◌then◌else◌, codes}
use Rattle.hc_signal.specs.declared.signal.NodeRow.{NodeRow}
use Rattle.hc_signal.specs.Graph.{Graph, node, mem, inst}
use Rattle.hc_names.specs.Mangling.{IsMangled}
use Rattle.hc_naming.specs.declared.names.ModuleNames.{ModuleNames}
use Rattle.hc_naming.specs.ModuleNames.{Named, clock, vertex, cell, Wants, wanted, Takes, name_in, want_inputs, want_outputs, want_nodes, want_memories, want_instances, want_cells, is_output}

-- the name in a slot, where there is one
abbrev pub slot_name : Option (Option (List ℕ)) → List ℕ
slot_name None = []
slot_name (Some None) = []
slot_name (Some (Some name)) = name

unfoldable pub name_at : List (Option (List ℕ)) → ℕ → List ℕ
name_at slots k = slot_name (slice_get slots k)

-- the name that a table gives
unfoldable pub name_by : ModuleNames → Named → List ℕ
name_by names clock = codes "clock"
name_by names (vertex (node n)) = name_at names.nodes.items n
name_by names (vertex (mem m)) = name_at names.memories.items m
name_by names (vertex (inst i)) = name_at names.instances.items i
name_by names (cell n) = name_at names.cells.items n

-- a table with slots for what a circuit has
pub record HasRoom (g : Graph) (names : ModuleNames) : Type 0 where
  pub nodes : length names.nodes.items ≡ length g.nodes
  pub memories : length names.memories.items ≡ length g.memories
  pub instances : length names.instances.items ≡ length g.instances
  pub cells : length names.cells.items ≡ length g.nodes

-- no slot has a name
pub record IsEmptyTable (names : ModuleNames) : Type 0 where
  pub nodes : (k : ℕ) → name_at names.nodes.items k ≡ []
  pub memories : (k : ℕ) → name_at names.memories.items k ≡ []
  pub instances : (k : ℕ) → name_at names.instances.items k ≡ []
  pub cells : (k : ℕ) → name_at names.cells.items k ≡ []

-- the mangled form of a wanted name goes into a slot
pub record IsFilled (want : List ℕ) (used used' : List (List ℕ)) (slots slots' : List (Option (List ℕ))) (at : ℕ) : Type 0 where
  pub given : List ℕ
  pub mangled : IsMangled want used given
  pub added : used' ≡ used ++ given ∷ []
  pub set : slots' ≡ slice_set slots at (Some given)

-- All wanted names but the rest are taken, and the table has those.
pub record IsNaming (g : Graph) (used : List (List ℕ)) (names : ModuleNames) (rest : Wants) : Type 0 where
  pub done : Wants
  pub given : List (Named × List ℕ)
  pub parts : done ++ rest ≡ wanted g
  pub takes : Takes [] done given
  pub used_is : used ≡ map (λ (p : Named × List ℕ). p.1) given
  pub named : (it : Named) → name_by names it ≡ name_in given it
  pub room : HasRoom g names

-- ---- what is wanted from a kind on

abbrev pub from_instances : Graph → Wants
from_instances g = want_instances g ++ want_cells g

abbrev pub from_memories : Graph → Wants
from_memories g = want_memories g ++ from_instances g

abbrev pub from_nodes : Graph → Wants
from_nodes g = want_nodes g ++ from_memories g

abbrev pub from_outputs : Graph → Wants
from_outputs g = want_outputs g ++ from_nodes g

abbrev pub from_inputs : Graph → Wants
from_inputs g = want_inputs g ++ from_outputs g

-- ---- the whole table, and the marks of the outputs

-- the table has the names that are taken for the circuit
abbrev pub HasNames : Graph → ModuleNames → Type 0
HasNames g names = (given : List (Named × List ℕ)) × Takes [] (wanted g) given × (name_by names ≡ name_in given)

abbrev pub mark_at : List Bool → ℕ → Bool
mark_at marks n = unwrap_or (slice_get marks n) false

-- the nodes with a mark are the outputs
pub record AreMarks (g : Graph) (marks : List Bool) : Type 0 where
  pub right : (n : ℕ) → mark_at marks n ≡ is_output g n

abbrev pub is_unmarked : List Bool → ℕ × NodeRow → Bool
is_unmarked marks p = if mark_at marks p.0 then false else true
