-- The registers and memories of one circuit, each once.
use Rattle.std.proofs.Common.{◌≡◌, ℕ, ◌+◌, ◌<◌, true, List, [], ◌∷◌, map, length, refl, sym, subst, ap, arith}
use Rattle.std.specs.Prelude.{◌↔◌, slice_get, Option, Some, None}
use Rattle.std.specs.List.{range_with_len}
use Rattle.std.proofs.lemmas.Option.{slice_get_within}
use Rattle.hc_bits.specs.BitVector.{BitVector}
use Rattle.hc_signal.specs.Member.{Has}
use Rattle.hc_signal.specs.declared.signal.NodeId.{NodeId}
use Rattle.hc_signal.specs.declared.signal.MemId.{MemId}
use Rattle.hc_signal.specs.declared.signal.NodeRow.{NodeRow}
use Rattle.hc_signal.specs.Graph.{Graph}
use Rattle.hc_signal.specs.Occurrences.{Occurrence}
use Rattle.hc_walk.proofs.Members.{has_from_map, has_map}
use Rattle.hc_walk.proofs.Walks.{AllDifferent}
use Rattle.hc_values.specs.Rows.{at_path, number_at, numbers, words_at}
use Rattle.hc_values.specs.Edges.{is_register_row}
use Rattle.hc_hierstate.specs.States.{is_register_at, memories_in, memory_id, node_id, own_memories, own_registers, registers_in}
use Rattle.hc_hierstate.proofs.Differ.{differ_filter, differ_map, differ_range, filter_has, has_filter, has_range, key, range_has}
use Rattle.hc_hierstate.proofs.Each.{AreOwn}

module _ {K X : Type 0} (num : K → ℕ) (one : (a b : K) → num a ≡ num b → a ≡ b) (path : List ℕ) (f : ℕ → X) where
  abbrev pub pair : K → Occurrence × X
  pair id = (at_path path (num id), f (num id))

  keys : (ids : List K) → map key (map pair ids) ≡ map (λ (id : K). at_path path (num id)) ids
  keys [] = refl
  keys (id ∷ ids) = ap (λ ss. at_path path (num id) ∷ ss) (keys ids)

  pub own_pairs : (ids : List K) → AllDifferent ids → AreOwn path (map pair ids)
  own_pairs ids d = record {
    once = subst (λ ss. AllDifferent ss) (sym (keys ids)) (differ_map (λ (id : K). at_path path (num id)) (λ a b e. one a b (ap (λ (s : Occurrence). s.node) e)) ids d);
    paths = λ s h. (let u = has_from_map (λ (id : K). at_path path (num id)) ids s (subst (λ ss. Has ss s) (keys ids) h) in ap (λ (z : Occurrence). z.path) (sym u.2));
  }

pub one_node : (a b : NodeId) → a.0 ≡ b.0 → a ≡ b
one_node a b e = ap node_id e

pub one_memory : (a b : MemId) → a.0 ≡ b.0 → a ≡ b
one_memory a b e = ap memory_id e

registers_differ : (g : Graph) → AllDifferent (registers_in g)
registers_differ g =
    differ_filter (is_register_at g) (map node_id (range_with_len 0 (length g.nodes)))
    (differ_map node_id (λ a b e. ap (λ (id : NodeId). id.0) e) (range_with_len 0 (length g.nodes)) (differ_range 0 (length g.nodes)))

memories_differ : (g : Graph) → AllDifferent (memories_in g)
memories_differ g = differ_map memory_id (λ a b e. ap (λ (id : MemId). id.0) e) (range_with_len 0 (length g.memories)) (differ_range 0 (length g.memories))

pub own_registers_differ : (g : Graph) (path : List ℕ) (row : List BitVector) → AreOwn path (own_registers g path row)
own_registers_differ g path row = own_pairs (λ (id : NodeId). id.0) one_node path (number_at row) (registers_in g) (registers_differ g)

pub own_memories_differ : (g : Graph) (path : List ℕ) (row : List (List BitVector)) → AreOwn path (own_memories g path row)
own_memories_differ g path row = own_pairs (λ (id : MemId). id.0) one_memory path (λ (m : ℕ). numbers (words_at row m)) (memories_in g) (memories_differ g)

-- ---- what is listed

row_there : (o : Option NodeRow) → is_register_row o ≡ true → (row : NodeRow) × (o ≡ Some row)
row_there None e = absurd (cc)
row_there (Some row) e = (row, refl)

pub register_listed : (g : Graph) (id : NodeId) → Has (registers_in g) id ↔ (is_register_row (slice_get g.nodes id.0) ≡ true)
register_listed g id = (
  λ h. (has_filter (is_register_at g) (map node_id (range_with_len 0 (length g.nodes))) id h).1,
  λ e. filter_has (is_register_at g) (map node_id (range_with_len 0 (length g.nodes))) id (there e) e,
)
  where
    there : is_register_row (slice_get g.nodes id.0) ≡ true → Has (map node_id (range_with_len 0 (length g.nodes))) id
    there e =
        let row = row_there (slice_get g.nodes id.0) e in
        let w : id.0 < length g.nodes = slice_get_within g.nodes id.0 row.0 row.1 in
        let z : 0 + id.0 ≡ id.0 = omega arith in
        subst (λ (n : ℕ). Has (map node_id (range_with_len 0 (length g.nodes))) (node_id n)) z (has_map node_id (range_has 0 (length g.nodes) id.0 w))

pub memory_listed : (g : Graph) (id : MemId) → Has (memories_in g) id ↔ (id.0 < length g.memories)
memory_listed g id = (within, λ w. there w)
  where
    within : Has (memories_in g) id → id.0 < length g.memories
    within h =
        let u : (m : ℕ) × Has (range_with_len 0 (length g.memories)) m × (memory_id m ≡ id) = has_from_map memory_id (range_with_len 0 (length g.memories)) id h in
        let w : u.0 < 0 + length g.memories = (has_range 0 (length g.memories) u.0 u.1).1 in
        let e : u.0 ≡ id.0 = ap (λ (x : MemId). x.0) u.2 in
        omega (arith, w, e)

    there : id.0 < length g.memories → Has (memories_in g) id
    there w = let z : 0 + id.0 ≡ id.0 = omega arith in subst (λ (m : ℕ). Has (memories_in g) (memory_id m)) z (has_map memory_id (range_has 0 (length g.memories) id.0 w))
