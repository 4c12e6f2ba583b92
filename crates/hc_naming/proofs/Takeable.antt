-- Wanted names can be taken.
use Rattle.std.proofs.Common.{◌≡◌, ℕ, ◌+◌, ◌-◌, ◌<◌, ◌≤◌, ◌^◌, min, Bool, true, false, cond, List, [], ◌∷◌, ◌++◌, drop, length, filter, refl, arith, length-append}
use Rattle.std.specs.List.{zip, enumerate_from}
use Rattle.std.proofs.lemmas.List.{length-drop, length-map, length_push}
use Rattle.std.proofs.lemmas.List.FromFn.{length-enumerate_from}
use Rattle.std.proofs.lemmas.Slice.Zip.{length-zip}
use Rattle.hc_signal.specs.Graph.{Graph}
use Rattle.hc_names.specs.Mangling.{IsMangled}
use Rattle.hc_naming.specs.ModuleNames.{Named, Takes, Wants, first_number, inner_nodes, is_inner, is_operation_row, numbered_nodes, operation_nodes, want_cell, want_cells, want_input, want_inputs, want_instance, want_instances, want_memories, want_memory, want_node, want_nodes, want_output, want_outputs, wanted}

abbrev pub AreMangled : Type 0
AreMangled = (name : List ℕ) (used : List (List ℕ)) → length used < 2 ^ 64 → (result : List ℕ) × IsMangled name used result

abbrev Taken : List (List ℕ) → Wants → Type 0
Taken used wants = (given : List (Named × List ℕ)) × Takes used wants given

pub taken : AreMangled → (used : List (List ℕ)) (wants : Wants) → length used + length wants < 2 ^ 64 → Taken used wants
taken mangled used [] few = ([], tt)
taken mangled used (want ∷ wants) few =
    let one : (result : List ℕ) × IsMangled want.1 used result = mangled want.1 used (omega (arith, few)) in
    let many : length (used ++ one.0 ∷ []) ≡ length used + 1 = length_push used one.0 in
    let rest : Taken (used ++ one.0 ∷ []) wants = taken mangled (used ++ one.0 ∷ []) wants (omega (arith, few, many)) in
    ((want.0, one.0) ∷ rest.0, (refl, one.1, rest.1))

-- ---- how many names a circuit wants

filtered : {X : Type 0} (p : X → Bool) (xs : List X) → length (filter p xs) ≤ length xs
filtered p [] = omega arith
filtered p (x ∷ xs) = by (p x) (filtered p xs)
  where
    by : (b : Bool) → length (filter p xs) ≤ length xs → length (cond b (x ∷ filter p xs) (filter p xs)) ≤ length (x ∷ xs)
    by true le = omega (arith, le)
    by false le = omega (arith, le)

few_numbered : (g : Graph) → length (numbered_nodes g) ≤ length g.nodes
few_numbered g =
    let a : length (numbered_nodes g) ≡ length (drop (first_number g) g.nodes) = length-enumerate_from (first_number g) (drop (first_number g) g.nodes) in
    let b : length (drop (first_number g) g.nodes) ≡ length g.nodes - first_number g = length-drop (first_number g) g.nodes in
    omega (arith, a, b)

-- a circuit wants few names
few_wanted : (g : Graph) → length g.ports.inputs ≤ 4294967296 → length g.ports.outputs ≤ 4294967296 → length g.nodes ≤ 4294967296 → length g.memories ≤ 4294967296
    → length g.instances ≤ 4294967296 → length (wanted g) < 2 ^ 64
few_wanted g i o n m k =
    let ins : length (want_inputs g) ≡ length (enumerate_from 0 g.ports.inputs) = length-map (enumerate_from 0 g.ports.inputs) want_input in
    let ins' : length (enumerate_from 0 g.ports.inputs) ≡ length g.ports.inputs = length-enumerate_from 0 g.ports.inputs in
    let outs : length (want_outputs g) ≡ length (zip g.outputs g.ports.outputs) = length-map (zip g.outputs g.ports.outputs) want_output in
    let outs' : length (zip g.outputs g.ports.outputs) ≡ min (length g.outputs) (length g.ports.outputs) = length-zip g.outputs g.ports.outputs in
    let nodes : length (want_nodes g) ≡ length (inner_nodes g) = length-map (inner_nodes g) (want_node g) in
    let nodes' : length (inner_nodes g) ≤ length (numbered_nodes g) = filtered (is_inner g) (numbered_nodes g) in
    let cells : length (want_cells g) ≡ length (operation_nodes g) = length-map (operation_nodes g) (want_cell g) in
    let cells' : length (operation_nodes g) ≤ length (numbered_nodes g) = filtered is_operation_row (numbered_nodes g) in
    let all : length (numbered_nodes g) ≤ length g.nodes = few_numbered g in
    let mems : length (want_memories g) ≡ length (enumerate_from 0 g.memories) = length-map (enumerate_from 0 g.memories) want_memory in
    let mems' : length (enumerate_from 0 g.memories) ≡ length g.memories = length-enumerate_from 0 g.memories in
    let its : length (want_instances g) ≡ length (enumerate_from 0 g.instances) = length-map (enumerate_from 0 g.instances) want_instance in
    let its' : length (enumerate_from 0 g.instances) ≡ length g.instances = length-enumerate_from 0 g.instances in
    let a : _ = length-append (want_inputs g) (want_outputs g ++ (want_nodes g ++ (want_memories g ++ (want_instances g ++ want_cells g)))) in
    let b : _ = length-append (want_outputs g) (want_nodes g ++ (want_memories g ++ (want_instances g ++ want_cells g))) in
    let c : _ = length-append (want_nodes g) (want_memories g ++ (want_instances g ++ want_cells g)) in
    let d : _ = length-append (want_memories g) (want_instances g ++ want_cells g) in
    let e : _ = length-append (want_instances g) (want_cells g) in
    omega arith

pub taken_all : AreMangled → (g : Graph) → length g.ports.inputs ≤ 4294967296 → length g.ports.outputs ≤ 4294967296 → length g.nodes ≤ 4294967296
    → length g.memories ≤ 4294967296 → length g.instances ≤ 4294967296
    → (given : List (Named × List ℕ)) × Takes [] (wanted g) given
taken_all mangled g i o n m k = let few : length (wanted g) < 2 ^ 64 = few_wanted g i o n m k in taken mangled [] (wanted g) (omega (arith, few))
