-- Renumbered rows: no change, one renumbering after another, and rows whose fan-in keeps its numbers.
use Rattle.std.proofs.Common.{◌≡◌, ℕ, List, [], ◌∷◌, ◌++◌, map, refl, sym, ◌∙◌, ap, ap₂, map-id}
use Rattle.std.specs.Prelude.{slice_get, Option, Some, None, option_map}
use Rattle.hc_signal.specs.Member.{Has, first, later}
use Rattle.hc_walk.proofs.Members.{has_left, has_right}
use Rattle.hc_signal.specs.declared.signal.NodeId.{NodeId}
use Rattle.hc_signal.specs.declared.signal.NodeRow.{NodeRow}
use Rattle.hc_signal.specs.declared.signal.Node.{Node}
use Rattle.hc_signal.specs.declared.signal.Node.TheVariants.{Input, Wire, Const, Two, Not, Mux, Cat, Select, Reg, Read, InstOut, Op}
use Rattle.hc_signal.specs.declared.signal.Memory.{Memory}
use Rattle.hc_signal.specs.declared.signal.WritePort.{WritePort}
use Rattle.hc_signal.specs.declared.signal.Instance.{Instance}
use Rattle.hc_bits.specs.BitVector.{BitVector}
use Rattle.hc_signal.specs.Graph.{Graph, Vertex, node, mem, inst, fanin, fanin_of_node, fanin_of_row, fanin_of_memory, fanin_of_instance, fanin_of_writes, nodes_of, node_of, optional_node, clear_node}
use Rattle.hc_signal.specs.Renumber.{Renumbering, renumber, id_by, clear_by, node_by, row_by, write_by, memory_by, instance_by}

-- the renumbering that changes nothing
abbrev pub same_numbers : Renumbering
same_numbers = record { node = λ n. n; mem = λ n. n; inst = λ n. n }

-- one renumbering and then another
abbrev pub then : Renumbering → Renumbering → Renumbering
then r s = record { node = λ n. s.node (r.node n); mem = λ n. s.mem (r.mem n); inst = λ n. s.inst (r.inst n) }

option_map_same : {X : Type 0} (f : X → X) (o : Option X) → ((x : X) → f x ≡ x) → option_map f o ≡ o
option_map_same f None h = refl
option_map_same f (Some x) h = ap Some (h x)

node_same : (x : Node) → node_by same_numbers x ≡ x
node_same (Input port) = refl
node_same (Wire None) = refl
node_same (Wire (Some d)) = refl
node_same (Const value) = refl
node_same (Two op a b) = refl
node_same (Not a) = refl
node_same (Mux sel cases) = ap (λ l. Mux sel l) (map-id cases)
node_same (Cat parts) = ap Cat (map-id parts)
node_same (Select a hi lo) = refl
node_same (Reg next enable clear init) =
    ap₂ (λ e c. Reg next e c init) (option_map_same (id_by same_numbers) enable (λ _. refl)) (option_map_same (clear_by same_numbers) clear (λ _. refl))
node_same (Read m addr) = refl
node_same (InstOut i port) = refl
node_same (Op kind args) = ap (Op kind) (map-id args)

pub row_same : (o : Option NodeRow) → o ≡ option_map (row_by same_numbers) o
row_same None = refl
row_same (Some row) = ap (λ x. Some (record { width = row.width; node = x; label = row.label })) (sym (node_same row.node))

pub memory_same : (o : Option Memory) → o ≡ option_map (memory_by same_numbers) o
memory_same None = refl
memory_same (Some m) = ap (λ x. Some (record { size = m.size; width = m.width; writes = x; label = m.label })) (sym (map-id m.writes))

pub instance_same : (o : Option Instance) → o ≡ option_map (instance_by same_numbers) o
instance_same None = refl
instance_same (Some i) = ap (λ x. Some (record { ports = i.ports; conns = x; label = i.label })) (sym (map-id i.conns))

pub renumber_same : (p : Vertex) → renumber same_numbers p ≡ p
renumber_same (node n) = refl
renumber_same (mem n) = refl
renumber_same (inst n) = refl

-- one renumbering after another, on rows
pub ids_then : (r s : Renumbering) (ids : List NodeId) → map (id_by s) (map (id_by r) ids) ≡ map (id_by (then r s)) ids
ids_then r s [] = refl
ids_then r s (id ∷ ids) = ap (λ l. id_by (then r s) id ∷ l) (ids_then r s ids)

option_then : {X : Type 0} (f g k : X → X) (o : Option X) → ((x : X) → g (f x) ≡ k x) → option_map g (option_map f o) ≡ option_map k o
option_then f g k None h = refl
option_then f g k (Some x) h = ap Some (h x)

node_then : (r s : Renumbering) (x : Node) → node_by s (node_by r x) ≡ node_by (then r s) x
node_then r s (Input port) = refl
node_then r s (Wire driver) = ap Wire (option_then (id_by r) (id_by s) (id_by (then r s)) driver (λ _. refl))
node_then r s (Const value) = refl
node_then r s (Two op a b) = refl
node_then r s (Not a) = refl
node_then r s (Mux sel cases) = ap (Mux (id_by (then r s) sel)) (ids_then r s cases)
node_then r s (Cat parts) = ap Cat (ids_then r s parts)
node_then r s (Select a hi lo) = refl
node_then r s (Reg next enable clear init) =
    ap₂ (λ e c. Reg (id_by (then r s) next) e c init) (option_then (id_by r) (id_by s) (id_by (then r s)) enable (λ _. refl))
    (option_then (clear_by r) (clear_by s) (clear_by (then r s)) clear (λ _. refl))
node_then r s (Read m addr) = refl
node_then r s (InstOut i port) = refl
node_then r s (Op kind args) = ap (Op kind) (ids_then r s args)

pub row_then : (r s : Renumbering) (o : Option NodeRow) → option_map (row_by s) (option_map (row_by r) o) ≡ option_map (row_by (then r s)) o
row_then r s None = refl
row_then r s (Some row) = ap (λ x. Some (record { width = row.width; node = x; label = row.label })) (node_then r s row.node)

writes_then : (r s : Renumbering) (ws : List WritePort) → map (write_by s) (map (write_by r) ws) ≡ map (write_by (then r s)) ws
writes_then r s [] = refl
writes_then r s (w ∷ ws) = ap (λ l. write_by (then r s) w ∷ l) (writes_then r s ws)

pub memory_then : (r s : Renumbering) (o : Option Memory) → option_map (memory_by s) (option_map (memory_by r) o) ≡ option_map (memory_by (then r s)) o
memory_then r s None = refl
memory_then r s (Some m) = ap (λ x. Some (record { size = m.size; width = m.width; writes = x; label = m.label })) (writes_then r s m.writes)

pub instance_then : (r s : Renumbering) (o : Option Instance) → option_map (instance_by s) (option_map (instance_by r) o) ≡ option_map (instance_by (then r s)) o
instance_then r s None = refl
instance_then r s (Some i) = ap (λ x. Some (record { ports = i.ports; conns = x; label = i.label })) (ids_then r s i.conns)

pub renumber_then : (r s : Renumbering) (p : Vertex) → renumber s (renumber r p) ≡ renumber (then r s) p
renumber_then r s (node n) = refl
renumber_then r s (mem n) = refl
renumber_then r s (inst n) = refl

-- a renumbering that leaves the fan-in of a row leaves the row
abbrev pub Fixes : Renumbering → List Vertex → Type 0
Fixes r ps = (p : Vertex) → Has ps p → renumber r p ≡ p

fixes_head : (r : Renumbering) (p : Vertex) (ps : List Vertex) → Fixes r (p ∷ ps) → renumber r p ≡ p
fixes_head r p ps f = f p (first)

fixes_rest : (r : Renumbering) (p : Vertex) (ps : List Vertex) → Fixes r (p ∷ ps) → Fixes r ps
fixes_rest r p ps f q c = f q (later c)

fixes_left : (r : Renumbering) (ps qs : List Vertex) → Fixes r (ps ++ qs) → Fixes r ps
fixes_left r ps qs f q c = f q (has_left qs c)

fixes_right : (r : Renumbering) (ps qs : List Vertex) → Fixes r (ps ++ qs) → Fixes r qs
fixes_right r ps qs f q c = f q (has_right ps c)

abbrev pub number : Vertex → ℕ
number (node n) = n
number (mem n) = n
number (inst n) = n

id_fixed : (r : Renumbering) (id : NodeId) → renumber r (node_of id) ≡ node_of id → id_by r id ≡ id
id_fixed r id e = ap (λ p. record { 0 = number p }) e

pub ids_fixed : (r : Renumbering) (ids : List NodeId) → Fixes r (nodes_of ids) → map (id_by r) ids ≡ ids
ids_fixed r [] f = refl
ids_fixed r (id ∷ ids) f = ap₂ (λ x xs. x ∷ xs) (id_fixed r id (fixes_head r (node_of id) (nodes_of ids) f)) (ids_fixed r ids (fixes_rest r (node_of id) (nodes_of ids) f))

enable_fixed : (r : Renumbering) (o : Option NodeId) → Fixes r (optional_node o) → option_map (id_by r) o ≡ o
enable_fixed r None f = refl
enable_fixed r (Some id) f = ap Some (id_fixed r id (fixes_head r (node_of id) [] f))

clear_fixed : (r : Renumbering) (o : Option (NodeId × BitVector)) → Fixes r (clear_node o) → option_map (clear_by r) o ≡ o
clear_fixed r None f = refl
clear_fixed r (Some c) f = ap (λ id. Some (id, c.1)) (id_fixed r c.0 (fixes_head r (node_of c.0) [] f))

node_fixed : (r : Renumbering) (x : Node) → Fixes r (fanin_of_node x) → node_by r x ≡ x
node_fixed r (Input port) f = refl
node_fixed r (Wire driver) f = ap Wire (enable_fixed r driver f)
node_fixed r (Const value) f = refl
node_fixed r (Two op a b) f = ap₂ (Two op) (id_fixed r a (fixes_head r (node_of a) (node_of b ∷ []) f)) (id_fixed r b (fixes_head r (node_of b) [] (fixes_rest r (node_of a) (node_of b ∷ []) f)))
node_fixed r (Not a) f = ap Not (id_fixed r a (fixes_head r (node_of a) [] f))
node_fixed r (Mux sel cases) f = ap₂ Mux (id_fixed r sel (fixes_head r (node_of sel) (nodes_of cases) f)) (ids_fixed r cases (fixes_rest r (node_of sel) (nodes_of cases) f))
node_fixed r (Cat parts) f = ap Cat (ids_fixed r parts f)
node_fixed r (Select a hi lo) f = ap (λ x. Select x hi lo) (id_fixed r a (fixes_head r (node_of a) [] f))
node_fixed r (Reg next enable clear init) f =
    let n : id_by r next ≡ next = id_fixed r next (fixes_head r (node_of next) (optional_node enable ++ clear_node clear) f) in
    let rest : Fixes r (optional_node enable ++ clear_node clear) = fixes_rest r (node_of next) (optional_node enable ++ clear_node clear) f in
    ap (λ x. Reg x (option_map (id_by r) enable) (option_map (clear_by r) clear) init) n
    ∙ ap₂ (λ e c. Reg next e c init) (enable_fixed r enable (fixes_left r (optional_node enable) (clear_node clear) rest))
    (clear_fixed r clear (fixes_right r (optional_node enable) (clear_node clear) rest))
node_fixed r (Read m addr) f =
    ap₂ Read (ap (λ p. record { 0 = number p }) (fixes_head r (mem m.0) [] (fixes_rest r (node_of addr) (mem m.0 ∷ []) f))) (id_fixed r addr (fixes_head r (node_of addr) (mem m.0 ∷ []) f))
node_fixed r (InstOut i port) f = ap (λ x. InstOut (record { 0 = number x }) port) (fixes_head r (inst i.0) [] f)
node_fixed r (Op kind args) f = ap (Op kind) (ids_fixed r args f)

pub row_fixed : (r : Renumbering) (o : Option NodeRow) → Fixes r (fanin_of_row o) → option_map (row_by r) o ≡ o
row_fixed r None f = refl
row_fixed r (Some row) f = ap (λ x. Some (record { width = row.width; node = x; label = row.label })) (node_fixed r row.node f)

writes_fixed : (r : Renumbering) (ws : List WritePort) → Fixes r (fanin_of_writes ws) → map (write_by r) ws ≡ ws
writes_fixed r [] f = refl
writes_fixed r (w ∷ ws) f =
    let e : Fixes r (node_of w.addr ∷ node_of w.value ∷ fanin_of_writes ws) = fixes_rest r (node_of w.enable) _ f in
    let a : Fixes r (node_of w.value ∷ fanin_of_writes ws) = fixes_rest r (node_of w.addr) _ e in
    ap₂ (λ x xs. x ∷ xs)
    (ap (λ x. record { enable = x; addr = id_by r w.addr; value = id_by r w.value }) (id_fixed r w.enable (fixes_head r _ _ f))
    ∙ ap₂ (λ x y. record { enable = w.enable; addr = x; value = y }) (id_fixed r w.addr (fixes_head r _ _ e)) (id_fixed r w.value (fixes_head r _ _ a)))
    (writes_fixed r ws (fixes_rest r (node_of w.value) _ a))

pub memory_fixed : (r : Renumbering) (o : Option Memory) → Fixes r (fanin_of_memory o) → option_map (memory_by r) o ≡ o
memory_fixed r None f = refl
memory_fixed r (Some m) f = ap (λ x. Some (record { size = m.size; width = m.width; writes = x; label = m.label })) (writes_fixed r m.writes f)

pub instance_fixed : (r : Renumbering) (o : Option Instance) → Fixes r (fanin_of_instance o) → option_map (instance_by r) o ≡ o
instance_fixed r None f = refl
instance_fixed r (Some i) f = ap (λ x. Some (record { ports = i.ports; conns = x; label = i.label })) (ids_fixed r i.conns f)
