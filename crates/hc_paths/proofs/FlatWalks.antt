-- The loops over flat nodes are the loops over all occurrences.
use Rattle.std.proofs.Common.{◌≡◌, ℕ, ◌<◌, ◌⊎◌, Bool, true, false, List, [], ◌∷◌, length, refl, ◌∙◌, ap, inl, inr, arith}
use Rattle.std.specs.Prelude.{slice_get, Option, Some, None}
use Rattle.hc_signal.specs.Member.{Has}
use Rattle.hc_signal.specs.declared.signal.NodeId.{NodeId}
use Rattle.hc_signal.specs.declared.signal.NodeRow.{NodeRow}
use Rattle.hc_signal.specs.declared.signal.Node.{Node}
use Rattle.hc_signal.specs.declared.signal.Node.TheVariants.{Input, Wire, Const, Two, Not, Mux, Cat, Select, Reg, Read, InstOut, Op}
use Rattle.hc_signal.specs.Graph.{Vertex, node, inst, Reached}
use Rattle.hc_signal.specs.Tree.{Tree, none, tree, graph, kid, IsWhole}
use Rattle.hc_signal.specs.Occurrences.{Occurrence, tree_at, graph_at, IsFlatNode, is_port_alias, ResolvesTo, itself, passed, FlatLeads, stay, go, HasFlatLoop, comb_fanin, CombStep, inside, down, up, CombPath, here, on, HasCombLoop, IsReachedPath}
use Rattle.hc_walk.proofs.Members.{has_slice}
use Rattle.hc_walk.proofs.InRange.{HasRow, reached_row}
use Rattle.hc_paths.proofs.Composed.{path_then, step_reached}

-- a reached occurrence
abbrev pub IsAt : Tree → List ℕ → ℕ → Type 0
IsAt t p n = IsReachedPath t p × Reached (graph_at t p) (node n)

-- Below a whole tree each reached tree is whole.
whole_kid : (s : Tree) → IsWhole s → (i : ℕ) → Reached (graph s) (inst i) → IsWhole (kid s i)
whole_kid none w i r = absurd w
whole_kid (tree g kids) w i r = let x : HasRow g (inst i) = reached_row g w.0 r in (w.1 i x.0 x.1).1

pub whole_at : (t : Tree) → IsWhole t → (p : List ℕ) → IsReachedPath t p → IsWhole (tree_at t p)
whole_at t w [] r = w
whole_at t w (i ∷ p) r = whole_kid (tree_at t p) (whole_at t w p r.0) i r.1

resolved_path : (t : Tree) {p q : List ℕ} {n m : ℕ} → ResolvesTo t p n q m → CombPath t p n q m
resolved_path t (itself f) = here
resolved_path t (passed x y e s w) = on s (resolved_path t w)

flat_path : (t : Tree) {p q : List ℕ} {n m : ℕ} → FlatLeads t p n q m → CombPath t p n q m
flat_path t stay = here
flat_path t (go f s w v) = on s (path_then t (resolved_path t w) (flat_path t v))

pub loop_from_flat : (t : Tree) → HasFlatLoop t → HasCombLoop t
loop_from_flat t x = (x.0, x.1, x.3.0, x.4, path_then t (resolved_path t x.5) (flat_path t x.6))

-- what an occurrence stands for, on a path to a flat node
abbrev Stop : Tree → List ℕ → ℕ → List ℕ → ℕ → Type 0
Stop t p n q m = (r : List ℕ) × (k : ℕ) × ResolvesTo t p n r k × FlatLeads t r k q m

stop_more : (t : Tree) (p : List ℕ) (n : ℕ) (r : List ℕ) (k : ℕ) (q : List ℕ) (m : ℕ) (b : Bool) (row : NodeRow) → IsAt t p n → slice_get (graph_at t p).nodes n ≡ Some row → is_port_alias p row.node ≡ b → CombStep t p n r k → Stop t r k q m → Stop t p n q m
stop_more t p n r k q m true row a e f s u = (u.0, u.1, passed row.node (row, e, refl) f s u.2, u.3)
stop_more t p n r k q m false row a e f s u = (p, n, itself (a, (row, e, f)), go (a, (row, e, f)) s u.2 u.3)

abbrev RowOf : Tree → List ℕ → ℕ → Type 0
RowOf t p n = (row : NodeRow) × (slice_get (graph_at t p).nodes n ≡ Some row)

row_of_step : (t : Tree) {p q : List ℕ} {n m : ℕ} → CombStep t p n q m → RowOf t p n
row_of_step t (inside x y h) = (y.0, y.1)
row_of_step t (down port y o) = (y.0, y.1)
row_of_step t (up port y o) = (y.0, y.1)

stop_at : (t : Tree) {p q : List ℕ} {n m : ℕ} → IsAt t p n → IsFlatNode t (record { path = q; node = m }) → CombPath t p n q m → Stop t p n q m
stop_at t {p} {n = n} a f here = (p, n, itself f, stay)
stop_at t {p} {q} {n} {m} a f (on {mid = r} {k = k} s w) =
    let x : RowOf t p n = row_of_step t s in
    stop_more t p n r k q m (is_port_alias p x.0.node) x.0 a x.1 refl s (stop_at t (step_reached t s a) f w)

-- a closed walk comes past a flat node
flat_inside : (x : Node) (p : List ℕ) (id : NodeId) → Has (comb_fanin x) id → is_port_alias p x ≡ false
flat_inside (Input port) p id h = elim h [ ]
flat_inside (Wire driver) p id h = refl
flat_inside (Const value) p id h = refl
flat_inside (Two op a b) p id h = refl
flat_inside (Not a) p id h = refl
flat_inside (Mux sel cases) p id h = refl
flat_inside (Cat fanin) p id h = refl
flat_inside (Select a hi lo) p id h = refl
flat_inside (Reg next enable clear init) p id h = refl
flat_inside (Read m addr) p id h = refl
flat_inside (InstOut i port) p id h = elim h [ ]
flat_inside (Op kind args) p id h = refl

wire_flat : (s : Tree) → IsWhole s → (p : List ℕ) (port m : ℕ) → slice_get (graph s).outputs port ≡ Some (record { 0 = m }) → (row : NodeRow) × (slice_get (graph s).nodes m ≡ Some row) × (is_port_alias p row.node ≡ false)
wire_flat none w p port m o = absurd w
wire_flat (tree g kids) w p port m o =
    let x : (row : NodeRow) × (driver : Option NodeId) × (slice_get g.nodes m ≡ Some row) × (row.node ≡ Wire driver) × (row.label ≡ None) = w.0.wires (record { 0 = m }) (has_slice g.outputs port (record { 0 = m }) o) in
    (x.0, x.2, ap (is_port_alias p) x.3)

abbrev Past : Tree → List ℕ → ℕ → List ℕ → ℕ → Type 0
Past t p n q m = (r : List ℕ) × (k : ℕ) × IsFlatNode t (record { path = r; node = k }) × CombPath t p n r k × CombPath t r k q m

flat_past : (t : Tree) → IsWhole t → {p r q : List ℕ} {n k m : ℕ} → IsAt t p n → CombStep t p n r k → CombPath t r k q m → Past t p n q m ⊎ (length q < length p)
flat_past t w {p} {n = n} a (inside x y h) v =
    inl (p, n, (a, (y.0, y.1, ap (is_port_alias p) y.2 ∙ flat_inside x p _ h)), here, on (inside x y h) v)
flat_past t w {p} {n = n} {k = k} a (down {i = i} port y o) v =
    let s : IsAt t (i ∷ p) k = step_reached t (down port y o) a in
    inl (i ∷ p, k, (s, wire_flat (tree_at t (i ∷ p)) (whole_at t w (i ∷ p) s.0) (i ∷ p) port k o), on (down port y o) here, v)
flat_past t w a (up {path = p} port y o) here = inr (omega arith)
flat_past t w a (up {path = p} port y o) (on s v) =
    elim (flat_past t w (step_reached t (up port y o) a) s v) [
      | inl x ↦ inl (x.0, x.1, x.2, on (up port y o) x.3, x.4)
      | inr l ↦ inr (omega (arith, l))
    ]

closed_flat : (t : Tree) (p : List ℕ) (n : ℕ) → Past t p n p n → Past t p n p n
closed_flat t p n x = x

not_shorter : (p : List ℕ) → length p < length p → ⊥
not_shorter p l = omega (arith, l)

-- a flat node on a closed walk begins a closed walk of flat nodes
from_flat : (t : Tree) (p : List ℕ) (n : ℕ) (next : Occurrence) → IsFlatNode t (record { path = p; node = n }) → CombStep t p n next.path next.node → CombPath t next.path next.node p n → HasFlatLoop t
from_flat t p n next f s v =
    let u : Stop t next.path next.node p n = stop_at t (step_reached t s f.0) f v in
    (record { path = p; node = n }, next, record { path = u.0; node = u.1 }, f, s, u.2, u.3)

first_step_of : (t : Tree) {p q : List ℕ} {n m : ℕ} → CombPath t p n q m → (r : List ℕ) (k : ℕ) → CombStep t q m r k → CombPath t r k p n → (next : Occurrence) × CombStep t p n next.path next.node × CombPath t next.path next.node p n
first_step_of t here r k s v = (record { path = r; node = k }, s, v)
first_step_of t (on {mid = a} {k = b} x w) r k s v = (record { path = a; node = b }, x, path_then t w (on s v))

pub flat_from_loop : (t : Tree) → IsWhole t → HasCombLoop t → HasFlatLoop t
flat_from_loop t w x =
    elim (flat_past t w x.2 x.3 x.4) [
      | inl u ↦ (let y : _ = first_step_of t u.4 x.1.path x.1.node x.3 (path_then t x.4 u.3) in from_flat t u.0 u.1 y.0 u.2 y.1 y.2)
      | inr l ↦ absurd (not_shorter x.0.path l)
    ]
