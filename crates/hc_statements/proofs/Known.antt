-- Names that mean something of a graph, while the graph and the table grow.
use Rattle.std.proofs.Common.{◌≡◌, ℕ, zero, suc, ◌≤◌, ◌⊎◌, inl, inr, Bool, true, false, cond, List, [], ◌∷◌, ◌++◌, length, refl, sym, ap, subst, ◌∙◌, arith, length-append}
use Rattle.std.specs.Prelude.{Option, Some, None, IfSome, slice_get}
use Rattle.hc_signal.specs.declared.signal.NodeId.{NodeId}
use Rattle.hc_signal.specs.declared.signal.MemId.{MemId}
use Rattle.hc_signal.specs.declared.signal.InstId.{InstId}
use Rattle.hc_signal.specs.declared.signal.WritePort.{WritePort}
use Rattle.hc_signal.specs.declared.signal.NodeRow.{NodeRow}
use Rattle.hc_signal.specs.Builds.{IsNode, IsMemory, IsWire, MayBeNode, with_row, change_at, with_driver, with_write, with_node_label, with_memory_label, with_instance_label}
use Rattle.hc_signal.specs.Graph.{Graph}
use Rattle.hc_signal.specs.Member.{Has, first, later}
use Rattle.hc_unfold.specs.Names.{Names, Key, AreKnown, IsThere, meaning, same_key}
use Rattle.hc_unfold.specs.declared.names.Target.{Target}
use Rattle.hc_unfold.specs.declared.names.Target.TheVariants as target
use Rattle.hc_unfold.specs.Gives.{Grows}
use Rattle.hc_unfold.specs.Drawing.{next}
use Rattle.hc_statements.specs.Statements.{with_input, with_output}

last_or : {X : Type 0} (xs : List X) (x y : X) → Has (xs ++ x ∷ []) y → Has xs y ⊎ (y ≡ x)
last_or [] x y first = inr refl
last_or [] x y (later h) = elim h [ ]
last_or (z ∷ xs) x y first = inl first
last_or (z ∷ xs) x y (later h) = elim (last_or xs x y h) [ inl g ↦ inl (later g) | inr e ↦ inr e ]

pub known_added : (g : Graph) (names more : Names) (k : Key) (t : Target) → AreKnown g names → IsThere g t → more ≡ names ++ (k, t) ∷ [] → AreKnown g more
known_added g names more k t known there e n has = elim (last_or names (k, t) n (subst (λ (l : Names). Has l n) e has)) [
  | inl old ↦ known n old
  | inr new ↦ subst (λ (m : Key × Target). IsThere g m.1) (sym new) there
]

there_longer : (t : Target) (g h : Graph) → length g.nodes ≤ length h.nodes → length g.memories ≤ length h.memories → length g.instances ≤ length h.instances → IsThere g t → IsThere h t
there_longer (target.Node id) g h n m i there = omega (arith, n, there)
there_longer (target.Memory id) g h n m i there = omega (arith, m, there)
there_longer (target.Instance id) g h n m i there = omega (arith, i, there)

pub known_longer : (names : Names) (g h : Graph) → AreKnown g names → length g.nodes ≤ length h.nodes → length g.memories ≤ length h.memories
    → length g.instances ≤ length h.instances → AreKnown h names
known_longer names g h known n m i x has = there_longer x.1 g h n m i (known x has)

pub known_still : (names : Names) (g h : Graph) → AreKnown g names → Grows g h → AreKnown h names
known_still names g h known grows =
    let n : length g.nodes ≤ length h.nodes = grows.nodes in
    let m : length h.memories ≡ length g.memories = ap length grows.memories in
    let i : length h.instances ≡ length g.instances = ap length grows.instances in
    known_longer names g h known n (omega (arith, m)) (omega (arith, i))

pub known_meaning : (names : Names) (key : Key) (t : Target) (g : Graph) → meaning names key ≡ Some t → AreKnown g names → IsThere g t
known_meaning [] key t g e known = absurd cc
known_meaning (n ∷ names) key t g e known = by (same_key key n.0) e (λ is. known_meaning names key t g is (λ m has. known m (later has)))
  where
    by : (b : Bool) → cond b (Some n.1) (meaning names key) ≡ Some t → (meaning names key ≡ Some t → IsThere g t) → IsThere g t
    by true is more = let same : n.1 ≡ t = cc in subst (λ (x : Target). IsThere g x) same (known n first)
    by false is more = more is

pub may_be_node : (g : Graph) (names : Names) (id : Option NodeId) → IfSome id (λ x. (h : Graph) → AreKnown h names → IsNode h x) → AreKnown g names → MayBeNode g id
may_be_node g names None is known = tt
may_be_node g names (Some id) is known = is g known

-- ---- changed rows

length_change : {X : Type 0} (f : X → X) (k : ℕ) (xs : List X) → length (change_at f k xs) ≡ length xs
length_change f k [] = refl
length_change f zero (x ∷ xs) = refl
length_change f (suc k) (x ∷ xs) = let h = length_change f k xs in omega (arith, h)

pub known_driven : (g h : Graph) (names : Names) (wire from : NodeId) → AreKnown g names → h ≡ with_driver g wire from → AreKnown h names
known_driven g h names wire from known e =
    let l : length h.nodes ≡ length g.nodes = ap (λ (k : Graph). length k.nodes) e ∙ length_change _ wire.0 g.nodes in
    let m : length h.memories ≡ length g.memories = ap (λ (k : Graph). length k.memories) e in
    let i : length h.instances ≡ length g.instances = ap (λ (k : Graph). length k.instances) e in
    known_longer names g h known (omega (arith, l)) (omega (arith, m)) (omega (arith, i))

pub known_node_label : (g h : Graph) (names : Names) (id : NodeId) (w : List ℕ) → AreKnown g names → h ≡ with_node_label g id w → AreKnown h names
known_node_label g h names id w known e =
    let l : length h.nodes ≡ length g.nodes = ap (λ (k : Graph). length k.nodes) e ∙ length_change _ id.0 g.nodes in
    let m : length h.memories ≡ length g.memories = ap (λ (k : Graph). length k.memories) e in
    let i : length h.instances ≡ length g.instances = ap (λ (k : Graph). length k.instances) e in
    known_longer names g h known (omega (arith, l)) (omega (arith, m)) (omega (arith, i))

pub known_memory_label : (g h : Graph) (names : Names) (id : MemId) (w : List ℕ) → AreKnown g names → h ≡ with_memory_label g id w → AreKnown h names
known_memory_label g h names id w known e =
    let l : length h.nodes ≡ length g.nodes = ap (λ (k : Graph). length k.nodes) e in
    let m : length h.memories ≡ length g.memories = ap (λ (k : Graph). length k.memories) e ∙ length_change _ id.0 g.memories in
    let i : length h.instances ≡ length g.instances = ap (λ (k : Graph). length k.instances) e in
    known_longer names g h known (omega (arith, l)) (omega (arith, m)) (omega (arith, i))

pub known_instance_label : (g h : Graph) (names : Names) (id : InstId) (w : List ℕ) → AreKnown g names → h ≡ with_instance_label g id w → AreKnown h names
known_instance_label g h names id w known e =
    let l : length h.nodes ≡ length g.nodes = ap (λ (k : Graph). length k.nodes) e in
    let m : length h.memories ≡ length g.memories = ap (λ (k : Graph). length k.memories) e in
    let i : length h.instances ≡ length g.instances = ap (λ (k : Graph). length k.instances) e ∙ length_change _ id.0 g.instances in
    known_longer names g h known (omega (arith, l)) (omega (arith, m)) (omega (arith, i))

pub known_written : (g h : Graph) (names : Names) (id : MemId) (w : WritePort) → AreKnown g names → h ≡ with_write g id w → AreKnown h names
known_written g h names id w known e =
    let l : length h.nodes ≡ length g.nodes = ap (λ (k : Graph). length k.nodes) e in
    let m : length h.memories ≡ length g.memories = ap (λ (k : Graph). length k.memories) e ∙ length_change _ id.0 g.memories in
    let i : length h.instances ≡ length g.instances = ap (λ (k : Graph). length k.instances) e in
    known_longer names g h known (omega (arith, l)) (omega (arith, m)) (omega (arith, i))

pub wire_still : (g h : Graph) (wire : NodeId) → IsWire g wire → Grows g h → IsWire h wire
wire_still g h wire (row, at, is) grows = (row, grows.rows wire.0 row at, is)

pub node_still : (g h : Graph) (id : NodeId) → IsNode g id → Grows g h → IsNode h id
node_still g h id node grows = let n = grows.nodes in omega (arith, n, node)

pub may_still : (g h : Graph) (id : Option NodeId) → MayBeNode g id → Grows g h → MayBeNode h id
may_still g h None may grows = tt
may_still g h (Some id) may grows = node_still g h id may grows

pub memory_still : (g h : Graph) (id : MemId) → IsMemory g id → Grows g h → IsMemory h id
memory_still g h id mem grows = let m : length h.memories ≡ length g.memories = ap length grows.memories in omega (arith, m, mem)

-- ---- a row more

got_longer : {A : Type 0} (xs ys : List A) (k : ℕ) (x : A) → slice_get xs k ≡ Some x → slice_get (xs ++ ys) k ≡ Some x
got_longer [] ys k x e = absurd cc
got_longer (y ∷ xs) ys zero x e = e
got_longer (y ∷ xs) ys (suc k) x e = got_longer xs ys k x e

with_row_grows : (g : Graph) (row : NodeRow) → Grows g (with_row g row)
with_row_grows g row = record {
  nodes = let l = length-append g.nodes (row ∷ []) in omega (arith, l);
  rows = λ n r at. got_longer g.nodes (row ∷ []) n r at;
  memories = refl;
  instances = refl;
}

pub row_added : (g new : Graph) (row : NodeRow) → new ≡ with_row g row → Grows g new
row_added g new row e = subst (λ (h : Graph). Grows g h) (sym e) (with_row_grows g row)

pub grows_none : (g : Graph) → Grows g g
grows_none g = record { nodes = omega arith; rows = λ n row at. at; memories = refl; instances = refl }

pub grows_on : (g h k : Graph) → Grows g h → Grows h k → Grows g k
grows_on g h k one two = record {
  nodes = let a = one.nodes in let b = two.nodes in omega (arith, a, b);
  rows = λ n row at. two.rows n row (one.rows n row at);
  memories = two.memories ∙ one.memories;
  instances = two.instances ∙ one.instances;
}

-- ---- ports

one_longer : {A : Type 0} (xs : List A) (x : A) → length (xs ++ x ∷ []) ≡ suc (length xs)
one_longer [] x = refl
one_longer (y ∷ xs) x = ap suc (one_longer xs x)

grown : (g h : Graph) (names more : Names) (name : List ℕ) (id : NodeId) → AreKnown g names → id ≡ next g → length h.nodes ≡ suc (length g.nodes)
    → h.memories ≡ g.memories → h.instances ≡ g.instances → more ≡ names ++ ((name, None), target.Node id) ∷ [] → AreKnown h more
grown g h names more name id known is nodes mems insts e =
    let m : length h.memories ≡ length g.memories = ap length mems in
    let i : length h.instances ≡ length g.instances = ap length insts in
    let place : id.0 ≡ length g.nodes = ap (λ (k : NodeId). k.0) is in
    known_added h names more (name, None) (target.Node id) (known_longer names g h known (omega (arith, nodes)) (omega (arith, m)) (omega (arith, i))) (omega (arith, place, nodes)) e

pub known_input : (g h : Graph) (names more : Names) (name : List ℕ) (w : ℕ) (id : NodeId) → AreKnown g names → id ≡ next g → h ≡ with_input g name w
    → more ≡ names ++ ((name, None), target.Node id) ∷ [] → AreKnown h more
known_input g h names more name w id known is e named = grown g h names more name id known is (ap (λ (k : Graph). length k.nodes) e ∙ one_longer g.nodes _)
    (ap (λ (k : Graph). k.memories) e) (ap (λ (k : Graph). k.instances) e) named

pub known_output : (g h : Graph) (names more : Names) (name : List ℕ) (w : ℕ) (id : NodeId) → AreKnown g names → id ≡ next g → h ≡ with_output g name w
    → more ≡ names ++ ((name, None), target.Node id) ∷ [] → AreKnown h more
known_output g h names more name w id known is e named = grown g h names more name id known is (ap (λ (k : Graph). length k.nodes) e ∙ one_longer g.nodes _)
    (ap (λ (k : Graph). k.memories) e) (ap (λ (k : Graph). k.instances) e) named
