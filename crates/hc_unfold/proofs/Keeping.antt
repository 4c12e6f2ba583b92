-- What is drawn keeps the form of a graph: the rules of steps.
use Rattle.std.proofs.Common.{◌≡◌, ℕ, Bool, true, false, List, refl, arith}
use Rattle.std.proofs.lemmas.List.{length_push}
use Rattle.std.specs.Prelude.{Option, Some, None, Result, Ok, Err, if◌then◌else◌}
use Rattle.hc_fault.specs.declared.fault.FaultKind.{FaultKind}
use Rattle.hc_bits.specs.BitVector.{IsWidth}
use Rattle.hc_signal.specs.declared.signal.Node.{Node}
use Rattle.hc_signal.specs.declared.signal.NodeId.{NodeId}
use Rattle.hc_signal.specs.Graph.{Graph}
use Rattle.hc_signal.specs.Lawful.{IsLawfulNode}
use Rattle.hc_signal.specs.Builds.{AreNodes, IsNode, is_inner, unlabelled, width_at, with_row}
use Rattle.hc_unfold.specs.Formed.{IsFormed}
use Rattle.hc_unfold.specs.Gives.{Grows}
use Rattle.hc_unfold.specs.Drawing.{Draws, adds, demand, given, go_on, rule, ◌>>◌}
use Rattle.hc_unfold.proofs.Follows.{has_its_width}
use Rattle.hc_unfold.proofs.FormedNodes.{formed_with_inner}
use Rattle.hc_unfold.proofs.Growing.{grows_none, grows_on, row_added}

-- where there is an answer, the graph is formed and has grown, and this holds of the answer
abbrev pub Keeps : {A : Type 0} → Graph → (Graph → A → Type 0) → Result (Graph × A) FaultKind → Type 0
Keeps g P (Ok drawn) = IsFormed drawn.0 × Grows g drawn.0 × P drawn.0 drawn.1
Keeps g P (Err kind) = Unit {0}

pub kept_wider : {A : Type 0} (g h : Graph) (P : Graph → A → Type 0) (r : Result (Graph × A) FaultKind) → Grows g h → Keeps h P r → Keeps g P r
kept_wider g h P (Ok drawn) grows kept = (kept.0, grows_on g h drawn.0 grows kept.1, kept.2)
kept_wider g h P (Err kind) grows kept = tt

-- one step, and then what comes after it
pub kept_then : {A B : Type 0} (g : Graph) (P : Graph → A → Type 0) (Q : Graph → B → Type 0) (r : Result (Graph × A) FaultKind) (f : A → Draws B) → Keeps g P r
    → ((h : Graph) (x : A) → IsFormed h → Grows g h → P h x → Keeps h Q (f x h)) → Keeps g Q (go_on r f)
kept_then g P Q (Ok drawn) f kept more = kept_wider g drawn.0 Q (f drawn.1 drawn.0) kept.1 (more drawn.0 drawn.1 kept.0 kept.1 kept.2)
kept_then g P Q (Err kind) f kept more = tt

pub kept_given : {A : Type 0} (g : Graph) (P : Graph → A → Type 0) (r : Result A FaultKind) → IsFormed g → ((x : A) → r ≡ Ok x → P g x) → Keeps g P (given r g)
kept_given g P (Ok x) l has = (l, grows_none g, has x refl)
kept_given g P (Err kind) l has = tt

pub kept_demand : {A : Type 0} (g : Graph) (P : Graph → A → Type 0) (kind : FaultKind) (o : Option A) → IsFormed g → ((x : A) → o ≡ Some x → P g x) → Keeps g P (demand kind o g)
kept_demand g P kind (Some x) l has = (l, grows_none g, has x refl)
kept_demand g P kind None l has = tt

pub kept_rule : {A : Type 0} (g : Graph) (P : Graph → A → Type 0) (kind : FaultKind) (b : Bool) (q : Draws A) → (b ≡ true → Keeps g P (q g)) → Keeps g P ((rule kind b >> q) g)
kept_rule g P kind true q more = kept_wider g g P (q g) (grows_none g) (more refl)
kept_rule g P kind false q more = tt

pub kept_if : {A : Type 0} (g : Graph) (P : Graph → A → Type 0) (b : Bool) (p q : Draws A) → (b ≡ true → Keeps g P (p g)) → (b ≡ false → Keeps g P (q g)) → Keeps g P ((if b then p else q) g)
kept_if g P true p q ok other = ok refl
kept_if g P false p q ok other = other refl

pub kept_answer : {A : Type 0} (g : Graph) (P : Graph → A → Type 0) (x : A) → IsFormed g → P g x → Keeps g P (Ok (g, x))
kept_answer g P x l has = (l, grows_none g, has)

pub kept_adds : (g : Graph) (broken : Option FaultKind) (w : ℕ) (x : Node) → IsFormed g → (broken ≡ None → IsWidth w × IsLawfulNode g w x) → is_inner x ≡ true → Keeps g IsNode (adds broken w x g)
kept_adds g None w x l lawful inner =
    let is : IsWidth w × IsLawfulNode g w x = lawful refl in
    let many : _ = length_push g.nodes (unlabelled w x) in
    (formed_with_inner g w x l is.0 is.1 inner, row_added g (with_row g (unlabelled w x)) (unlabelled w x) refl, omega arith)
kept_adds g (Some kind) w x l lawful inner = tt

-- ---- nodes while the graph grows

pub node_still : (g h : Graph) (id : NodeId) → Grows g h → IsNode g id → IsNode h id
node_still g h id grows node = let n = grows.nodes in omega (arith, n, node)

pub nodes_still : (g h : Graph) (ids : List NodeId) → Grows g h → AreNodes g ids → AreNodes h ids
nodes_still g h ids grows nodes id has = node_still g h id grows (nodes id has)

-- the width of a node is one
pub width_is : (g : Graph) (id : NodeId) → IsFormed g → IsNode g id → IsWidth (width_at g id)
width_is g id l node =
    let has : _ = has_its_width g id node in
    let is : IsWidth has.0.width = (l.nodes id.0 has.0 has.1).0 in
    let e : has.0.width ≡ width_at g id = has.2 in
    (omega (arith, is.0, e), omega (arith, is.1, e))
