-- What the parts of a statement keep while they draw.
use Rattle.std.proofs.Common.{◌≡◌, ℕ, Bool, true, false, not, [], ◌∷◌, ◌++◌, refl, subst}
use Rattle.std.specs.Prelude.{Option, Some, None, if◌then◌else◌, is_some, slice_get, Result, Ok, Err, ℤ}
use Rattle.hc_fault.specs.declared.fault.FaultKind.{FaultKind}
use Rattle.hc_fault.specs.declared.fault.FaultKind.TheVariants.{RepeatedName, UnknownName}
use Rattle.hc_bits.specs.BitVector.{BitVector, IsVector, IsWidth, from_i64}
use Rattle.hc_signal.specs.declared.signal.MemId.{MemId}
use Rattle.hc_signal.specs.declared.signal.NodeId.{NodeId}
use Rattle.hc_signal.specs.declared.signal.NodeRow.{NodeRow}
use Rattle.hc_signal.specs.Graph.{Graph}
use Rattle.hc_signal.specs.Builds.{IsMemory, IsNode, IsWire, is_wire}
use Rattle.hc_unfold.specs.Formed.{ChangesKeepForm, IsFormed}
use Rattle.hc_unfold.specs.Drawing.{as_width}
use Rattle.hc_unfold.specs.Gives.{Grows}
use Rattle.hc_unfold.specs.Names.{AreKnown, IsThere, Key, Names, as_memory, as_node, meaning}
use Rattle.hc_unfold.specs.declared.names.Target.{Target}
use Rattle.hc_unfold.specs.declared.names.Target.TheVariants as target
use Rattle.hc_unfold.specs.Nodes.{node_of}
use Rattle.hc_unfold.specs.Signals.{Signal}
use Rattle.hc_statements.specs.Formed.{IsFormedBody}
use Rattle.hc_statements.specs.Steps.{Broken, Elaborating, Steps, bind, demand, given, go_on, is_new, lifted, rule}
use Rattle.hc_statements.specs.Statements.{as_wire, memory_named, signal_node, wire_in, wire_named}
use Rattle.hc_statements.proofs.Known.{grows_none, grows_on, known_added, known_meaning, known_still}

-- ---- steps that draw nodes alone, and what ends a statement

-- where there is an answer, the body is formed, its graph has grown, and this holds of the answer
abbrev pub Keeps : {A : Type 0} → Elaborating → (Graph → A → Type 0) → Result (Elaborating × A) Broken → Type 0
Keeps e P (Ok done) = IsFormedBody done.0 × Grows e.graph done.0.graph × P done.0.graph done.1
Keeps e P (Err broken) = Unit {0}

-- where there is an answer, the body is formed
abbrev pub Ends : {A : Type 0} → Result (Elaborating × A) Broken → Type 0
Ends (Ok done) = IsFormedBody done.0
Ends (Err broken) = Unit {0}

abbrev pub Any : {A : Type 0} → Graph → A → Type 0
Any g x = Unit {0}

kept_wider : {A : Type 0} (e f : Elaborating) (P : Graph → A → Type 0) (r : Result (Elaborating × A) Broken) → Grows e.graph f.graph → Keeps f P r → Keeps e P r
kept_wider e f P (Ok done) grows kept = (kept.0, grows_on e.graph f.graph done.0.graph grows kept.1, kept.2)
kept_wider e f P (Err broken) grows kept = tt

pub kept_then : {A B : Type 0} (e : Elaborating) (P : Graph → A → Type 0) (Q : Graph → B → Type 0) (r : Result (Elaborating × A) Broken) (f : A → Steps B) → Keeps e P r
    → ((d : Elaborating) (x : A) → IsFormedBody d → Grows e.graph d.graph → P d.graph x → Keeps d Q (f x d)) → Keeps e Q (go_on r f)
kept_then e P Q (Ok done) f kept more = kept_wider e done.0 Q (f done.1 done.0) kept.1 (more done.0 done.1 kept.0 kept.1 kept.2)
kept_then e P Q (Err broken) f kept more = tt

pub ends_then : {A B : Type 0} (e : Elaborating) (P : Graph → A → Type 0) (r : Result (Elaborating × A) Broken) (f : A → Steps B) → Keeps e P r
    → ((d : Elaborating) (x : A) → IsFormedBody d → Grows e.graph d.graph → P d.graph x → Ends (f x d)) → Ends (go_on r f)
ends_then e P (Ok done) f kept more = more done.0 done.1 kept.0 kept.1 kept.2
ends_then e P (Err broken) f kept more = tt

pub kept_given : {A : Type 0} (e : Elaborating) (P : Graph → A → Type 0) (r : Result A FaultKind) → IsFormedBody e → ((x : A) → r ≡ Ok x → P e.graph x) → Keeps e P (given r e)
kept_given e P (Ok x) l has = (l, grows_none e.graph, has x refl)
kept_given e P (Err kind) l has = tt

pub kept_demand : {A : Type 0} (e : Elaborating) (P : Graph → A → Type 0) (kind : FaultKind) (o : Option A) → IsFormedBody e → ((x : A) → o ≡ Some x → P e.graph x) → Keeps e P (demand kind o e)
kept_demand e P kind (Some x) l has = (l, grows_none e.graph, has x refl)
kept_demand e P kind None l has = tt

-- a rule that holds tells its test, and what held before
pub kept_rule : (e : Elaborating) (P : Graph → Type 0) (kind : FaultKind) (b : Bool) → IsFormedBody e → (b ≡ true → P e.graph) → Keeps e (λ g x. P g) (rule kind b e)
kept_rule e P kind true l has = (l, grows_none e.graph, has refl)
kept_rule e P kind false l has = tt

pub kept_answer : {A : Type 0} (e : Elaborating) (P : Graph → A → Type 0) (x : A) → IsFormedBody e → P e.graph x → Keeps e P (Ok (e, x))
kept_answer e P x l has = (l, grows_none e.graph, has)

pub kept_new : (e : Elaborating) (k : Key) → IsFormedBody e → Keeps e Any (is_new k e)
kept_new e k l = kept_rule e (λ g. Unit {0}) RepeatedName (not (is_some (meaning e.names k))) l (λ new. tt)

-- a name that gets its meaning
pub ends_bound : (e : Elaborating) (k : Key) (t : Target) → IsFormedBody e → IsThere e.graph t → Ends (bind k t e)
ends_bound e k t l there = record { graph = l.graph; names = known_added e.graph e.names (e.names ++ (k, t) ∷ []) k t l.names there refl }

-- ---- what names mean

as_wire_is : (g : Graph) (o : Option NodeId) (id : NodeId) → as_wire g o ≡ Some id → IsWire g id
as_wire_is g None id e = absurd cc
as_wire_is g (Some n) id e = by (slice_get g.nodes n.0) refl e
  where
    tested : (row : NodeRow) → slice_get g.nodes n.0 ≡ Some row → (b : Bool) → is_wire row.node ≡ b → (if b then Some n else None) ≡ Some id → IsWire g id
    tested row at true is e' = let same : n ≡ id = cc in subst (IsWire g) same (row, at, is)
    tested row at false is e' = absurd cc

    by : (o : Option NodeRow) → slice_get g.nodes n.0 ≡ o → wire_in o n ≡ Some id → IsWire g id
    by None at e' = absurd cc
    by (Some row) at e' = tested row at (is_wire row.node) refl e'

pub kept_wire_named : (e : Elaborating) (k : Key) → IsFormedBody e → Keeps e IsWire (wire_named k e)
kept_wire_named e k l = kept_demand e IsWire UnknownName (as_wire e.graph (as_node (meaning e.names k))) l (λ id is. as_wire_is e.graph (as_node (meaning e.names k)) id is)

as_memory_is : (names : Names) (k : Key) (g : Graph) → AreKnown g names → (t : Option Target) → meaning names k ≡ t → (id : MemId) → as_memory t ≡ Some id → IsMemory g id
as_memory_is names k g known (Some (target.Memory n)) is id e = let same : n ≡ id = cc in subst (IsMemory g) same (known_meaning names k (target.Memory n) g is known)
as_memory_is names k g known (Some (target.Node n)) is id e = absurd cc
as_memory_is names k g known (Some (target.Instance n)) is id e = absurd cc
as_memory_is names k g known None is id e = absurd cc

pub kept_memory_named : (e : Elaborating) (k : Key) → IsFormedBody e → Keeps e IsMemory (memory_named k e)
kept_memory_named e k l = kept_demand e IsMemory UnknownName (as_memory (meaning e.names k)) l (λ id is. as_memory_is e.names k e.graph l.names (meaning e.names k) refl id is)

-- ---- signals

-- what is known of what is drawn
pub record Below : Type 0 where
  pub changes : ChangesKeepForm
  pub signals : (names : Names) (s : Signal) (g h : Graph) (id : NodeId) → IsFormed g → AreKnown g names → node_of names s g ≡ Ok (h, id) → IsFormed h × Grows g h × IsNode h id
  pub widths : (z : ℤ) (w : ℕ) → as_width z ≡ Ok w → IsWidth w
  pub values : (w : ℕ) (z : ℤ) (v : BitVector) → IsWidth w → from_i64 w z ≡ Some v → IsVector v w
  pub zeros : (w : ℕ) → IsWidth w → IsVector (record { width = w; value = 0 }) w

-- what is drawn into the graph of a body
pub kept_drawn : {A : Type 0} (e : Elaborating) (P : Graph → A → Type 0) (r : Result (Graph × A) FaultKind) → IsFormedBody e
    → ((h : Graph) (x : A) → r ≡ Ok (h, x) → IsFormed h × Grows e.graph h × P h x) → Keeps e P (lifted e r)
kept_drawn e P (Ok drawn) l kept =
    let k : IsFormed drawn.0 × Grows e.graph drawn.0 × P drawn.0 drawn.1 = kept drawn.0 drawn.1 refl in
    (record { graph = k.0; names = known_still e.names e.graph drawn.0 l.names k.1 }, k.1, k.2)
kept_drawn e P (Err kind) l kept = tt

module _ (below : Below) where
  pub kept_signal : (e : Elaborating) (s : Signal) → IsFormedBody e → Keeps e IsNode (signal_node s e)
  kept_signal e s l = kept_drawn e IsNode (node_of e.names s e.graph) l (λ h id is. below.signals e.names s e.graph h id l.graph l.names is)
