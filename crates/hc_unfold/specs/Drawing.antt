-- Steps on a graph under way: the graph with more in it and an answer, or the first rule that is broken. The primitives.
use Rattle.std.specs.Prelude.{ℕ, ◌^◌, Bool, true, false, nat_lt, if◌then◌else◌, List, [], ◌∷◌, length, sum, Option, Some, None, Result, Ok, Err, ℤ, nat_abs}
use Rattle.hc_fault.specs.declared.fault.FaultKind.{FaultKind}
use Rattle.hc_fault.specs.declared.fault.FaultKind.TheVariants as fault
use Rattle.hc_bits.specs.BitVector.{BitVector, from_i64}
use Rattle.hc_bits.specs.declared.kind.OpKind.{OpKind}
use Rattle.hc_signal.specs.declared.signal.NodeId.{NodeId}
use Rattle.hc_signal.specs.declared.signal.MemId.{MemId}
use Rattle.hc_signal.specs.declared.signal.Op2.{Op2}
use Rattle.hc_signal.specs.declared.signal.Node.{Node}
use Rattle.hc_signal.specs.declared.signal.Node.TheVariants as node
use Rattle.hc_signal.specs.Graph.{Graph}
use Rattle.hc_signal.specs.Rules.{width_rule, first_width, two_rule, two_width, mux_rule, cat_rule, select_rule, select_width, op_rule, op_width}
use Rattle.hc_signal.specs.Builds.{with_row, unlabelled, width_at, widths_at, memory_width_at}

-- ---- steps

abbrev pub Draws : Type 0 → Type 0
Draws A = Graph → Result (Graph × A) FaultKind

abbrev pub go_on : {A B : Type 0} → Result (Graph × A) FaultKind → (A → Draws B) → Result (Graph × B) FaultKind
go_on (Ok drawn) f = f drawn.1 drawn.0
go_on (Err kind) f = Err kind

infixl 10 ◌>>=◌
abbrev pub ◌>>=◌ : {A B : Type 0} → Draws A → (A → Draws B) → Draws B
p >>= f = λ g. go_on (p g) f

infixl 10 ◌>>◌
abbrev pub ◌>>◌ : {A B : Type 0} → Draws A → Draws B → Draws B
p >> q = p >>= (λ _. q)

-- nothing drawn, and this answer
abbrev pub answer : {A : Type 0} → A → Draws A
answer x = λ g. Ok (g, x)

abbrev pub fails : {A : Type 0} → FaultKind → Draws A
fails kind = λ g. Err kind

-- a value that was found before, or its fault
abbrev pub given : {A : Type 0} → Result A FaultKind → Draws A
given (Ok x) = answer x
given (Err kind) = fails kind

-- a value that is there, else the fault
abbrev pub demand : {A : Type 0} → FaultKind → Option A → Draws A
demand kind (Some x) = answer x
demand kind None = fails kind

-- the rule of this fault
abbrev pub rule : FaultKind → Bool → Draws (Unit {0})
rule kind true = answer tt
rule kind false = fails kind

abbrev pub width : NodeId → Draws ℕ
width id = λ g. Ok (g, width_at g id)

-- ---- values, unless a rule is broken

abbrev pub unless : {A : Type 0} → Option FaultKind → A → Result A FaultKind
unless None x = Ok x
unless (Some kind) x = Err kind

abbrev pub as_width : ℤ → Result ℕ FaultKind
as_width z = unless (width_rule z) (nat_abs z)

abbrev pub found : {A : Type 0} → FaultKind → Option A → Result A FaultKind
found kind (Some x) = Ok x
found kind None = Err kind

abbrev pub and_then : {A B : Type 0} → Result A FaultKind → (A → Result B FaultKind) → Result B FaultKind
and_then (Ok x) f = f x
and_then (Err kind) f = Err kind

-- the constant of a literal, and that of `const`
abbrev pub literal : ℤ → ℕ → Result BitVector FaultKind
literal z v = and_then (as_width z) (λ w. if nat_lt v (2 ^ w) then Ok (record { width = w; value = v }) else Err fault.ConstRange)

abbrev pub number_bits : ℤ → ℤ → Result BitVector FaultKind
number_bits z n = and_then (as_width z) (λ w. found fault.ConstRange (from_i64 w n))

-- ---- primitives

-- the node that is made next
abbrev pub next : Graph → NodeId
next g = record { 0 = length g.nodes }

-- one node more, unless a rule is broken
abbrev pub adds : Option FaultKind → ℕ → Node → Draws NodeId
adds broken w x = λ g. unless broken (with_row g (unlabelled w x), next g)

abbrev pub constant : BitVector → Draws NodeId
constant value = adds None value.width (node.Const value)

abbrev pub two : Op2 → NodeId → NodeId → Draws NodeId
two op a b = λ g. adds (two_rule op (width_at g a) (width_at g b)) (two_width op (width_at g a) (width_at g b)) (node.Two op a b) g

abbrev pub invert : NodeId → Draws NodeId
invert a = λ g. adds None (width_at g a) (node.Not a) g

abbrev pub mux : NodeId → List NodeId → Draws NodeId
mux s cases = λ g. adds (mux_rule (width_at g s) (widths_at g cases)) (first_width (widths_at g cases)) (node.Mux s cases) g

-- one part alone is that part
abbrev pub cat : List NodeId → Draws NodeId
cat (a ∷ []) = answer a
cat parts = λ g. adds (cat_rule (widths_at g parts)) (sum (widths_at g parts)) (node.Cat parts) g

abbrev pub select : NodeId → ℤ → ℤ → Draws NodeId
select a hi lo = λ g. adds (select_rule (width_at g a) hi lo) (select_width (nat_abs hi) (nat_abs lo)) (node.Select a (nat_abs hi) (nat_abs lo)) g

abbrev pub read : MemId → NodeId → Draws NodeId
read m a = λ g. adds None (memory_width_at g m) (node.Read m a) g

abbrev pub operation : OpKind → List NodeId → Draws NodeId
operation kind args = λ g. adds (op_rule (widths_at g args)) (op_width kind (widths_at g args)) (node.Op kind args) g
