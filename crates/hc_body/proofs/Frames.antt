-- What is drawn adds rows alone: the ports and the instances of a graph stay.
use Rattle.std.proofs.Common.{◌≡◌, ℕ, ◌==◌, ◌-◌, ◌*◌, ◌&&◌, ◌++◌, Bool, true, false, List, [], ◌∷◌, refl, sym, ap, ◌∙◌}
use Rattle.std.specs.Prelude.{Option, Some, None, Result, Ok, Err, ℤ, pos, negsuc, nat_le, nat_lt, length, sum, replicate, option_map, if◌then◌else◌, nat_abs}
use Rattle.hc_fault.specs.declared.fault.FaultKind.{FaultKind}
use Rattle.hc_fault.specs.declared.fault.FaultKind.TheVariants.{Width, WidthMismatch, UnknownName, UnknownOp}
use Rattle.hc_bits.specs.BitVector.{BitVector}
use Rattle.hc_bits.specs.Catalogue.{find_kind, arity}
use Rattle.hc_bits.specs.declared.kind.OpKind.{OpKind}
use Rattle.hc_sigtext.specs.declared.tree.CallWord.{CallWord}
use Rattle.hc_sigtext.specs.declared.tree.CallWord.TheVariants as word
use Rattle.hc_signal.specs.declared.signal.NodeId.{NodeId}
use Rattle.hc_signal.specs.declared.signal.MemId.{MemId}
use Rattle.hc_signal.specs.declared.signal.Op2.{Op2}
use Rattle.hc_signal.specs.declared.signal.Op2.TheVariants as op2
use Rattle.hc_signal.specs.declared.signal.Node.{Node}
use Rattle.hc_signal.specs.declared.signal.Node.TheVariants as node
use Rattle.hc_signal.specs.Graph.{Graph}
use Rattle.hc_signal.specs.Rules.{reg_rule, size_rule, first_width, two_rule, two_width, mux_rule, cat_rule, select_rule, select_width, op_rule, op_width}
use Rattle.hc_signal.specs.Builds.{with_row, unlabelled, width_at, widths_at, memory_width_at}
use Rattle.hc_unfold.specs.Signals.{Place, Signal, Signals, Sized, Named, Output, Call, Read, Op, none, more}
use Rattle.hc_unfold.specs.Names.{Names, Key, meaning, as_node, as_memory, as_instance}
use Rattle.hc_unfold.specs.Drawing.{Draws, go_on, ◌>>=◌, answer, fails, given, demand, rule, width, unless, as_width, literal, number_bits, adds, next, constant, two, invert, mux, cat, select, read, operation}
use Rattle.hc_unfold.specs.Derived.{sign_bit, part, zeros, ne, not_lt, lts, mux2, msb, copies, repeat, zero_extended, sign_extended, uresize, sresize, left, right, right_signed, shift}
use Rattle.hc_unfold.specs.Calls.{unary, binary, ternary, adjusted, const, choice, concatenation, plain, of_signals, with_number, const_alone, select_from, with_numbers, called, operated}
use Rattle.hc_unfold.specs.Places.{key, meant, numbers}
use Rattle.hc_unfold.specs.Outputs.{instance_output}
use Rattle.hc_statements.specs.Registers.{clear_in, init_in, selects_are_bits, clear_node, row, register}
use Rattle.hc_statements.specs.Statements.{wire, memory, next_memory, new_memory}
use Rattle.hc_unfold.specs.Nodes.{sized, output_of, read_from, node_of, nodes_of}

-- the second graph has the ports and the instances of the first
pub record Frame (g h : Graph) : Type 0 where
  pub ports : h.ports ≡ g.ports
  pub instances : h.instances ≡ g.instances

pub record Frames {A : Type 0} (p : Draws A) : Type 0 where
  pub kept : (g h : Graph) (x : A) → p g ≡ Ok (h, x) → Frame g h

pub frame_none : (g h : Graph) → g ≡ h → Frame g h
frame_none g h e = record { ports = ap (λ (k : Graph). k.ports) (sym e); instances = ap (λ (k : Graph). k.instances) (sym e) }

frame_on : (g h k : Graph) → Frame g h → Frame h k → Frame g k
frame_on g h k one two = record { ports = two.ports ∙ one.ports; instances = two.instances ∙ one.instances }

-- ---- steps

pub then_frames : {A B : Type 0} {p : Draws A} {f : A → Draws B} → Frames p → ((x : A) → Frames (f x)) → Frames (p >>= f)
then_frames {A} {B} {p} {f} one two = record { kept = λ g h y e. by g h y (p g) refl e }
  where
    by : (g h : Graph) (y : B) (r : Result (Graph × A) FaultKind) → p g ≡ r → go_on r f ≡ Ok (h, y) → Frame g h
    by g h y (Err kind) is e = absurd cc
    by g h y (Ok drawn) is e = frame_on g drawn.0 h (one.kept g drawn.0 drawn.1 is) ((two drawn.1).kept drawn.0 h y e)

same_graph : {A : Type 0} (p q : Graph × A) (r : Result (Graph × A) FaultKind) → r ≡ Ok p → r ≡ Ok q → p.0 ≡ q.0
same_graph {A} p q r a b = let same : p ≡ q = cc in ap (λ (d : Graph × A). d.0) same

pub look_frames : {A : Type 0} (f : Graph → A) → Frames (λ g. Ok (g, f g))
look_frames {A} f = record { kept = λ g h x e. frame_none g h (same_graph (g, f g) (h, x) (Ok (g, f g)) refl e) }

pub answer_frames : {A : Type 0} (x : A) → Frames (answer x)
answer_frames x = look_frames (λ g. x)

pub fails_frames : {A : Type 0} (kind : FaultKind) → Frames (fails {A = A} kind)
fails_frames kind = record { kept = λ g h x e. absurd cc }

pub given_frames : {A : Type 0} (r : Result A FaultKind) → Frames (given r)
given_frames (Ok x) = answer_frames x
given_frames (Err kind) = fails_frames kind

pub demand_frames : {A : Type 0} (kind : FaultKind) (o : Option A) → Frames (demand kind o)
demand_frames kind (Some x) = answer_frames x
demand_frames kind None = fails_frames kind

pub rule_frames : (kind : FaultKind) (b : Bool) → Frames (rule kind b)
rule_frames kind true = answer_frames tt
rule_frames kind false = fails_frames kind

-- a value of the graph so far
pub given_of_frames : {A : Type 0} (f : Graph → Result A FaultKind) → Frames (λ g. given (f g) g)
given_of_frames {A} f = record { kept = λ g h x e. (given_frames (f g)).kept g h x e }

-- what depends on a rule of the graph
pub unless_frames : {A : Type 0} (b : Graph → Option FaultKind) (f : Graph → Graph × A) → ((g : Graph) → Frame g (f g).0) → Frames (λ g. unless (b g) (f g))
unless_frames {A} b f frame = record { kept = λ g h x e. by g h x (b g) e }
  where
    by : (g h : Graph) (x : A) (o : Option FaultKind) → unless o (f g) ≡ Ok (h, x) → Frame g h
    by g h x (Some kind) e = absurd cc
    by g h x None e = frame_on g (f g).0 h (frame g) (frame_none (f g).0 h (same_graph (f g) (h, x) (Ok (f g)) refl e))

pub adds_frames : (b : Graph → Option FaultKind) (w : Graph → ℕ) (x : Node) → Frames (λ g. adds (b g) (w g) x g)
adds_frames b w x = unless_frames b (λ g. (with_row g (unlabelled (w g) x), next g)) (λ g. record { ports = refl; instances = refl })

pub if_frames : {A : Type 0} {p q : Draws A} (b : Bool) → Frames p → Frames q → Frames (if b then p else q)
if_frames true one two = one
if_frames false one two = two

-- ---- primitives

pub constant_frames : (v : BitVector) → Frames (constant v)
constant_frames v = adds_frames (λ g. None) (λ g. v.width) (node.Const v)

two_frames : (op : Op2) (a b : NodeId) → Frames (two op a b)
two_frames op a b = adds_frames (λ g. two_rule op (width_at g a) (width_at g b)) (λ g. two_width op (width_at g a) (width_at g b)) (node.Two op a b)

invert_frames : (a : NodeId) → Frames (invert a)
invert_frames a = adds_frames (λ g. None) (λ g. width_at g a) (node.Not a)

mux_frames : (s : NodeId) (cases : List NodeId) → Frames (mux s cases)
mux_frames s cases = adds_frames (λ g. mux_rule (width_at g s) (widths_at g cases)) (λ g. first_width (widths_at g cases)) (node.Mux s cases)

cat_frames : (xs : List NodeId) → Frames (cat xs)
cat_frames [] = adds_frames (λ g. cat_rule []) (λ g. sum []) (node.Cat [])
cat_frames (a ∷ []) = answer_frames a
cat_frames (a ∷ b ∷ xs) = adds_frames (λ g. cat_rule (widths_at g (a ∷ b ∷ xs))) (λ g. sum (widths_at g (a ∷ b ∷ xs))) (node.Cat (a ∷ b ∷ xs))

select_frames : (a : NodeId) (hi lo : ℤ) → Frames (select a hi lo)
select_frames a hi lo = adds_frames (λ g. select_rule (width_at g a) hi lo) (λ g. select_width (nat_abs hi) (nat_abs lo)) (node.Select a (nat_abs hi) (nat_abs lo))

read_frames : (m : MemId) (a : NodeId) → Frames (read m a)
read_frames m a = adds_frames (λ g. None) (λ g. memory_width_at g m) (node.Read m a)

operation_frames : (kind : OpKind) (args : List NodeId) → Frames (operation kind args)
operation_frames kind args = adds_frames (λ g. op_rule (widths_at g args)) (λ g. op_width kind (widths_at g args)) (node.Op kind args)

pub width_frames : (id : NodeId) → Frames (width id)
width_frames id = look_frames _

-- ---- derived

part_frames : (x : NodeId) (hi lo : ℕ) → Frames (part x hi lo)
part_frames x hi lo = select_frames x (pos hi) (pos lo)

zeros_frames : (w : ℕ) → Frames (zeros w)
zeros_frames w = constant_frames _

ne_frames : (x y : NodeId) → Frames (ne x y)
ne_frames x y = then_frames (two_frames op2.Eq x y) invert_frames

not_lt_frames : (x y : NodeId) → Frames (not_lt x y)
not_lt_frames x y = then_frames (two_frames op2.Lt x y) invert_frames

lts_frames : (x y : NodeId) → Frames (lts x y)
lts_frames x y = then_frames (width_frames x) (λ v. then_frames (width_frames y)
    (λ w. then_frames (rule_frames WidthMismatch (v == w)) (λ _. then_frames (constant_frames (sign_bit w))
    (λ k. then_frames (two_frames op2.Xor x k) (λ a. then_frames (two_frames op2.Xor y k) (λ b. two_frames op2.Lt a b))))))

mux2_frames : (s a b : NodeId) → Frames (mux2 s a b)
mux2_frames s a b = then_frames (width_frames s) (λ u. then_frames (width_frames a)
    (λ v. then_frames (width_frames b) (λ w. then_frames (rule_frames WidthMismatch ((u == 1) && (v == w))) (λ _. mux_frames s (b ∷ a ∷ [])))))

msb_frames : (x : NodeId) → Frames (msb x)
msb_frames x = then_frames (width_frames x) (λ w. part_frames x (w - 1) (w - 1))

copies_frames : (x : NodeId) (n : ℕ) → Frames (copies x n)
copies_frames x n = then_frames (width_frames x) (λ w. then_frames (rule_frames Width (nat_le 1 n && nat_le (n * w) 128)) (λ _. cat_frames (replicate n x)))

repeat_frames : (x : NodeId) (n : ℤ) → Frames (repeat x n)
repeat_frames x (pos n) = copies_frames x n
repeat_frames x (negsuc n) = fails_frames _

zero_extended_frames : (x : NodeId) (w n : ℕ) → Frames (zero_extended x w n)
zero_extended_frames x w n = if_frames (n == w) (answer_frames x) (if_frames (nat_lt n w) (part_frames x (n - 1) 0) (then_frames (zeros_frames (n - w)) (λ z. cat_frames (z ∷ x ∷ []))))

sign_extended_frames : (x : NodeId) (w n : ℕ) → Frames (sign_extended x w n)
sign_extended_frames x w n = if_frames (nat_le n w) (zero_extended_frames x w n) (then_frames (msb_frames x) (λ m. then_frames (copies_frames m (n - w)) (λ top. cat_frames (top ∷ x ∷ []))))

uresize_frames : (x : NodeId) (z : ℤ) → Frames (uresize x z)
uresize_frames x z = then_frames (given_frames (as_width z)) (λ n. then_frames (width_frames x) (λ w. zero_extended_frames x w n))

sresize_frames : (x : NodeId) (z : ℤ) → Frames (sresize x z)
sresize_frames x z = then_frames (given_frames (as_width z)) (λ n. then_frames (width_frames x) (λ w. sign_extended_frames x w n))

left_frames : (x : NodeId) (w k : ℕ) → Frames (left x w k)
left_frames x w k = if_frames (k == 0) (answer_frames x) (if_frames (nat_le w k) (zeros_frames w)
    (then_frames (part_frames x (w - 1 - k) 0) (λ a. then_frames (zeros_frames k) (λ z. cat_frames (a ∷ z ∷ [])))))

right_frames : (x : NodeId) (w k : ℕ) → Frames (right x w k)
right_frames x w k = if_frames (k == 0) (answer_frames x) (if_frames (nat_le w k) (zeros_frames w)
    (then_frames (zeros_frames k) (λ z. then_frames (part_frames x (w - 1) k) (λ a. cat_frames (z ∷ a ∷ [])))))

right_signed_frames : (x : NodeId) (w k : ℕ) → Frames (right_signed x w k)
right_signed_frames x w k = if_frames (k == 0) (answer_frames x)
    (then_frames (msb_frames x) (λ m. if_frames (nat_le w k) (copies_frames m w) (then_frames (copies_frames m k) (λ top. then_frames (part_frames x (w - 1) k) (λ a. cat_frames (top ∷ a ∷ []))))))

shift_frames : (by : NodeId → ℕ → ℕ → Draws NodeId) → ((x : NodeId) (w k : ℕ) → Frames (by x w k)) → (x : NodeId) (k : ℤ) → Frames (shift by x k)
shift_frames by each x (pos k) = then_frames (width_frames x) (λ w. each x w k)
shift_frames by each x (negsuc k) = fails_frames _

-- ---- calls

unary_frames : (w : CallWord) (x : NodeId) → Frames (unary w x)
unary_frames word.Not x = invert_frames x
unary_frames word.Msb x = msb_frames x
unary_frames word.Lsb x = part_frames x 0 0
unary_frames other x = fails_frames _

binary_frames : (w : CallWord) (x y : NodeId) → Frames (binary w x y)
binary_frames word.Add x y = two_frames op2.Add x y
binary_frames word.Sub x y = two_frames op2.Sub x y
binary_frames word.Mulu x y = two_frames op2.Mulu x y
binary_frames word.Muls x y = two_frames op2.Muls x y
binary_frames word.And x y = two_frames op2.And x y
binary_frames word.Or x y = two_frames op2.Or x y
binary_frames word.Xor x y = two_frames op2.Xor x y
binary_frames word.Eq x y = two_frames op2.Eq x y
binary_frames word.Lt x y = two_frames op2.Lt x y
binary_frames word.Ne x y = ne_frames x y
binary_frames word.Gt x y = two_frames op2.Lt y x
binary_frames word.Le x y = not_lt_frames y x
binary_frames word.Ge x y = not_lt_frames x y
binary_frames word.Lts x y = lts_frames x y
binary_frames other x y = fails_frames _

ternary_frames : (w : CallWord) (s x y : NodeId) → Frames (ternary w s x y)
ternary_frames word.Mux2 s x y = mux2_frames s x y
ternary_frames other s x y = fails_frames _

adjusted_frames : (w : CallWord) (x : NodeId) (n : ℤ) → Frames (adjusted w x n)
adjusted_frames word.Uresize x n = uresize_frames x n
adjusted_frames word.Sresize x n = sresize_frames x n
adjusted_frames word.Sll x n = shift_frames left left_frames x n
adjusted_frames word.Srl x n = shift_frames right right_frames x n
adjusted_frames word.Sra x n = shift_frames right_signed right_signed_frames x n
adjusted_frames word.Repeat x n = repeat_frames x n
adjusted_frames other x n = fails_frames _

const_frames : (w n : ℤ) → Frames (const w n)
const_frames w n = then_frames (given_frames (number_bits w n)) constant_frames

choice_frames : (xs : List NodeId) → Frames (choice xs)
choice_frames [] = fails_frames _
choice_frames (s ∷ []) = fails_frames _
choice_frames (s ∷ a ∷ []) = fails_frames _
choice_frames (s ∷ a ∷ b ∷ cases) = mux_frames s (a ∷ b ∷ cases)

concatenation_frames : (xs : List NodeId) → Frames (concatenation xs)
concatenation_frames [] = fails_frames _
concatenation_frames (x ∷ xs) = cat_frames (x ∷ xs)

plain_frames : (w : CallWord) (xs : List NodeId) → Frames (plain w xs)
plain_frames w [] = fails_frames _
plain_frames w (x ∷ []) = unary_frames w x
plain_frames w (x ∷ y ∷ []) = binary_frames w x y
plain_frames w (s ∷ x ∷ y ∷ []) = ternary_frames w s x y
plain_frames w (s ∷ x ∷ y ∷ z ∷ xs) = fails_frames _

of_signals_frames : (w : CallWord) (xs : List NodeId) → Frames (of_signals w xs)
of_signals_frames word.Mux xs = choice_frames xs
of_signals_frames word.Cat xs = concatenation_frames xs
of_signals_frames other xs = plain_frames other xs

with_number_frames : (w : CallWord) (xs : List NodeId) (n : ℤ) → Frames (with_number w xs n)
with_number_frames w [] n = fails_frames _
with_number_frames w (x ∷ []) n = adjusted_frames w x n
with_number_frames w (x ∷ y ∷ xs) n = fails_frames _

const_alone_frames : (xs : List NodeId) (w n : ℤ) → Frames (const_alone xs w n)
const_alone_frames [] w n = const_frames w n
const_alone_frames (x ∷ xs) w n = fails_frames _

select_from_frames : (xs : List NodeId) (hi lo : ℤ) → Frames (select_from xs hi lo)
select_from_frames [] hi lo = fails_frames _
select_from_frames (x ∷ []) hi lo = select_frames x hi lo
select_from_frames (x ∷ y ∷ xs) hi lo = fails_frames _

with_numbers_frames : (w : CallWord) (xs : List NodeId) (m n : ℤ) → Frames (with_numbers w xs m n)
with_numbers_frames word.Const xs m n = const_alone_frames xs m n
with_numbers_frames word.Select xs m n = select_from_frames xs m n
with_numbers_frames other xs m n = fails_frames _

called_frames : (w : CallWord) (xs : List NodeId) (ns : List ℤ) → Frames (called w xs ns)
called_frames w xs [] = of_signals_frames w xs
called_frames w xs (n ∷ []) = with_number_frames w xs n
called_frames w xs (m ∷ n ∷ []) = with_numbers_frames w xs m n
called_frames w xs (m ∷ n ∷ k ∷ ns) = fails_frames _

operated_frames : (kind : OpKind) (args : List NodeId) → Frames (operated kind args)
operated_frames kind args = then_frames (rule_frames UnknownOp (length args == arity kind)) (λ _. operation_frames kind args)

-- ---- signals

sized_frames : (w : ℤ) (v : ℕ) → Frames (sized w v)
sized_frames w v = then_frames (given_frames (literal w v)) constant_frames

module _ (names : Names) where
  output_of_frames : (p : Place) (name : List ℕ) → Frames (output_of names p name)
  output_of_frames p name = then_frames (given_frames (meant names as_instance p)) (λ i. given_of_frames (instance_output i name))

  read_from_frames : (k : Key) (x : NodeId) → Frames (read_from names k x)
  read_from_frames k x = then_frames (demand_frames UnknownName (as_memory (meaning names k))) (λ m. read_frames m x)

  mutual
    pub node_of_frames : (s : Signal) → Frames (node_of names s)
    node_of_frames (Sized w v) = sized_frames w v
    node_of_frames (Named p) = given_frames (meant names as_node p)
    node_of_frames (Output p name) = output_of_frames p name
    node_of_frames (Call word ss ns) = then_frames (nodes_of_frames ss) (λ xs. then_frames (given_frames (numbers ns)) (λ zs. called_frames word xs zs))
    node_of_frames (Read p a) = then_frames (given_frames (key p)) (λ k. then_frames (node_of_frames a) (λ x. read_from_frames k x))
    node_of_frames (Op name ss) = then_frames (nodes_of_frames ss) (λ xs. then_frames (demand_frames UnknownOp (find_kind name)) (λ kind. operated_frames kind xs))

    pub nodes_of_frames : (ss : Signals) → Frames (nodes_of names ss)
    nodes_of_frames none = answer_frames []
    nodes_of_frames (more s ss) = then_frames (node_of_frames s) (λ x. then_frames (nodes_of_frames ss) (λ xs. answer_frames (x ∷ xs)))

-- ---- wires, registers and memories

pub wire_frames : (w : ℕ) → Frames (wire w)
wire_frames w = adds_frames (λ g. None) (λ g. w) (node.Wire None)

row_frames : (next : NodeId) (enable : Option NodeId) (clear : Option (NodeId × BitVector)) (init : BitVector) → Frames (row next enable clear init)
row_frames next enable clear init = adds_frames (λ g. None) (λ g. width_at g next) (node.Reg next enable clear init)

selects_frames : (enable : Option NodeId) (clear : Option (NodeId × ℤ)) → Frames (selects_are_bits enable clear)
selects_frames enable clear = unless_frames (λ g. reg_rule (option_map (width_at g) enable) (option_map (width_at g) (clear_node clear))) (λ g. (g, tt)) (λ g. frame_none g g refl)

pub register_frames : (next : NodeId) (enable : Option NodeId) (clear : Option (NodeId × ℤ)) (first : Option ℤ) → Frames (register next enable clear first)
register_frames next enable clear first = then_frames (selects_frames enable clear)
    (λ _. then_frames (width_frames next) (λ w. then_frames (given_frames (clear_in w clear)) (λ c. then_frames (given_frames (init_in w first)) (λ init. row_frames next enable c init))))

pub new_memory_frames : (size : ℤ) (w : ℕ) → Frames (new_memory size w)
new_memory_frames size w = unless_frames (λ g. size_rule size) (λ g. (record g { memories = g.memories ++ memory (nat_abs size) w ∷ [] }, next_memory g))
    (λ g. record { ports = refl; instances = refl })
