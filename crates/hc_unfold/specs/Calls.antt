-- What a call draws, over the nodes of its signals and the values of its numbers.
use Rattle.std.specs.Prelude.{◌==◌, List, [], ◌∷◌, length, ℤ}
use Rattle.hc_fault.specs.declared.fault.FaultKind.TheVariants.{Syntax, UnknownOp}
use Rattle.hc_bits.specs.declared.kind.OpKind.{OpKind}
use Rattle.hc_bits.specs.Catalogue.{arity}
use Rattle.hc_sigtext.specs.declared.tree.CallWord.{CallWord}
use Rattle.hc_sigtext.specs.declared.tree.CallWord.TheVariants as word
use Rattle.hc_signal.specs.declared.signal.NodeId.{NodeId}
use Rattle.hc_signal.specs.declared.signal.Op2.TheVariants as op2
use Rattle.hc_unfold.specs.Drawing.{Draws, ◌>>=◌, ◌>>◌, fails, given, rule, number_bits, constant, two, invert, mux, cat, select, operation}
use Rattle.hc_unfold.specs.Derived.{part, ne, not_lt, lts, mux2, msb, repeat, uresize, sresize, sll, srl, sra}

-- one signal
abbrev pub unary : CallWord → NodeId → Draws NodeId
unary word.Not x = invert x
unary word.Msb x = msb x
unary word.Lsb x = part x 0 0
unary other x = fails Syntax

-- two signals
abbrev pub binary : CallWord → NodeId → NodeId → Draws NodeId
binary word.Add x y = two op2.Add x y
binary word.Sub x y = two op2.Sub x y
binary word.Mulu x y = two op2.Mulu x y
binary word.Muls x y = two op2.Muls x y
binary word.And x y = two op2.And x y
binary word.Or x y = two op2.Or x y
binary word.Xor x y = two op2.Xor x y
binary word.Eq x y = two op2.Eq x y
binary word.Lt x y = two op2.Lt x y
binary word.Ne x y = ne x y
binary word.Gt x y = two op2.Lt y x
binary word.Le x y = not_lt y x
binary word.Ge x y = not_lt x y
binary word.Lts x y = lts x y
binary other x y = fails Syntax

-- three signals
abbrev pub ternary : CallWord → NodeId → NodeId → NodeId → Draws NodeId
ternary word.Mux2 s x y = mux2 s x y
ternary other s x y = fails Syntax

-- one signal and a number
abbrev pub adjusted : CallWord → NodeId → ℤ → Draws NodeId
adjusted word.Uresize x n = uresize x n
adjusted word.Sresize x n = sresize x n
adjusted word.Sll x k = sll x k
adjusted word.Srl x k = srl x k
adjusted word.Sra x k = sra x k
adjusted word.Repeat x n = repeat x n
adjusted other x n = fails Syntax

abbrev pub const : ℤ → ℤ → Draws NodeId
const w n = given (number_bits w n) >>= constant

-- a selector and two cases or more
abbrev pub choice : List NodeId → Draws NodeId
choice (s ∷ a ∷ b ∷ cases) = mux s (a ∷ b ∷ cases)
choice few = fails Syntax

-- one part or more
abbrev pub concatenation : List NodeId → Draws NodeId
concatenation (x ∷ parts) = cat (x ∷ parts)
concatenation [] = fails Syntax

abbrev pub plain : CallWord → List NodeId → Draws NodeId
plain w (x ∷ []) = unary w x
plain w (x ∷ y ∷ []) = binary w x y
plain w (s ∷ x ∷ y ∷ []) = ternary w s x y
plain w other = fails Syntax

-- no number
abbrev pub of_signals : CallWord → List NodeId → Draws NodeId
of_signals word.Mux xs = choice xs
of_signals word.Cat xs = concatenation xs
of_signals other xs = plain other xs

-- one number
abbrev pub with_number : CallWord → List NodeId → ℤ → Draws NodeId
with_number w (x ∷ []) n = adjusted w x n
with_number w other n = fails Syntax

abbrev pub const_alone : List NodeId → ℤ → ℤ → Draws NodeId
const_alone [] w n = const w n
const_alone (x ∷ xs) w n = fails Syntax

abbrev pub select_from : List NodeId → ℤ → ℤ → Draws NodeId
select_from (x ∷ []) hi lo = select x hi lo
select_from other hi lo = fails Syntax

-- two numbers
abbrev pub with_numbers : CallWord → List NodeId → ℤ → ℤ → Draws NodeId
with_numbers word.Const xs w n = const_alone xs w n
with_numbers word.Select xs hi lo = select_from xs hi lo
with_numbers other xs m n = fails Syntax

-- What a call draws. The line grammar gives each word its count of signals and of numbers, so no other form comes.
abbrev pub called : CallWord → List NodeId → List ℤ → Draws NodeId
called w xs [] = of_signals w xs
called w xs (n ∷ []) = with_number w xs n
called w xs (m ∷ n ∷ []) = with_numbers w xs m n
called w xs other = fails Syntax

-- an operation of the catalogue, with as many arguments as its kind takes
abbrev pub operated : OpKind → List NodeId → Draws NodeId
operated kind args = rule UnknownOp (length args == arity kind) >> operation kind args
