-- The structure of a text, read from its rows one after the other. At most `most` blocks are open.
use Rattle.std.specs.Prelude.{ℕ, Bool, true, false, ◌&&◌, nat_lt, nat_eq, cond, List, [], ◌∷◌, ◌++◌, length, Option, Some, None, Ok, Err}
use Rattle.std.specs.Option.{option_map}
use Rattle.hc_fault.specs.declared.fault.FaultKind.TheVariants as fault
use Rattle.hc_tokens.specs.declared.tree.Num.{Num}
use Rattle.hc_lines.specs.Grammar.{Text}
use Rattle.hc_lines.specs.declared.line.Line.{Line}
use Rattle.hc_lines.specs.declared.line.Line.TheVariants.{Circuit, Port, Simple, For, If, Else, End, Top, Bench, Step}
use Rattle.hc_lines.specs.declared.tree.What.{What}
use Rattle.hc_lines.specs.declared.tree.What.TheVariants as what
use Rattle.hc_lines.specs.declared.tree.Stmt.{Stmt}
use Rattle.hc_lines.specs.declared.tree.BenchWhat.{BenchWhat}
use Rattle.hc_lang.specs.declared.tree.Head.{Head}
use Rattle.hc_lang.specs.declared.tree.CircuitText.{CircuitText}
use Rattle.hc_lang.specs.declared.tree.TopLine.{TopLine}
use Rattle.hc_lang.specs.declared.tree.BenchLine.{BenchLine}
use Rattle.hc_lang.specs.declared.tree.Design.{Design}
use Rattle.hc_lang.specs.declared.outline.Opening.{Opening}
use Rattle.hc_lang.specs.declared.outline.Opening.TheVariants as opening
use Rattle.hc_lang.specs.declared.outline.Block.{Block}
use Rattle.hc_lang.specs.declared.outline.OpenCircuit.{OpenCircuit}
use Rattle.hc_lang.specs.declared.outline.Place.{Place}
use Rattle.hc_lang.specs.declared.outline.Place.TheVariants as place
use Rattle.hc_lang.specs.declared.outline.Outline.{Outline}
use Rattle.hc_lang.specs.Reads.{Row, stmt}
use Rattle.hc_lang.specs.Found.{Found, and_then}

abbrev pub some : {A : Type 0} → A → Option A
some a = Some a

-- ---- a circuit

abbrev pub circuit : ℕ → Text → List Text → List Head → List Block → List Stmt → OpenCircuit
circuit n w ps hs bs ss = record { line = n; name = w; params = ps; heads = hs; blocks = bs; body = ss }

abbrev pub closed : OpenCircuit → CircuitText
closed c = record { line = c.line; name = c.name; params = c.params; heads = c.heads; body = c.body }

abbrev pub head : ℕ → Bool → Text → Num → Head
head n is_input w width = record { line = n; is_input = is_input; name = w; width = width }

abbrev pub is_none : {A : Type 0} → List A → Bool
is_none xs = nat_eq (length xs) 0

-- heads stand before all statements
abbrev pub with_head : OpenCircuit → Head → Option OpenCircuit
with_head c h = cond (is_none c.blocks && is_none c.body) (Some (circuit c.line c.name c.params (c.heads ++ h ∷ []) c.blocks c.body)) None

abbrev pub with_stmt : OpenCircuit → Stmt → OpenCircuit
with_stmt c s = circuit c.line c.name c.params c.heads c.blocks (c.body ++ s ∷ [])

abbrev pub block : ℕ → Opening → List Stmt → Block
block n o ss = record { line = n; opening = o; before = ss }

abbrev pub opened : ℕ → OpenCircuit → ℕ → Opening → Option OpenCircuit
opened most c n o = cond (nat_lt (length c.blocks) most) (Some (circuit c.line c.name c.params c.heads (block n o c.body ∷ c.blocks) [])) None

-- an `else` keeps the statements so far
abbrev pub turned : List Stmt → Opening → Option Opening
turned ts (opening.If c) = Some (opening.Else c ts)
turned ts o = None

abbrev pub turned_in : OpenCircuit → List Block → Option OpenCircuit
turned_in c [] = None
turned_in c (b ∷ bs) = option_map (λ o. circuit c.line c.name c.params c.heads (block b.line o b.before ∷ bs) []) (turned c.body b.opening)

abbrev pub block_of : Opening → List Stmt → What
block_of (opening.For v a b) ss = what.For v a b ss
block_of (opening.If c) ss = what.If c ss []
block_of (opening.Else c ts) ss = what.If c ts ss

abbrev pub ended_in : OpenCircuit → List Block → Option OpenCircuit
ended_in c [] = None
ended_in c (b ∷ bs) = Some (circuit c.line c.name c.params c.heads bs (b.before ++ stmt b.line (block_of b.opening c.body) ∷ []))

-- a line that stands in a circuit
abbrev pub in_circuit : ℕ → OpenCircuit → ℕ → Line → Option OpenCircuit
in_circuit most c n (Port is_input w width) = with_head c (head n is_input w width)
in_circuit most c n (Simple w) = Some (with_stmt c (stmt n w))
in_circuit most c n (For v a b) = opened most c n (opening.For v a b)
in_circuit most c n (If a) = opened most c n (opening.If a)
in_circuit most c n Else = turned_in c c.blocks
in_circuit most c n End = ended_in c c.blocks
in_circuit most c n l = None

-- ---- a row after the rows so far

abbrev pub outline : List CircuitText → Place → Outline
outline cs p = record { circuits = cs; place = p }

abbrev pub top_line : ℕ → Text → List Num → TopLine
top_line n w args = record { line = n; name = w; args = args }

abbrev pub bench_line : ℕ → BenchWhat → BenchLine
bench_line n w = record { line = n; what = w }

abbrev pub circuit_begun : List CircuitText → ℕ → Text → List Text → Outline
circuit_begun cs n w ps = outline cs (place.Circuit (circuit n w ps [] [] []))

abbrev pub top_at : List CircuitText → ℕ → Text → List Num → Outline
top_at cs n w args = outline cs (place.Top (top_line n w args))

-- a line that stands after whole circuits
abbrev pub after_circuits : List CircuitText → ℕ → Line → Option Outline
after_circuits cs n (Circuit w ps) = Some (circuit_begun cs n w ps)
after_circuits cs n (Top w args) = Some (top_at cs n w args)
after_circuits cs n l = None

abbrev pub with_circuit : List CircuitText → OpenCircuit → List CircuitText
with_circuit cs c = cs ++ closed c ∷ []

-- whether the line ends the circuit before it
abbrev pub ends_circuit : Line → Bool
ends_circuit (Circuit w ps) = true
ends_circuit (Top w args) = true
ends_circuit l = false

abbrev pub circuit_goes_on : List CircuitText → Option OpenCircuit → Option Outline
circuit_goes_on cs c = option_map (λ d. outline cs (place.Circuit d)) c

abbrev pub after_circuit : ℕ → List CircuitText → OpenCircuit → ℕ → Line → Option Outline
after_circuit most cs c n l = cond (ends_circuit l) (cond (is_none c.blocks) (after_circuits (with_circuit cs c) n l) None) (circuit_goes_on cs (in_circuit most c n l))

abbrev pub bench_at : List CircuitText → TopLine → ℕ → List BenchLine → Outline
bench_at cs t first steps = outline cs (place.Bench t first steps)

abbrev pub bench_ended : List CircuitText → TopLine → List BenchLine → Outline
bench_ended cs t steps = outline cs (place.End t steps)

abbrev pub after_top : List CircuitText → TopLine → ℕ → Line → Option Outline
after_top cs t n Bench = Some (bench_at cs t n [])
after_top cs t n l = None

abbrev pub with_step : List BenchLine → ℕ → BenchWhat → List BenchLine
with_step steps n w = steps ++ bench_line n w ∷ []

abbrev pub in_bench : List CircuitText → TopLine → ℕ → List BenchLine → ℕ → Line → Option Outline
in_bench cs t first steps n (Step w) = Some (bench_at cs t first (with_step steps n w))
in_bench cs t first steps n End = Some (bench_ended cs t steps)
in_bench cs t first steps n l = None

-- a line that stands in no circuit
abbrev pub elsewhere : List CircuitText → Place → ℕ → Line → Option Outline
elsewhere cs place.Start n l = after_circuits cs n l
elsewhere cs (place.Top t) n l = after_top cs t n l
elsewhere cs (place.Bench t first steps) n l = in_bench cs t first steps n l
elsewhere cs p n l = None

abbrev pub after : ℕ → List CircuitText → Place → ℕ → Line → Option Outline
after most cs (place.Circuit c) n l = after_circuit most cs c n l
after most cs p n l = elsewhere cs p n l

abbrev pub step : ℕ → Outline → Row → Option Outline
step most o r = after most o.circuits o.place r.0 r.1

abbrev pub misplaced_at : {A : Type 0} → ℕ → Option A → Found A
misplaced_at n None = Err (fault.Misplaced, n)
misplaced_at n (Some a) = Ok a

-- the outline after these rows
abbrev pub steps : ℕ → Outline → List Row → Found Outline
steps most o [] = Ok o
steps most o (r ∷ rows) = and_then (misplaced_at r.0 (step most o r)) (λ p. steps most p rows)

abbrev pub start : Outline
start = outline [] place.Start

-- ---- the end of the rows

-- the line of the innermost open block
abbrev pub innermost : List Block → Option ℕ
innermost [] = None
innermost (b ∷ bs) = Some b.line

abbrev pub open_line : Place → Option ℕ
open_line (place.Circuit c) = innermost c.blocks
open_line (place.Bench t n steps) = Some n
open_line p = None

abbrev pub design : List CircuitText → TopLine → List BenchLine → Design
design cs t steps = record { circuits = cs; top = t; bench = steps }

abbrev pub design_at : List CircuitText → Place → Option Design
design_at cs (place.Top t) = Some (design cs t [])
design_at cs (place.End t steps) = Some (design cs t steps)
design_at cs p = None

abbrev pub design_of : Outline → Option Design
design_of o = design_at o.circuits o.place
