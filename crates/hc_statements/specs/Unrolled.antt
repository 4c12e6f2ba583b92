-- The unrolled body: its statements with every number put in, in the order in which they run, each with its count.
use Rattle.std.specs.Prelude.{ℕ, zero, suc, nat_lt, if◌then◌else◌, List, [], ◌∷◌, map, flat_map, Option, option_map, Ok, Err, ℤ, pos, negsuc, ◌+ℤ◌, ◌-ℤ◌}
use Rattle.std.specs.Ordering.{int_eq}
use Rattle.hc_fault.specs.declared.fault.FaultKind.{FaultKind}
use Rattle.hc_fault.specs.declared.fault.FaultKind.TheVariants.{TooManyStatements}
use Rattle.hc_tokens.specs.declared.tree.Num.{Num}
use Rattle.hc_sigtext.specs.declared.tree.Sig.{Sig}
use Rattle.hc_lines.specs.declared.tree.What.TheOpen.{What-F, Stmt-F}
use Rattle.hc_lines.specs.declared.tree.What.TheFolds.{fold-Stmt}
use Rattle.hc_lines.specs.declared.tree.Stmt.{Stmt}
use Rattle.hc_num.specs.Value.{Bindings, Outcome}
use Rattle.hc_unfold.specs.Signals.{Place, Signal, place, signal, number}

abbrev pub Text : Type 0
Text = List ℕ

-- a statement with its numbers put in: a number without a value stands as its fault
pub data Statement : Type 0 where
  Let : Place → Signal → Statement
  Wire : Place → Outcome → Statement
  Assign : Place → Signal → Statement
  Label : Place → Text → Statement
  Reg : Place → Signal → Option Signal → Option (Signal × Outcome) → Option Outcome → Statement
  Memory : Place → Outcome → Outcome → Statement
  Write : Place → Signal → Signal → Signal → Statement
  Inst : Place → Text → List Outcome → List (Text × Signal) → Statement

abbrev pub cleared : Bindings → Sig × Num → Signal × Outcome
cleared env c = (signal env c.0, number env c.1)

abbrev pub connection : Bindings → Text × Sig → Text × Signal
connection env c = (c.0, signal env c.1)

-- ---- what runs, in order

-- A statement counts one, and so do a `for` line, an `if` line and a turn. The number of a block may have no value.
pub data Event : Type 0 where
  Does : ℕ → Statement → Event
  Counts : ℕ → Event
  Stops : ℕ → FaultKind → Event

abbrev pub Events : Type 0
Events = List Event

-- x, x + 1 and so on, n of them
abbrev pub count_up : ℤ → ℕ → List ℤ
count_up x zero = []
count_up x (suc n) = x ∷ count_up (x +ℤ pos 1) n

-- how many numbers stand from 0 up to z
abbrev pub room : ℤ → ℕ
room (pos n) = n
room (negsuc n) = 0

-- x, x + 1 and so on while they are less than y
abbrev pub range : ℤ → ℤ → List ℤ
range x y = count_up x (room (y -ℤ x))

-- what a statement does under bindings
abbrev pub Runs : Type 0
Runs = Bindings → Events

-- the statements of a block, one after the other
abbrev pub block : List Runs → Runs
block body env = flat_map (λ s. s env) body

abbrev pub turn : ℕ → Text → List Runs → Bindings → ℤ → Events
turn line v body env i = Counts line ∷ block body ((v, i) ∷ env)

abbrev pub turns : ℕ → Text → List Runs → Bindings → Outcome → Outcome → Events
turns line v body env (Err kind) upto = Stops line kind ∷ []
turns line v body env (Ok x) (Err kind) = Stops line kind ∷ []
turns line v body env (Ok x) (Ok y) = flat_map (turn line v body env) (range x y)

abbrev pub branch : ℕ → List Runs → List Runs → Bindings → Outcome → Events
branch line part other env (Err kind) = Stops line kind ∷ []
branch line part other env (Ok c) = if int_eq c (pos 0) then block other env else block part env

abbrev pub what_level : What-F (ℕ → Runs) Runs → ℕ → Runs
what_level (What-F.Let i s) line env = Does line (Let (place env i) (signal env s)) ∷ []
what_level (What-F.Wire i n) line env = Does line (Wire (place env i) (number env n)) ∷ []
what_level (What-F.Assign i s) line env = Does line (Assign (place env i) (signal env s)) ∷ []
what_level (What-F.Label i w) line env = Does line (Label (place env i) w) ∷ []
what_level (What-F.Reg i s e c n) line env = Does line (Reg (place env i) (signal env s) (option_map (signal env) e) (option_map (cleared env) c) (option_map (number env) n)) ∷ []
what_level (What-F.Memory i size width) line env = Does line (Memory (place env i) (number env size) (number env width)) ∷ []
what_level (What-F.Write i e a v) line env = Does line (Write (place env i) (signal env e) (signal env a) (signal env v)) ∷ []
what_level (What-F.Inst i of args conns) line env = Does line (Inst (place env i) of (map (number env) args) (map (connection env) conns)) ∷ []
what_level (What-F.For v a b body) line env = Counts line ∷ turns line v body env (number env a) (number env b)
what_level (What-F.If c part other) line env = Counts line ∷ branch line part other env (number env c)

abbrev pub stmt_level : Stmt-F (ℕ → Runs) Runs → Runs
stmt_level s env = s.what s.line env

-- what a statement does
abbrev pub events_of : Stmt → Runs
events_of = fold-Stmt (ℕ → Runs) Runs what_level stmt_level

-- what a body does
abbrev pub events : List Stmt → Runs
events body env = flat_map (λ s. events_of s env) body

-- ---- counts

abbrev pub most_counted : ℕ
most_counted = 65536

-- a statement with its line and the count that is reached at it, or the fault that ends the list
pub data Item : Type 0 where
  Do : ℕ → ℕ → Statement → Item
  Stop : ℕ → FaultKind → Item

-- The list after n counted lines and turns. It ends at the first fault.
abbrev pub counted : ℕ → Events → List Item
counted n [] = []
counted n (Stops line kind ∷ es) = Stop line kind ∷ []
counted n (Does line s ∷ es) = if nat_lt n most_counted then Do (suc n) line s ∷ counted (suc n) es else Stop line TooManyStatements ∷ []
counted n (Counts line ∷ es) = if nat_lt n most_counted then counted (suc n) es else Stop line TooManyStatements ∷ []

-- how many lines and turns count
abbrev pub count_of : Events → ℕ
count_of [] = 0
count_of (Stops line kind ∷ es) = 0
count_of (Does line s ∷ es) = suc (count_of es)
count_of (Counts line ∷ es) = suc (count_of es)

-- the straight list of a body, and its whole count where no fault ends it
pub record Unrolled : Type 0 where
  pub items : List Item
  pub count : ℕ

abbrev pub unrolled : List Stmt → Bindings → Unrolled
unrolled body env = record { items = counted 0 (events body env); count = count_of (events body env) }
