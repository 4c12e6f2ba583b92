-- Lines read from their tokens. `d` brackets may be opened.
use Rattle.std.specs.Prelude.{ℕ, zero, suc, ℤ, pos, neg_ℤ, int_le, Bool, true, false, cond, List, [], ◌∷◌, ◌++◌, length, Option, Some, None, codes}
use Rattle.hc_tokens.specs.declared.token.Token.TheVariants.{Word, Int, Sized, Operator, Mark}
use Rattle.hc_tokens.specs.declared.token.Mark.TheVariants as mark
use Rattle.hc_tokens.specs.declared.tree.NumOp.TheVariants as num_op
use Rattle.hc_tokens.specs.declared.tree.Num.{Num}
use Rattle.hc_sigtext.specs.declared.tree.Sig.{Sig}
use Rattle.hc_lines.specs.declared.tree.What.TheVariants as what
use Rattle.hc_lines.specs.declared.tree.BenchValue.{BenchValue}
use Rattle.hc_lines.specs.declared.tree.BenchValue.TheVariants as value
use Rattle.hc_lines.specs.declared.tree.BenchWhat.TheVariants as bench_step
use Rattle.hc_lines.specs.declared.line.Keyword.{Keyword}
use Rattle.hc_lines.specs.declared.line.Keyword.TheVariants as key
use Rattle.hc_tokens.specs.Tokens.{same_bytes}
use Rattle.hc_tokens.specs.Words.{is_name}
use Rattle.hc_lines.specs.Grammar as g
use Rattle.hc_lines.specs.Grammar.{Text, Tokens, Line}
use Rattle.hc_tokens.specs.Reading.{Read, go_on, choose, inside, number_at, atom}
use Rattle.hc_sigtext.specs.SigReading.{bind, ident_at, signal_at}

-- ---- parts

abbrev pub atom_at : ℕ → Read Num
atom_at d = atom (inside d)

abbrev pub name : Read Text
name [] = None
name (Word w ∷ ts) = cond (is_name w) (Some (w, ts)) None
name (t ∷ ts) = None

abbrev pub past_equals : Tokens → Option Tokens
past_equals [] = None
past_equals (Mark mark.Equals ∷ ts) = Some ts
past_equals (t ∷ ts) = None

abbrev pub past_colon : Tokens → Option Tokens
past_colon [] = None
past_colon (Mark mark.Colon ∷ ts) = Some ts
past_colon (t ∷ ts) = None

abbrev pub past_end : Tokens → Option Tokens
past_end [] = Some []
past_end (t ∷ ts) = None

-- one part and then another
abbrev pub seq : {A B : Type 0} → Read A → Read B → Read (A × B)
seq R S ts = go_on (R ts) (λ a rest. go_on (S rest) (λ b left. Some ((a, b), left)))

-- at most k further items, up to where `stop` says
unfoldable pub items : {A : Type 0} → (Tokens → Option Tokens) → Read A → ℕ → List A → Read (List A)
items stop item zero xs ts = choose (stop ts) None (λ rest. Some (xs, rest))
items stop item (suc k) xs ts = choose (stop ts) (go_on (item ts) (λ x more. items stop item k (xs ++ x ∷ []) more)) (λ rest. Some (xs, rest))

-- all items up to there
unfoldable pub all_items : {A : Type 0} → (Tokens → Option Tokens) → Read A → Read (List A)
all_items stop item ts = items stop item (length ts) [] ts

abbrev pub conn : ℕ → Read (Text × Sig)
conn d ts = go_on (name ts) (λ p rest. bind (past_equals rest) (λ more. go_on (signal_at d more) (λ s left. Some ((p, s), left))))

abbrev pub after_word : {A : Type 0} → Bool → Read A → Tokens → Tokens → Option (Option A × Tokens)
after_word true R ts all = go_on (R ts) (λ a rest. Some (Some a, rest))
after_word false R ts all = Some (None, all)

-- a part that stands after a word, or not
abbrev pub optional : {A : Type 0} → Text → Read A → Read (Option A)
optional k R [] = Some (None, [])
optional k R (Word w ∷ ts) = after_word (same_bytes w k) R ts (Word w ∷ ts)
optional k R (t ∷ ts) = Some (None, t ∷ ts)

abbrev pub negated : ℤ → Read BenchValue
negated z ts = cond (int_le (pos 0) z) (Some (value.Plain (neg_ℤ z), ts)) None

abbrev pub minus_value : Read BenchValue
minus_value [] = None
minus_value (Int z ∷ ts) = negated z ts
minus_value (t ∷ ts) = None

abbrev pub value_of : Read BenchValue
value_of [] = None
value_of (Int z ∷ ts) = Some (value.Plain z, ts)
value_of (Sized w v ∷ ts) = Some (value.Sized w v, ts)
value_of (Operator num_op.Sub ∷ ts) = minus_value ts
value_of (t ∷ ts) = None

-- ---- lines

abbrev pub is_end : Tokens → Bool
is_end [] = true
is_end (t ∷ ts) = false

abbrev pub at_end : {A : Type 0} → A → Tokens → Option A
at_end a ts = cond (is_end ts) (Some a) None

-- all tokens are this part
abbrev pub whole_of : {A B : Type 0} → Option (A × Tokens) → (A → B) → Option B
whole_of None f = None
whole_of (Some p) f = at_end (f p.0) p.1

unfoldable pub circuit_line : Tokens → Option Line
circuit_line ts = whole_of (seq name (all_items past_end name) ts) (λ p. g.Circuit p.0 p.1)

unfoldable pub port_line : Bool → ℕ → Tokens → Option Line
port_line is_input d ts = whole_of (seq name (number_at d) ts) (λ p. g.Port is_input p.0 p.1)

unfoldable pub let_line : ℕ → Tokens → Option Line
let_line d ts = whole_of (seq (ident_at d) (signal_at d) ts) (λ p. g.Simple (what.Let p.0 p.1))

unfoldable pub wire_line : ℕ → Tokens → Option Line
wire_line d ts = whole_of (seq (ident_at d) (number_at d) ts) (λ p. g.Simple (what.Wire p.0 p.1))

unfoldable pub assign_line : ℕ → Tokens → Option Line
assign_line d ts = whole_of (seq (ident_at d) (signal_at d) ts) (λ p. g.Simple (what.Assign p.0 p.1))

unfoldable pub label_line : ℕ → Tokens → Option Line
label_line d ts = whole_of (seq (ident_at d) name ts) (λ p. g.Simple (what.Label p.0 p.1))

-- the parts of a register after its next value
unfoldable pub clear_parts : ℕ → Read (Option (Sig × Num) × Option Num)
clear_parts d = seq (optional (codes "clear") (seq (signal_at d) (atom_at d))) (optional (codes "init") (atom_at d))

unfoldable pub reg_parts : ℕ → Read (Option Sig × (Option (Sig × Num) × Option Num))
reg_parts d = seq (optional (codes "enable") (signal_at d)) (clear_parts d)

unfoldable pub reg_line : ℕ → Tokens → Option Line
reg_line d ts = whole_of (seq (ident_at d) (seq (signal_at d) (reg_parts d)) ts) (λ p. g.Simple (what.Reg p.0 p.1.0 p.1.1.0 p.1.1.1.0 p.1.1.1.1))

unfoldable pub memory_line : ℕ → Tokens → Option Line
memory_line d ts = whole_of (seq (ident_at d) (seq (atom_at d) (atom_at d)) ts) (λ p. g.Simple (what.Memory p.0 p.1.0 p.1.1))

unfoldable pub two_signals : ℕ → Read (Sig × Sig)
two_signals d = seq (signal_at d) (signal_at d)

-- enable, address and value of a write port
unfoldable pub write_parts : ℕ → Read (Sig × (Sig × Sig))
write_parts d = seq (signal_at d) (two_signals d)

unfoldable pub write_line : ℕ → Tokens → Option Line
write_line d ts = whole_of (seq (ident_at d) (write_parts d) ts) (λ p. g.Simple (what.Write p.0 p.1.0 p.1.1.0 p.1.1.1))

unfoldable pub inst_line : ℕ → Tokens → Option Line
inst_line d ts = whole_of (seq (ident_at d) (seq name (seq (all_items past_colon (atom_at d)) (all_items past_end (conn d)))) ts) (λ p. g.Simple (what.Inst p.0 p.1.0 p.1.1.0 p.1.1.1))

unfoldable pub for_line : ℕ → Tokens → Option Line
for_line d ts = whole_of (seq name (seq (atom_at d) (atom_at d)) ts) (λ p. g.For p.0 p.1.0 p.1.1)

unfoldable pub if_line : ℕ → Tokens → Option Line
if_line d ts = whole_of (number_at d ts) (λ n. g.If n)

unfoldable pub top_line : ℕ → Tokens → Option Line
top_line d ts = whole_of (seq name (all_items past_end (atom_at d)) ts) (λ p. g.Top p.0 p.1)

unfoldable pub set_line : Tokens → Option Line
set_line ts = whole_of (seq name value_of ts) (λ p. g.Step (bench_step.Set p.0 p.1))

abbrev pub cycle_line : Tokens → Option Line
cycle_line [] = Some (g.Step (bench_step.Cycle (pos 1)))
cycle_line (Int z ∷ ts) = at_end (g.Step (bench_step.Cycle z)) ts
cycle_line (t ∷ ts) = None

unfoldable pub line_by : Keyword → ℕ → Tokens → Option Line
line_by key.Circuit d ts = circuit_line ts
line_by key.Input d ts = port_line true d ts
line_by key.Output d ts = port_line false d ts
line_by key.Let d ts = let_line d ts
line_by key.Wire d ts = wire_line d ts
line_by key.Assign d ts = assign_line d ts
line_by key.Label d ts = label_line d ts
line_by key.Reg d ts = reg_line d ts
line_by key.Memory d ts = memory_line d ts
line_by key.Write d ts = write_line d ts
line_by key.Inst d ts = inst_line d ts
line_by key.For d ts = for_line d ts
line_by key.If d ts = if_line d ts
line_by key.Else d ts = at_end g.Else ts
line_by key.End d ts = at_end g.End ts
line_by key.Top d ts = top_line d ts
line_by key.Bench d ts = at_end g.Bench ts
line_by key.Set d ts = set_line ts
line_by key.Cycle d ts = cycle_line ts
line_by key.Reset d ts = at_end (g.Step bench_step.Reset) ts

-- ---- the first word

abbrev pub written : Keyword → Text
written key.Circuit = codes "circuit"
written key.Input = codes "input"
written key.Output = codes "output"
written key.Let = codes "let"
written key.Wire = codes "wire"
written key.Assign = codes "assign"
written key.Label = codes "label"
written key.Reg = codes "reg"
written key.Memory = codes "memory"
written key.Write = codes "write"
written key.Inst = codes "inst"
written key.For = codes "for"
written key.If = codes "if"
written key.Else = codes "else"
written key.End = codes "end"
written key.Top = codes "top"
written key.Bench = codes "bench"
written key.Set = codes "set"
written key.Cycle = codes "cycle"
written key.Reset = codes "reset"

abbrev pub keywords : List Keyword
keywords = key.Circuit ∷ key.Input ∷ key.Output ∷ key.Let ∷ key.Wire ∷ key.Assign ∷ key.Label ∷ key.Reg ∷ key.Memory ∷ key.Write ∷ key.Inst ∷ key.For ∷ key.If ∷ key.Else ∷ key.End
    ∷ key.Top ∷ key.Bench ∷ key.Set ∷ key.Cycle ∷ key.Reset ∷ []

abbrev pub keyword_among : Text → List Keyword → Option Keyword
keyword_among w [] = None
keyword_among w (c ∷ cs) = cond (same_bytes w (written c)) (Some c) (keyword_among w cs)

unfoldable pub keyword_of : Text → Option Keyword
keyword_of w = keyword_among w keywords

-- a line, at most d brackets of which are open at a place
abbrev pub line_at : ℕ → Tokens → Option Line
line_at d [] = None
line_at d (Word w ∷ ts) = bind (keyword_of w) (λ k. line_by k d ts)
line_at d (t ∷ ts) = None
