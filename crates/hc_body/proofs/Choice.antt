-- A choice, as events.
use Rattle.std.proofs.Common.{◌≡◌, ℕ, Bool, true, false, if◌then◌else◌, List, ◌∷◌, map, sym, ap, ◌∙◌}
use Rattle.std.specs.Prelude.{Result, Ok, Err, pos}
use Rattle.std.specs.Ordering.{int_eq}
use Rattle.hc_fault.specs.declared.fault.Fault.{Fault}
use Rattle.hc_fault.specs.declared.fault.Path.{Path}
use Rattle.hc_lang.specs.declared.tree.Design.{Design}
use Rattle.hc_tokens.specs.declared.tree.Num.{Num}
use Rattle.hc_lines.specs.declared.tree.Stmt.{Stmt}
use Rattle.hc_lines.specs.declared.tree.What.{What}
use Rattle.hc_lines.specs.declared.tree.What.TheVariants as What
use Rattle.hc_lines.specs.declared.tree.What.TheOpen.{What-F}
use Rattle.hc_lines.specs.declared.tree.What.TheFolds.{fold-What, fold-roll-What, fold_out-Stmt}
use Rattle.hc_num.specs.Value.{Bindings, Outcome}
use Rattle.hc_unfold.specs.Signals.{number}
use Rattle.hc_statements.specs.declared.state.Elaborating.{Elaborating}
use Rattle.hc_body.specs.Running.{and_then, counted_on, on_line, run}
use Rattle.hc_body.proofs.Runs.{block_events}
use Rattle.hc_statements.specs.Unrolled.{Runs, Events, Counts, block, branch, events, events_of, what_level, stmt_level}

abbrev what_runs : What → ℕ → Runs
what_runs = fold-What (ℕ → Runs) Runs what_level stmt_level

if_runs : (cond : Num) (part other : List Stmt) → what_runs (What.If cond part other) ≡ what_level (What-F.If cond (map events_of part) (map events_of other))
if_runs cond part other = ap what_runs (sym (What.rolls-If cond part other)) ∙ fold-roll-What (ℕ → Runs) Runs what_level stmt_level (What-F.If cond part other)

pub choice_events : (s : Stmt) (cond : Num) (part other : List Stmt) (env : Bindings) → s.what ≡ What.If cond part other
    → events_of s env ≡ Counts s.line ∷ branch s.line (map events_of part) (map events_of other) env (number env cond)
choice_events s cond part other env is =
    ap (λ (f : Runs). f env) (fold_out-Stmt (ℕ → Runs) Runs what_level stmt_level s)
    ∙ ap (λ (f : ℕ → Runs). f s.line env) (ap what_runs is ∙ if_runs cond part other)

-- it counts, it has a number, and then one of its parts runs
pub choice_runs : (d : Design) (path : Path) (s : Stmt) (cond : Num) (part other chosen : List Stmt) (env : Bindings) (n m : ℕ) (e : Elaborating) (b : Bool)
    → s.what ≡ What.If cond part other → counted_on path s.line n ≡ Ok m → and_then (on_line path s.line (number env cond)) (λ z. Ok (int_eq z (pos 0))) ≡ Ok b
    → chosen ≡ (if b then other else part) → run d path (events_of s env) (n, e) ≡ run d path (events chosen env) (m, e)
choice_runs d path s cond part other chosen env n m e b is counts has picks =
    ap (λ (es : Events). run d path es (n, e)) (choice_events s cond part other env is)
    ∙ by (number env cond) has
    ∙ ap (λ (es : Events). run d path es (m, e)) (pick b)
    ∙ ap (λ (l : List Stmt). run d path (events l env) (m, e)) (sym picks)
  where
    by : (o : Outcome) → and_then (on_line path s.line o) (λ z. Ok (int_eq z (pos 0))) ≡ Ok b
        → run d path (Counts s.line ∷ branch s.line (map events_of part) (map events_of other) env o) (n, e) ≡ run d path
        (if b then block (map events_of other) env else block (map events_of part) env) (m, e)
    by (Err kind) has = absurd cc
    by (Ok x) has =
        let same : int_eq x (pos 0) ≡ b = cc in
        ap (λ (r : Result ℕ Fault). and_then (and_then r (λ k. Ok (k, e))) (run d path (branch s.line (map events_of part) (map events_of other) env (Ok x)))) counts
        ∙ ap (λ (c : Bool). run d path (if c then block (map events_of other) env else block (map events_of part) env) (m, e)) same

    pick : (c : Bool) → (if c then block (map events_of other) env else block (map events_of part) env) ≡ events (if c then other else part) env
    pick true = block_events other env
    pick false = block_events part env
