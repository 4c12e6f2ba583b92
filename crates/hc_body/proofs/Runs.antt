-- Events one after another, and the unrolled body that they are.
use Rattle.std.proofs.Common.{◌≡◌, ℕ, suc, ◌+◌, ◌<◌, Bool, true, false, if◌then◌else◌, List, [], ◌∷◌, ◌++◌, map, flat_map, drop, length, get_or, refl, sym, ap, ◌∙◌, arith}
use Rattle.std.proofs.lemmas.List.{at_drop_more}
use Rattle.std.specs.Prelude.{nat_lt, Result, Ok, Err, ℤ}
use Rattle.hc_fault.specs.declared.fault.FaultKind.TheVariants.{TooManyStatements}
use Rattle.hc_fault.specs.declared.fault.Fault.{Fault}
use Rattle.hc_fault.specs.declared.fault.Path.{Path}
use Rattle.hc_fault.specs.declared.fault.Refused.{Refused}
use Rattle.hc_fault.specs.declared.fault.Refused.TheVariants as refused
use Rattle.hc_statements.specs.Gives.{Refuses}
use Rattle.hc_lang.specs.declared.tree.Design.{Design}
use Rattle.hc_lang.specs.declared.tree.CircuitText.{CircuitText}
use Rattle.hc_lines.specs.declared.tree.Stmt.{Stmt}
use Rattle.hc_statements.specs.PortWidths.{PortWidths, port_widths, parameters}
use Rattle.hc_body.specs.Opened.{opened, opened_with}
use Rattle.hc_statements.specs.Statements.{open_heads}
use Rattle.hc_num.specs.Value.{Bindings}
use Rattle.hc_statements.specs.Unrolled.{turn, Events, Does, Counts, Stops, block, events, events_of, Do, Stop, counted, count_of, most_counted, unrolled}
use Rattle.hc_statements.specs.Steps.{nothing}
use Rattle.hc_statements.specs.declared.state.Elaborating.{Elaborating}
use Rattle.hc_statements.specs.Elaborated.{fault_at, statement, elaborated, go_on, first_step, weighed, after_heads, call_elaborated}
use Rattle.hc_body.specs.Running.{Progress, IsPlain, and_then, with_count, counted_on, after_event, run}

-- what was drawn, without the count
abbrev pub drawn : Result Progress Fault → Result Elaborating Fault
drawn (Ok p) = Ok p.1
drawn (Err fault) = Err fault

chain : {A B C : Type 0} (x : Result A Fault) (f : A → Result B Fault) (g : B → Result C Fault) → and_then (and_then x f) g ≡ and_then x (λ a. and_then (f a) g)
chain (Ok a) f g = refl
chain (Err fault) f g = refl

pub run_append : (d : Design) (path : Path) (es fs : Events) (p : Progress) → run d path (es ++ fs) p ≡ and_then (run d path es p) (run d path fs)
run_append d path [] fs p = refl
run_append d path (x ∷ es) fs p = by (after_event d path x p) (λ q. run_append d path es fs q) ∙ sym (chain (after_event d path x p) (run d path es) (run d path fs))
  where
    by : (r : Result Progress Fault) → ((q : Progress) → run d path (es ++ fs) q ≡ and_then (run d path es q) (run d path fs))
        → and_then r (run d path (es ++ fs)) ≡ and_then r (λ q. and_then (run d path es q) (run d path fs))
    by (Ok q) more = more q
    by (Err fault) more = refl

-- ---- the unrolled body

pub run_unrolled : (d : Design) (path : Path) (es : Events) (n : ℕ) (e : Elaborating) → elaborated d path (counted n es) e ≡ drawn (run d path es (n, e))
run_unrolled d path [] n e = refl
run_unrolled d path (Stops line kind ∷ es) n e = refl
run_unrolled d path (Counts line ∷ es) n e = by (nat_lt n most_counted) (run_unrolled d path es (suc n) e)
  where
    by : (b : Bool) → elaborated d path (counted (suc n) es) e ≡ drawn (run d path es (suc n, e))
        → elaborated d path (if b then counted (suc n) es else Stop line TooManyStatements ∷ []) e ≡ drawn
        (and_then (and_then (if b then Ok (suc n) else Err (fault_at path TooManyStatements line)) (λ m. Ok (m, e))) (run d path es))
    by true more = more
    by false more = refl
run_unrolled d path (Does line s ∷ es) n e = by (nat_lt n most_counted) (λ f. run_unrolled d path es (suc n) f)
  where
    next : (r : Result Elaborating Fault) → ((f : Elaborating) → elaborated d path (counted (suc n) es) f ≡ drawn (run d path es (suc n, f)))
        → go_on d path r (elaborated d path (counted (suc n) es)) ≡ drawn (and_then (with_count (suc n) r) (run d path es))
    next (Ok f) more = more f
    next (Err fault) more = refl

    by : (b : Bool) → ((f : Elaborating) → elaborated d path (counted (suc n) es) f ≡ drawn (run d path es (suc n, f)))
        → elaborated d path (if b then Do (suc n) line s ∷ counted (suc n) es else Stop line TooManyStatements ∷ []) e ≡ drawn
        (and_then (and_then (if b then Ok (suc n) else Err (fault_at path TooManyStatements line)) (λ m. with_count m (statement d path m line s e))) (run d path es))
    by true more = next (statement d path (suc n) line s e) more
    by false more = refl

-- where no fault comes, all lines and turns counted
pub run_counts : (d : Design) (path : Path) (es : Events) (p q : Progress) → run d path es p ≡ Ok q → q.0 ≡ p.0 + count_of es
run_counts d path [] p q e = let same : p ≡ q = cc in let n : q.0 ≡ p.0 = ap (λ (x : Progress). x.0) (sym same) in omega (arith, n)
run_counts d path (Stops line kind ∷ es) p q e = absurd cc
run_counts d path (Counts line ∷ es) p q e = by (nat_lt p.0 most_counted) e (λ f is. run_counts d path es (suc p.0, f) q is)
  where
    by : (b : Bool) → and_then (and_then (if b then Ok (suc p.0) else Err (fault_at path TooManyStatements line)) (λ m. Ok (m, p.1))) (run d path es) ≡ Ok q
        → ((f : Elaborating) → run d path es (suc p.0, f) ≡ Ok q → q.0 ≡ suc p.0 + count_of es) → q.0 ≡ p.0 + suc (count_of es)
    by true is more = let h = more p.1 is in omega (arith, h)
    by false is more = absurd cc
run_counts d path (Does line s ∷ es) p q e = by (nat_lt p.0 most_counted) (statement d path (suc p.0) line s p.1) refl e (λ f is. run_counts d path es (suc p.0, f) q is)
  where
    by : (b : Bool) (r : Result Elaborating Fault) → statement d path (suc p.0) line s p.1 ≡ r
        → and_then (and_then (if b then Ok (suc p.0) else Err (fault_at path TooManyStatements line)) (λ m. with_count m (statement d path m line s p.1))) (run d path es) ≡ Ok q
        → ((f : Elaborating) → run d path es (suc p.0, f) ≡ Ok q → q.0 ≡ suc p.0 + count_of es) → q.0 ≡ p.0 + suc (count_of es)
    by true (Ok f) same is more = let h = more f (ap (λ (x : Result Elaborating Fault). and_then (with_count (suc p.0) x) (run d path es)) (sym same) ∙ is) in omega (arith, h)
    by true (Err fault) same is more = let no : and_then (with_count (suc p.0) (Err fault)) (run d path es) ≡ Ok q = ap
        (λ (x : Result Elaborating Fault). and_then (with_count (suc p.0) x) (run d path es)) (sym same) ∙ is in absurd cc
    by false r same is more = absurd cc

-- ---- blocks

pub block_events : (body : List Stmt) (env : Bindings) → block (map events_of body) env ≡ events body env
block_events [] env = refl
block_events (s ∷ body) env = ap (λ (es : Events). events_of s env ++ es) (block_events body env)

pub plain_runs : (d : Design) (path : Path) (line n : ℕ) (es : Events) (e : Elaborating) → IsPlain line es
    → run d path es (n, e) ≡ and_then (counted_on path line n) (λ m. with_count m (weighed d path m line (first_step d es e)))
plain_runs d path line n [] e plain = absurd plain
plain_runs d path line n (Stops at kind ∷ es) e plain = absurd plain
plain_runs d path line n (Counts at ∷ es) e plain = absurd plain
plain_runs d path line n (Does at s ∷ (x ∷ es)) e plain = absurd plain
plain_runs d path line n (Does at s ∷ []) e plain = ends (and_then (counted_on path at n) (λ m. with_count m (statement d path m at s e)))
    ∙ ap (λ (l : ℕ). and_then (counted_on path l n) (λ m. with_count m (weighed d path m l (first_step d (Does at s ∷ []) e)))) plain
  where
    ends : (r : Result Progress Fault) → and_then r (λ p. Ok p) ≡ r
    ends (Ok p) = refl
    ends (Err fault) = refl

-- one statement more of a block
pub block_more : (d : Design) (path : Path) (env : Bindings) (body : List Stmt) (i : ℕ) (s : Stmt) (p q : Progress) (all : Result Progress Fault) → i < length body
    → s ≡ get_or body i s → run d path (events_of s env) p ≡ Ok q → run d path (events (drop i body) env) p ≡ all → run d path (events (drop (i + 1) body) env) q ≡ all
block_more d path env body i s p q all within item is before =
    let rest : Events = events (drop (i + 1) body) env in
    let cut : events (drop i body) env ≡ events_of s env ++ rest = at_drop_more (flat_map (λ (t : Stmt). events_of t env)) body i s within ∙ ap (λ (t : Stmt). events_of t env ++ rest) (sym item) in
    sym (ap (λ (es : Events). run d path es p) cut ∙ run_append d path (events_of s env) rest p ∙ ap (λ (r : Result Progress Fault). and_then r (run d path rest)) is) ∙ before

-- a statement of a block that has a fault
pub block_fault : (d : Design) (path : Path) (env : Bindings) (body : List Stmt) (i : ℕ) (s : Stmt) (p : Progress) (fault : Fault) (all : Result Progress Fault)
    → i < length body → s ≡ get_or body i s → run d path (events_of s env) p ≡ Err fault → run d path (events (drop i body) env) p ≡ all → all ≡ Err fault
block_fault d path env body i s p fault all within item is before =
    let rest : Events = events (drop (i + 1) body) env in
    let cut : events (drop i body) env ≡ events_of s env ++ rest = at_drop_more (flat_map (λ (t : Stmt). events_of t env)) body i s within ∙ ap (λ (t : Stmt). events_of t env ++ rest) (sym item) in
    sym before ∙ ap (λ (es : Events). run d path es p) cut ∙ run_append d path (events_of s env) rest p ∙ ap (λ (r : Result Progress Fault). and_then r (run d path rest)) is

pub block_refuses : (d : Design) (path : Path) (env now : Bindings) (body : List Stmt) (i : ℕ) (s : Stmt) (p : Progress) (stop : Refused) (all : Result Progress Fault)
    → i < length body → s ≡ get_or body i s → now ≡ env → Refuses stop (run d path (events_of s now) p) → run d path (events (drop i body) env) p ≡ all → Refuses stop all
block_refuses d path env now body i s p (refused.Fault fault) all within item same is before = block_fault d path env body i s p fault all within item
    (ap (λ (b : Bindings). run d path (events_of s b) p) (sym same) ∙ is) before
block_refuses d path env now body i s p refused.NoMemory all within item same is before = tt

-- ---- a turn

pub turn_runs : (d : Design) (path : Path) (line n m : ℕ) (v : List ℕ) (body : List Stmt) (env now : Bindings) (i : ℤ) (e : Elaborating) → counted_on path line n ≡ Ok m
    → now ≡ (v, i) ∷ env → run d path (turn line v (map events_of body) env i) (n, e) ≡ run d path (events body now) (m, e)
turn_runs d path line n m v body env now i e counts binds =
    ap (λ (r : Result ℕ Fault). and_then (and_then r (λ k. Ok (k, e))) (run d path (block (map events_of body) ((v, i) ∷ env)))) counts
    ∙ ap (λ (es : Events). run d path es (m, e)) (block_events body ((v, i) ∷ env))
    ∙ ap (λ (b : Bindings). run d path (events body b) (m, e)) (sym binds)

-- ---- a whole call

opened_ok : (d : Design) (path : Path) (c : CircuitText) (args : List ℤ) (e : Elaborating) (ws : PortWidths) → opened_with path c ws ≡ Ok e
    → after_heads d path c args ws ≡ elaborated d path (counted 0 (events c.body (parameters c args))) e
opened_ok d path c args e (Err f) is = absurd cc
opened_ok d path c args e (Ok ws) is = let same : open_heads c.heads ws nothing ≡ e = cc in ap (elaborated d path (counted 0 (events c.body (parameters c args)))) same

opened_err : (d : Design) (path : Path) (c : CircuitText) (args : List ℤ) (fault : Fault) (ws : PortWidths) → opened_with path c ws ≡ Err fault → after_heads d path c args ws ≡ Err fault
opened_err d path c args fault (Err f) is = let same : fault_at path f.1 f.0 ≡ fault = cc in ap (λ (x : Fault). let r : Result Elaborating Fault = Err x in r) same
opened_err d path c args fault (Ok ws) is = absurd cc

pub not_opened : (d : Design) (path : Path) (c : CircuitText) (args : List ℤ) (stop : Refused) → Refuses stop (opened path c args) → Refuses stop (call_elaborated d path c args)
not_opened d path c args (refused.Fault fault) is = opened_err d path c args fault (port_widths c args) is
not_opened d path c args refused.NoMemory is = tt

pub runs_all : (d : Design) (path : Path) (c : CircuitText) (args : List ℤ) (e : Elaborating) (env : Bindings) (n : ℕ) (stmts : List Stmt) (r : Result Progress Fault)
    → opened path c args ≡ Ok e → env ≡ parameters c args → n ≡ 0 → stmts ≡ c.body → run d path (events stmts env) (n, e) ≡ r → call_elaborated d path c args ≡ drawn r
runs_all d path c args e env n stmts r is binds none whole runs =
    opened_ok d path c args e (port_widths c args) is
    ∙ run_unrolled d path (events c.body (parameters c args)) 0 e
    ∙ ap drawn (ap (λ (b : Bindings). run d path (events c.body b) (0, e)) (sym binds) ∙ ap (λ (k : ℕ). run d path (events c.body env) (k, e)) (sym none)
    ∙ ap (λ (l : List Stmt). run d path (events l env) (n, e)) (sym whole) ∙ runs)

pub refuses_all : (d : Design) (path : Path) (c : CircuitText) (args : List ℤ) (e : Elaborating) (env : Bindings) (n : ℕ) (stmts : List Stmt) (stop : Refused)
    → opened path c args ≡ Ok e → env ≡ parameters c args → n ≡ 0 → stmts ≡ c.body → Refuses stop (run d path (events stmts env) (n, e))
    → Refuses stop (call_elaborated d path c args)
refuses_all d path c args e env n stmts (refused.Fault fault) is binds none whole runs = runs_all d path c args e env n stmts (Err fault) is binds none whole runs
refuses_all d path c args e env n stmts refused.NoMemory is binds none whole runs = tt

pub counts_all : (d : Design) (path : Path) (c : CircuitText) (args : List ℤ) (e f : Elaborating) (env : Bindings) (n m : ℕ) (stmts : List Stmt) → env ≡ parameters c args
    → n ≡ 0 → stmts ≡ c.body → run d path (events stmts env) (n, e) ≡ Ok (m, f) → m ≡ (unrolled c.body (parameters c args)).count
counts_all d path c args e f env n m stmts binds none whole runs =
    let count : m ≡ n + count_of (events c.body env) = run_counts d path (events c.body env) (n, e) (m, f) (ap (λ (l : List Stmt). run d path (events l env) (n, e)) (sym whole) ∙ runs) in
    let same : count_of (events c.body env) ≡ count_of (events c.body (parameters c args)) = ap (λ (b : Bindings). count_of (events c.body b)) binds in
    omega (arith, count, none, same)
