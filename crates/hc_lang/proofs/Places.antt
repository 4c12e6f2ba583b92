-- What the outline after rows says of them.
use Rattle.std.proofs.Common.{◌≡◌, ℕ, suc, ◌≤◌, nat_lt, nat_eq, Bool, true, false, ◌&&◌, cond, List, [], ◌∷◌, ◌++◌, map, length, Option, Some, None, refl, sym, ◌∙◌, ap, subst, append_assoc, arith}
use Rattle.std.specs.Option.{option_map}
use Rattle.std.proofs.lemmas.Bool.Decides.{nat_tests}
use Rattle.hc_lines.specs.declared.tree.Stmt.{Stmt}
use Rattle.hc_lines.specs.declared.line.Line.TheVariants as g
use Rattle.hc_lines.specs.Grammar.{Text}
use Rattle.hc_lines.specs.declared.line.Line.{Line}
use Rattle.hc_lang.specs.declared.tree.Head.{Head}
use Rattle.hc_lang.specs.declared.tree.CircuitText.{CircuitText}
use Rattle.hc_lang.specs.declared.tree.TopLine.{TopLine}
use Rattle.hc_lang.specs.declared.tree.BenchLine.{BenchLine}
use Rattle.hc_lang.specs.declared.outline.Opening.{Opening}
use Rattle.hc_lang.specs.declared.outline.Opening.TheVariants as opening
use Rattle.hc_lang.specs.declared.outline.Block.{Block}
use Rattle.hc_lang.specs.declared.outline.OpenCircuit.{OpenCircuit}
use Rattle.hc_lang.specs.declared.outline.Place.{Place}
use Rattle.hc_lang.specs.declared.outline.Place.TheVariants as place
use Rattle.hc_lang.specs.declared.outline.Outline.{Outline}
use Rattle.hc_lang.specs.Reads as r
use Rattle.hc_lang.specs.Reads.{Row, AreStmts, AreCircuits, head_row, step_row, stmt, after_row}
use Rattle.hc_lang.specs.Structure as s
use Rattle.hc_lang.specs.Structure.{circuit, block, closed, outline, head, bench_line, top_line, after, after_circuits, after_circuit, after_top, in_bench, turned}
use Rattle.hc_lang.proofs.Stmts.{append-nil, circuits_append, one_circuit, InBlocks, blocks_more, blocks_end}

-- ---- what an outline says

pub record InCircuit (rows : List Row) (cs : List CircuitText) (c : OpenCircuit) : Type 0 where
  pub before : List Row
  pub body : List Row
  pub parts : rows ≡ before ++ ((c.line, g.Circuit c.name c.params) ∷ (map head_row c.heads ++ body))
  pub are_circuits : AreCircuits before cs
  pub in_blocks : InBlocks body c.blocks c.body

abbrev pub top_row : TopLine → Row
top_row t = (t.line, g.Top t.name t.args)

pub record AtTop (rows : List Row) (cs : List CircuitText) (t : TopLine) : Type 0 where
  pub before : List Row
  pub parts : rows ≡ before ++ (top_row t ∷ [])
  pub are_circuits : AreCircuits before cs

pub record InBench (rows : List Row) (cs : List CircuitText) (t : TopLine) (first : ℕ) (steps : List BenchLine) : Type 0 where
  pub before : List Row
  pub parts : rows ≡ before ++ (top_row t ∷ ((first, g.Bench) ∷ map step_row steps))
  pub are_circuits : AreCircuits before cs

pub record AtEnd (rows : List Row) (cs : List CircuitText) (t : TopLine) (steps : List BenchLine) : Type 0 where
  pub before : List Row
  pub first : ℕ
  pub last : ℕ
  pub parts : rows ≡ before ++ (top_row t ∷ ((first, g.Bench) ∷ (map step_row steps ++ ((last, g.End) ∷ []))))
  pub are_circuits : AreCircuits before cs

abbrev pub Stands : List Row → List CircuitText → Place → Type 0
Stands rows cs place.Start = AreCircuits rows cs
Stands rows cs (place.Circuit c) = InCircuit rows cs c
Stands rows cs (place.Top t) = AtTop rows cs t
Stands rows cs (place.Bench t first steps) = InBench rows cs t first steps
Stands rows cs (place.End t steps) = AtEnd rows cs t steps

abbrev pub block_line : Block → ℕ
block_line b = b.line

abbrev pub lines_at : Place → List ℕ
lines_at (place.Circuit c) = map block_line c.blocks
lines_at (place.Bench t n steps) = n ∷ []
lines_at p = []

-- ---- one row more

abbrev pub Next : ℕ → List Row → List ℕ → Row → Outline → Type 0
Next most rows o r q = Stands (rows ++ r ∷ []) q.circuits q.place × (after_row r o ≡ lines_at q.place) × (length o ≤ most → length (lines_at q.place) ≤ most)

is_some : {A : Type 0} (a b : A) → Some a ≡ Some b → a ≡ b
is_some a b e = cc

begun : (most : ℕ) (rows : List Row) (cs : List CircuitText) (n : ℕ) (l : Line) (q : Outline) → AreCircuits rows cs → after_circuits cs n l ≡ Some q → Next most rows [] (n, l) q
begun most rows cs n (g.Circuit w ps) q h e =
    subst (λ q. Next most rows [] (n, g.Circuit w ps) q) (is_some (outline cs (place.Circuit (circuit n w ps [] [] []))) q e)
    (record { before = rows; body = []; parts = refl; are_circuits = h; in_blocks = r.none }, refl, λ k. k)
begun most rows cs n (g.Top w args) q h e =
    subst (λ q. Next most rows [] (n, g.Top w args) q) (is_some (outline cs (place.Top (top_line n w args))) q e) (record { before = rows; parts = refl; are_circuits = h }, refl, λ k. k)
begun most rows cs n (g.Port i w width) q h e = absurd cc
begun most rows cs n (g.Simple w) q h e = absurd cc
begun most rows cs n (g.For v a b) q h e = absurd cc
begun most rows cs n (g.If c) q h e = absurd cc
begun most rows cs n g.Else q h e = absurd cc
begun most rows cs n g.End q h e = absurd cc
begun most rows cs n g.Bench q h e = absurd cc
begun most rows cs n (g.Step w) q h e = absurd cc

-- a circuit without open blocks is whole
pub whole : (rows : List Row) (cs : List CircuitText) (m : ℕ) (v : Text) (qs : List Text) (hs : List Head) (ss : List Stmt) → InCircuit rows cs (circuit m v qs hs [] ss)
    → AreCircuits rows (cs ++ closed (circuit m v qs hs [] ss) ∷ [])
whole rows cs m v qs hs ss h =
    let c : CircuitText = closed (circuit m v qs hs [] ss) in
    subst (λ rs. AreCircuits rs (cs ++ c ∷ [])) (sym h.parts) (circuits_append ((m, g.Circuit v qs) ∷ (map head_row hs ++ h.body)) (c ∷ []) h.are_circuits (one_circuit c h.body h.in_blocks))

parts_more : (rows before hs body : List Row) (x y : Row) → rows ≡ before ++ (x ∷ (hs ++ body)) → rows ++ y ∷ [] ≡ before ++ (x ∷ (hs ++ (body ++ y ∷ [])))
parts_more rows before hs body x y e = ap (λ rs. rs ++ y ∷ []) e ∙ append_assoc before (x ∷ (hs ++ body)) (y ∷ []) ∙ ap (λ rs. before ++ (x ∷ rs)) (append_assoc hs body (y ∷ []))

no_rows : {rows : List Row} {ss : List Stmt} → AreStmts rows ss → ss ≡ [] → rows ≡ []
no_rows r.none e = refl
no_rows (r.simple line w h) e = absurd cc
no_rows (r.loop line last v a b i h) e = absurd cc
no_rows (r.choice line last c i h) e = absurd cc
no_rows (r.choice_else line middle last c i k h) e = absurd cc

head_last : (hs : List Head) (h : Head) → map head_row hs ++ head_row h ∷ [] ≡ map head_row (hs ++ h ∷ [])
head_last [] h = refl
head_last (x ∷ hs) h = ap (λ rs. head_row x ∷ rs) (head_last hs h)

step_last : (xs : List BenchLine) (x : BenchLine) → map step_row xs ++ step_row x ∷ [] ≡ map step_row (xs ++ x ∷ [])
step_last [] x = refl
step_last (y ∷ xs) x = ap (λ rs. step_row y ∷ rs) (step_last xs x)

head_parts : (rows before body : List Row) (hs : List Head) (x : Row) (h : Head) → body ≡ [] → rows ≡ before ++ (x ∷ (map head_row hs ++ body))
    → rows ++ head_row h ∷ [] ≡ before ++ (x ∷ (map head_row (hs ++ h ∷ []) ++ []))
head_parts rows before body hs x h none e =
    parts_more rows before (map head_row hs) body x (head_row h) e
    ∙ ap (λ b. before ++ (x ∷ (map head_row hs ++ (b ++ head_row h ∷ [])))) none
    ∙ ap (λ rs. before ++ (x ∷ rs)) (head_last hs h ∙ sym (append-nil (map head_row (hs ++ h ∷ []))))

length_map : (bs : List Block) → length (map block_line bs) ≡ length bs
length_map [] = refl
length_map (b ∷ bs) = ap suc (length_map bs)

-- the test on how many blocks are open
chosen : {A B : Type 0} (t : Bool) (d : A) (f : A → B) (q : B) → option_map f (cond t (Some d) None) ≡ Some q → (t ≡ true) × (f d ≡ q)
chosen true d f q e = (refl, is_some (f d) q e)
chosen false d f q e = absurd cc

one_deeper : (most n : ℕ) (bs : List Block) → nat_lt (length bs) most ≡ true → suc (length (map block_line bs)) ≤ most
one_deeper most n bs t = let below : suc (length bs) ≤ most = grind (arith, nat_tests) in subst (λ k. suc k ≤ most) (sym (length_map bs)) below

some_items : {A : Type 0} (x : A) (xs : List A) → s.is_none (x ∷ xs) ≡ false
some_items x xs = not_zero (length xs)
  where
    not_zero : (k : ℕ) → nat_eq (suc k) 0 ≡ false
    not_zero k = grind (arith, nat_tests)

barred : {A : Type 0} (t : Bool) (x : Option A) (q : A) → t ≡ false → cond t x None ≡ Some q → ⊥
barred true x q f e = absurd cc
barred false x q f e = absurd cc

not_first : {A B : Type 0} (t : Bool) (d : A) (f : A → B) (q : B) → t ≡ false → option_map f (cond t (Some d) None) ≡ Some q → ⊥
not_first true d f q g e = absurd cc
not_first false d f q g e = absurd cc

at_else : (most : ℕ) (rows : List Row) (cs : List CircuitText) (m : ℕ) (v : Text) (qs : List Text) (hs : List Head) (k : ℕ) (o : Opening) (before : List Stmt) (bs : List Block)
    (ss : List Stmt) (n : ℕ) (q : Outline)
    → InCircuit rows cs (circuit m v qs hs (block k o before ∷ bs) ss)
    → option_map (λ d. outline cs (place.Circuit d)) (option_map (λ o. circuit m v qs hs (block k o before ∷ bs) []) (turned ss o)) ≡ Some q
    → Next most rows (k ∷ map block_line bs) (n, g.Else) q
at_else most rows cs m v qs hs k (opening.If c) before bs ss n q h e =
    let b = h.in_blocks in
    let o = b.4 in
    subst (λ q. Next most rows (k ∷ map block_line bs) (n, g.Else) q) (is_some (outline cs (place.Circuit (circuit m v qs hs (block k (opening.Else c ss) before ∷ bs) []))) q e) (
      record {
        before = h.before;
        body = h.body ++ (n, g.Else) ∷ [];
        parts = parts_more rows h.before (map head_row hs) h.body (m, g.Circuit v qs) (n, g.Else) h.parts;
        are_circuits = h.are_circuits;
        in_blocks = (
          b.0,
          b.1 ++ (n, g.Else) ∷ [],
          ap (λ rs. rs ++ (n, g.Else) ∷ []) b.2 ∙ append_assoc b.0 b.1 ((n, g.Else) ∷ []),
          b.3,
          (o.0, [], n, ap (λ rs. rs ++ (n, g.Else) ∷ []) o.1, o.2, r.none),
        );
      },
      refl,
      λ k. k,
    )
at_else most rows cs m v qs hs k (opening.For w a b) before bs ss n q h e = absurd cc
at_else most rows cs m v qs hs k (opening.Else c us) before bs ss n q h e = absurd cc

in_place : (most : ℕ) (rows : List Row) (cs : List CircuitText) (m : ℕ) (v : Text) (qs : List Text) (hs : List Head) (bs : List Block) (ss : List Stmt) (n : ℕ) (l : Line) (q : Outline)
    → InCircuit rows cs (circuit m v qs hs bs ss) → after_circuit most cs (circuit m v qs hs bs ss) n l ≡ Some q → Next most rows (map block_line bs) (n, l) q
in_place most rows cs m v qs hs [] ss n (g.Circuit w ps) q h e = begun most rows (cs ++ closed (circuit m v qs hs [] ss) ∷ []) n (g.Circuit w ps) q (whole rows cs m v qs hs ss h) e
in_place most rows cs m v qs hs (b ∷ bs) ss n (g.Circuit w ps) q h e = absurd (barred (s.is_none (b ∷ bs)) _ q (some_items b bs) e)
in_place most rows cs m v qs hs [] ss n (g.Top w args) q h e = begun most rows (cs ++ closed (circuit m v qs hs [] ss) ∷ []) n (g.Top w args) q (whole rows cs m v qs hs ss h) e
in_place most rows cs m v qs hs (b ∷ bs) ss n (g.Top w args) q h e = absurd (barred (s.is_none (b ∷ bs)) _ q (some_items b bs) e)
in_place most rows cs m v qs hs [] [] n (g.Port i w width) q h e =
    subst (λ q. Next most rows [] (n, g.Port i w width) q) (is_some (outline cs (place.Circuit (circuit m v qs (hs ++ head n i w width ∷ []) [] []))) q e) (
      record {
        before = h.before;
        body = [];
        parts = head_parts rows h.before h.body hs (m, g.Circuit v qs) (head n i w width) (no_rows h.in_blocks refl) h.parts;
        are_circuits = h.are_circuits;
        in_blocks = r.none;
      },
      refl,
      λ k. k,
    )
in_place most rows cs m v qs hs [] (t ∷ ss) n (g.Port i w width) q h e = absurd (not_first (s.is_none (t ∷ ss)) _ _ q (some_items t ss) e)
in_place most rows cs m v qs hs (b ∷ bs) ss n (g.Port i w width) q h e = absurd (not_first (s.is_none (b ∷ bs) && s.is_none ss) _ _ q (ap (λ t. t && s.is_none ss) (some_items b bs)) e)
in_place most rows cs m v qs hs bs ss n (g.Simple w) q h e =
    subst (λ q. Next most rows (map block_line bs) (n, g.Simple w) q) (is_some (outline cs (place.Circuit (circuit m v qs hs bs (ss ++ stmt n w ∷ [])))) q e) (
      record {
        before = h.before;
        body = h.body ++ (n, g.Simple w) ∷ [];
        parts = parts_more rows h.before (map head_row hs) h.body (m, g.Circuit v qs) (n, g.Simple w) h.parts;
        are_circuits = h.are_circuits;
        in_blocks = blocks_more h.body ((n, g.Simple w) ∷ []) bs ss (stmt n w ∷ []) h.in_blocks (r.simple n w r.none);
      },
      refl,
      λ k. k,
    )
in_place most rows cs m v qs hs bs ss n (g.For w a b) q h e =
    let t = chosen (nat_lt (length bs) most) (circuit m v qs hs (block n (opening.For w a b) ss ∷ bs) []) (λ d. outline cs (place.Circuit d)) q e in
    subst (λ q. Next most rows (map block_line bs) (n, g.For w a b) q) t.1 (
      record {
        before = h.before;
        body = h.body ++ (n, g.For w a b) ∷ [];
        parts = parts_more rows h.before (map head_row hs) h.body (m, g.Circuit v qs) (n, g.For w a b) h.parts;
        are_circuits = h.are_circuits;
        in_blocks = (h.body, (n, g.For w a b) ∷ [], refl, h.in_blocks, ([], refl, r.none));
      },
      refl,
      λ k. one_deeper most n bs t.0,
    )
in_place most rows cs m v qs hs bs ss n (g.If c) q h e =
    let t = chosen (nat_lt (length bs) most) (circuit m v qs hs (block n (opening.If c) ss ∷ bs) []) (λ d. outline cs (place.Circuit d)) q e in
    subst (λ q. Next most rows (map block_line bs) (n, g.If c) q) t.1 (
      record {
        before = h.before;
        body = h.body ++ (n, g.If c) ∷ [];
        parts = parts_more rows h.before (map head_row hs) h.body (m, g.Circuit v qs) (n, g.If c) h.parts;
        are_circuits = h.are_circuits;
        in_blocks = (h.body, (n, g.If c) ∷ [], refl, h.in_blocks, ([], refl, r.none));
      },
      refl,
      λ k. one_deeper most n bs t.0,
    )
in_place most rows cs m v qs hs [] ss n g.Else q h e = absurd cc
in_place most rows cs m v qs hs (b ∷ bs) ss n g.Else q h e = at_else most rows cs m v qs hs b.line b.opening b.before bs ss n q h e
in_place most rows cs m v qs hs [] ss n g.End q h e = absurd cc
in_place most rows cs m v qs hs (b ∷ bs) ss n g.End q h e =
    subst (λ q. Next most rows (b.line ∷ map block_line bs) (n, g.End) q) (is_some (outline cs (place.Circuit (circuit m v qs hs bs (b.before ++ stmt b.line (s.block_of b.opening ss) ∷ [])))) q e) (
      record {
        before = h.before;
        body = h.body ++ (n, g.End) ∷ [];
        parts = parts_more rows h.before (map head_row hs) h.body (m, g.Circuit v qs) (n, g.End) h.parts;
        are_circuits = h.are_circuits;
        in_blocks = blocks_end h.body n b bs ss h.in_blocks;
      },
      refl,
      λ k. omega arith,
    )
in_place most rows cs m v qs hs bs ss n g.Bench q h e = absurd cc
in_place most rows cs m v qs hs bs ss n (g.Step w) q h e = absurd cc

at_top : (most : ℕ) (rows : List Row) (cs : List CircuitText) (t : TopLine) (n : ℕ) (l : Line) (q : Outline) → AtTop rows cs t → after_top cs t n l ≡ Some q → 1 ≤ most → Next most rows [] (n, l) q
at_top most rows cs t n g.Bench q h e some =
    subst (λ q. Next most rows [] (n, g.Bench) q) (is_some (outline cs (place.Bench t n [])) q e)
    (record { before = h.before; parts = ap (λ rs. rs ++ (n, g.Bench) ∷ []) h.parts ∙ append_assoc h.before (top_row t ∷ []) ((n, g.Bench) ∷ []); are_circuits = h.are_circuits }, refl, λ k. some)
at_top most rows cs t n (g.Circuit w ps) q h e some = absurd cc
at_top most rows cs t n (g.Top w args) q h e some = absurd cc
at_top most rows cs t n (g.Port i w width) q h e some = absurd cc
at_top most rows cs t n (g.Simple w) q h e some = absurd cc
at_top most rows cs t n (g.For v a b) q h e some = absurd cc
at_top most rows cs t n (g.If c) q h e some = absurd cc
at_top most rows cs t n g.Else q h e some = absurd cc
at_top most rows cs t n g.End q h e some = absurd cc
at_top most rows cs t n (g.Step w) q h e some = absurd cc

bench_parts : (rows before : List Row) (t b y : Row) (steps : List Row) → rows ≡ before ++ (t ∷ (b ∷ steps)) → rows ++ y ∷ [] ≡ before ++ (t ∷ (b ∷ (steps ++ y ∷ [])))
bench_parts rows before t b y steps e = ap (λ rs. rs ++ y ∷ []) e ∙ append_assoc before (t ∷ (b ∷ steps)) (y ∷ [])

at_bench : (most : ℕ) (rows : List Row) (cs : List CircuitText) (t : TopLine) (first : ℕ) (steps : List BenchLine) (n : ℕ) (l : Line) (q : Outline)
    → InBench rows cs t first steps → in_bench cs t first steps n l ≡ Some q → Next most rows (first ∷ []) (n, l) q
at_bench most rows cs t first steps n (g.Step w) q h e =
    subst (λ q. Next most rows (first ∷ []) (n, g.Step w) q) (is_some (outline cs (place.Bench t first (steps ++ bench_line n w ∷ []))) q e) (
      record {
        before = h.before;
        parts = bench_parts rows h.before (top_row t) (first, g.Bench) (n, g.Step w) (map step_row steps) h.parts ∙ ap (λ rs. h.before ++ (top_row t ∷ ((first, g.Bench) ∷ rs)))
            (step_last steps (bench_line n w));
        are_circuits = h.are_circuits;
      },
      refl,
      λ k. k,
    )
at_bench most rows cs t first steps n g.End q h e =
    subst (λ q. Next most rows (first ∷ []) (n, g.End) q) (is_some (outline cs (place.End t steps)) q e) (
      record {
        before = h.before;
        first = first;
        last = n;
        parts = bench_parts rows h.before (top_row t) (first, g.Bench) (n, g.End) (map step_row steps) h.parts;
        are_circuits = h.are_circuits;
      },
      refl,
      λ k. omega arith,
    )
at_bench most rows cs t first steps n (g.Circuit w ps) q h e = absurd cc
at_bench most rows cs t first steps n (g.Top w args) q h e = absurd cc
at_bench most rows cs t first steps n (g.Port i w width) q h e = absurd cc
at_bench most rows cs t first steps n (g.Simple w) q h e = absurd cc
at_bench most rows cs t first steps n (g.For v a b) q h e = absurd cc
at_bench most rows cs t first steps n (g.If c) q h e = absurd cc
at_bench most rows cs t first steps n g.Else q h e = absurd cc
at_bench most rows cs t first steps n g.Bench q h e = absurd cc

pub stands_next : (most : ℕ) (rows : List Row) (cs : List CircuitText) (p : Place) (n : ℕ) (l : Line) (q : Outline) → 1 ≤ most → Stands rows cs p
    → after most cs p n l ≡ Some q → Next most rows (lines_at p) (n, l) q
stands_next most rows cs place.Start n l q some h e = begun most rows cs n l q h e
stands_next most rows cs (place.Circuit c) n l q some h e = in_place most rows cs c.line c.name c.params c.heads c.blocks c.body n l q h e
stands_next most rows cs (place.Top t) n l q some h e = at_top most rows cs t n l q h e some
stands_next most rows cs (place.Bench t first steps) n l q some h e = at_bench most rows cs t first steps n l q h e
stands_next most rows cs (place.End t steps) n l q some h e = absurd cc
