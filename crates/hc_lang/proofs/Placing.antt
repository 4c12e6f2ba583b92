-- The rows of a design all have their places.
use Rattle.std.proofs.Common.{◌≡◌, ℕ, suc, ◌≤◌, nat_lt, true, cond, List, [], ◌∷◌, ◌++◌, map, length, Some, None, refl, sym, ◌∙◌, ap, subst, append_assoc, arith}
use Rattle.std.specs.Option.{option_map}
use Rattle.std.proofs.lemmas.Bool.Decides.{nat_tests}
use Rattle.hc_lines.specs.declared.tree.What.TheVariants as what
use Rattle.hc_lines.specs.declared.tree.Stmt.{Stmt}
use Rattle.hc_lines.specs.declared.line.Line.TheVariants as g
use Rattle.hc_lines.specs.Grammar.{Text}
use Rattle.hc_lang.specs.declared.tree.Head.{Head}
use Rattle.hc_lang.specs.declared.tree.CircuitText.{CircuitText}
use Rattle.hc_lang.specs.declared.tree.TopLine.{TopLine}
use Rattle.hc_lang.specs.declared.tree.BenchLine.{BenchLine}
use Rattle.hc_lang.specs.declared.tree.Design.{Design}
use Rattle.hc_lang.specs.declared.outline.Opening.{Opening}
use Rattle.hc_lang.specs.declared.outline.Opening.TheVariants as opening
use Rattle.hc_lang.specs.declared.outline.Block.{Block}
use Rattle.hc_lang.specs.declared.outline.Place.TheVariants as place
use Rattle.hc_lang.specs.declared.outline.Outline.{Outline}
use Rattle.hc_lang.specs.Reads as r
use Rattle.hc_lang.specs.Reads.{Row, AreStmts, AreCircuits, IsBench, AreDesign, head_row, step_row, stmt, most_opened}
use Rattle.hc_lang.specs.Found.{found, and_then}
use Rattle.hc_lang.specs.Structure.{circuit, block, closed, outline, steps, start, design_of, misplaced_at}
use Rattle.hc_lang.proofs.Stmts.{append-nil}
use Rattle.hc_lang.proofs.Depth.{past_stmts, most_opened-least}
use Rattle.hc_lang.proofs.Places.{block_line, top_row}

-- a circuit with these parts so far
abbrev at : List CircuitText → ℕ → Text → List Text → List Head → List Block → List Stmt → Outline
at cs m v qs hs bs ss = outline cs (place.Circuit (circuit m v qs hs bs ss))

length_map : (bs : List Block) → length (map block_line bs) ≡ length bs
length_map [] = refl
length_map (b ∷ bs) = ap suc (length_map bs)

has_room : (most n : ℕ) (bs : List Block) (rows : List Row) → most_opened (n ∷ map block_line bs) rows ≤ most → nat_lt (length bs) most ≡ true
has_room most n bs rows h = below (length bs) (subst (λ k. suc k ≤ most) (length_map bs) (omega (arith, most_opened-least (n ∷ map block_line bs) rows)))
  where
    below : (k : ℕ) → suc k ≤ most → nat_lt k most ≡ true
    below k h = grind (arith, nat_tests)

-- a block is opened
opens : (most : ℕ) (cs : List CircuitText) (m : ℕ) (v : Text) (qs : List Text) (hs : List Head) (bs : List Block) (ss : List Stmt) (n : ℕ) (o : Opening) (rest : List Row)
    → nat_lt (length bs) most ≡ true
    → and_then (misplaced_at n (option_map (λ d. outline cs (place.Circuit d)) (cond (nat_lt (length bs) most) (Some (circuit m v qs hs (block n o ss ∷ bs) [])) None)))
    (λ p. steps most p rest) ≡ steps most (at cs m v qs hs (block n o ss ∷ bs) []) rest
opens most cs m v qs hs bs ss n o rest t = ap (λ b. and_then
    (misplaced_at n (option_map (λ d. outline cs (place.Circuit d)) (cond b (Some (circuit m v qs hs (block n o ss ∷ bs) [])) None))) (λ p. steps most p rest)) t

-- statements have their places
pub stmts_placed : {rows : List Row} {ss : List Stmt} → AreStmts rows ss
    → (most : ℕ) (cs : List CircuitText) (m : ℕ) (v : Text) (qs : List Text) (hs : List Head) (bs : List Block) (before : List Stmt) (rest : List Row)
    → most_opened (map block_line bs) (rows ++ rest) ≤ most → steps most (at cs m v qs hs bs before) (rows ++ rest) ≡ steps most (at cs m v qs hs bs (before ++ ss)) rest
stmts_placed r.none most cs m v qs hs bs before rest d = ap (λ b. steps most (at cs m v qs hs bs b) rest) (sym (append-nil before))
stmts_placed (r.simple {rows} {ss} n w h) most cs m v qs hs bs before rest d =
    stmts_placed h most cs m v qs hs bs (before ++ stmt n w ∷ []) rest (omega arith)
    ∙ ap (λ b. steps most (at cs m v qs hs bs b) rest) (append_assoc before (stmt n w ∷ []) ss)
stmts_placed (r.loop {inner} {rows} {body} {ss} n last w a b i h) most cs m v qs hs bs before rest d =
    let after : List Row = rows ++ rest in
    let split : (inner ++ ((last, g.End) ∷ rows)) ++ rest ≡ inner ++ ((last, g.End) ∷ after) = append_assoc inner ((last, g.End) ∷ rows) rest in
    let all : most_opened (n ∷ map block_line bs) ((inner ++ ((last, g.End) ∷ rows)) ++ rest) ≤ most = omega arith in
    let deep : most_opened (n ∷ map block_line bs) (inner ++ ((last, g.End) ∷ after)) ≤ most = subst (λ rs. most_opened (n ∷ map block_line bs) rs ≤ most) split all in
    let late : most_opened (n ∷ map block_line bs) ((last, g.End) ∷ after) ≤ most = past_stmts i (n ∷ map block_line bs) ((last, g.End) ∷ after) most deep in
    let left : most_opened (map block_line bs) after ≤ most = omega arith in
    opens most cs m v qs hs bs before n (opening.For w a b) ((inner ++ ((last, g.End) ∷ rows)) ++ rest) (has_room most n bs (inner ++ ((last, g.End) ∷ after)) deep)
    ∙ ap (steps most (at cs m v qs hs (block n (opening.For w a b) before ∷ bs) [])) split
    ∙ stmts_placed i most cs m v qs hs (block n (opening.For w a b) before ∷ bs) [] ((last, g.End) ∷ after) deep
    ∙ stmts_placed h most cs m v qs hs bs (before ++ stmt n (what.For w a b body) ∷ []) rest left
    ∙ ap (λ x. steps most (at cs m v qs hs bs x) rest) (append_assoc before (stmt n (what.For w a b body) ∷ []) ss)
stmts_placed (r.choice {inner} {rows} {yes = us} {ss} n last c i h) most cs m v qs hs bs before rest d =
    let after : List Row = rows ++ rest in
    let split : (inner ++ ((last, g.End) ∷ rows)) ++ rest ≡ inner ++ ((last, g.End) ∷ after) = append_assoc inner ((last, g.End) ∷ rows) rest in
    let all : most_opened (n ∷ map block_line bs) ((inner ++ ((last, g.End) ∷ rows)) ++ rest) ≤ most = omega arith in
    let deep : most_opened (n ∷ map block_line bs) (inner ++ ((last, g.End) ∷ after)) ≤ most = subst (λ rs. most_opened (n ∷ map block_line bs) rs ≤ most) split all in
    let late : most_opened (n ∷ map block_line bs) ((last, g.End) ∷ after) ≤ most = past_stmts i (n ∷ map block_line bs) ((last, g.End) ∷ after) most deep in
    let left : most_opened (map block_line bs) after ≤ most = omega arith in
    opens most cs m v qs hs bs before n (opening.If c) ((inner ++ ((last, g.End) ∷ rows)) ++ rest) (has_room most n bs (inner ++ ((last, g.End) ∷ after)) deep)
    ∙ ap (steps most (at cs m v qs hs (block n (opening.If c) before ∷ bs) [])) split
    ∙ stmts_placed i most cs m v qs hs (block n (opening.If c) before ∷ bs) [] ((last, g.End) ∷ after) deep
    ∙ stmts_placed h most cs m v qs hs bs (before ++ stmt n (what.If c us []) ∷ []) rest left
    ∙ ap (λ x. steps most (at cs m v qs hs bs x) rest) (append_assoc before (stmt n (what.If c us []) ∷ []) ss)
stmts_placed (r.choice_else {inner} {other} {rows} {yes = us} {no = vs} {ss} n middle last c i e h) most cs m v qs hs bs before rest d =
    let after : List Row = rows ++ rest in
    let second : List Row = other ++ ((last, g.End) ∷ after) in
    let split : (inner ++ ((middle, g.Else) ∷ (other ++ ((last, g.End) ∷ rows)))) ++ rest ≡ inner ++ ((middle, g.Else) ∷ second) = append_assoc inner
    ((middle, g.Else) ∷ (other ++ ((last, g.End) ∷ rows))) rest ∙ ap (λ rs. inner ++ ((middle, g.Else) ∷ rs)) (append_assoc other ((last, g.End) ∷ rows) rest) in
    let all : most_opened (n ∷ map block_line bs) ((inner ++ ((middle, g.Else) ∷ (other ++ ((last, g.End) ∷ rows)))) ++ rest) ≤ most = omega arith in
    let deep : most_opened (n ∷ map block_line bs) (inner ++ ((middle, g.Else) ∷ second)) ≤ most = subst (λ rs. most_opened (n ∷ map block_line bs) rs ≤ most) split all in
    let turn : most_opened (n ∷ map block_line bs) ((middle, g.Else) ∷ second) ≤ most = past_stmts i (n ∷ map block_line bs) ((middle, g.Else) ∷ second) most deep in
    let also : most_opened (n ∷ map block_line bs) second ≤ most = omega arith in
    let late : most_opened (n ∷ map block_line bs) ((last, g.End) ∷ after) ≤ most = past_stmts e (n ∷ map block_line bs) ((last, g.End) ∷ after) most also in
    let left : most_opened (map block_line bs) after ≤ most = omega arith in
    opens most cs m v qs hs bs before n (opening.If c) ((inner ++ ((middle, g.Else) ∷ (other ++ ((last, g.End) ∷ rows)))) ++ rest) (has_room most n bs (inner ++ ((middle, g.Else) ∷ second)) deep)
    ∙ ap (steps most (at cs m v qs hs (block n (opening.If c) before ∷ bs) [])) split
    ∙ stmts_placed i most cs m v qs hs (block n (opening.If c) before ∷ bs) [] ((middle, g.Else) ∷ second) deep
    ∙ stmts_placed e most cs m v qs hs (block n (opening.Else c us) before ∷ bs) [] ((last, g.End) ∷ after) also
    ∙ stmts_placed h most cs m v qs hs bs (before ++ stmt n (what.If c us vs) ∷ []) rest left
    ∙ ap (λ x. steps most (at cs m v qs hs bs x) rest) (append_assoc before (stmt n (what.If c us vs) ∷ []) ss)

-- and so have heads
heads_placed : (hs : List Head) (most : ℕ) (cs : List CircuitText) (m : ℕ) (v : Text) (qs : List Text) (before : List Head) (rest : List Row)
    → steps most (at cs m v qs before [] []) (map head_row hs ++ rest) ≡ steps most (at cs m v qs (before ++ hs) [] []) rest
heads_placed [] most cs m v qs before rest = ap (λ b. steps most (at cs m v qs b [] []) rest) (sym (append-nil before))
heads_placed (h ∷ hs) most cs m v qs before rest = heads_placed hs most cs m v qs (before ++ h ∷ []) rest ∙ ap (λ b. steps most (at cs m v qs b [] []) rest) (append_assoc before (h ∷ []) hs)

-- a whole circuit is one of the circuits before
leaves : {rows : List Row} {ds : List CircuitText} → AreCircuits rows ds
    → (most : ℕ) (cs : List CircuitText) (m : ℕ) (v : Text) (qs : List Text) (hs : List Head) (ss : List Stmt) (t : TopLine) (rest : List Row)
    → steps most (at cs m v qs hs [] ss) (rows ++ (top_row t ∷ rest)) ≡ steps most (outline (cs ++ closed (circuit m v qs hs [] ss) ∷ []) place.Start) (rows ++ (top_row t ∷ rest))
leaves r.none most cs m v qs hs ss t rest = refl
leaves (r.circuit c s h) most cs m v qs hs ss t rest = refl

heads_open : (o : List ℕ) (hs : List Head) (rest : List Row) (most : ℕ) → most_opened o (map head_row hs ++ rest) ≤ most → most_opened o rest ≤ most
heads_open o [] rest most h = h
heads_open o (x ∷ hs) rest most h = heads_open o hs rest most (omega arith)

circuits_placed : {rows : List Row} {ds : List CircuitText} → AreCircuits rows ds → (most : ℕ) (cs : List CircuitText) (t : TopLine) (rest : List Row)
    → most_opened [] (rows ++ (top_row t ∷ rest)) ≤ most
    → steps most (outline cs place.Start) (rows ++ (top_row t ∷ rest)) ≡ steps most (outline (cs ++ ds) place.Start) (top_row t ∷ rest)
circuits_placed r.none most cs t rest d = ap (λ x. steps most (outline x place.Start) (top_row t ∷ rest)) (sym (append-nil cs))
circuits_placed (r.circuit {body} {rows} {cs = ds} c s h) most cs t rest d =
    let after : List Row = rows ++ (top_row t ∷ rest) in
    let split : (map head_row c.heads ++ (body ++ rows)) ++ (top_row t ∷ rest) ≡ map head_row c.heads ++ (body ++ after) = append_assoc (map head_row c.heads) (body ++ rows)
    (top_row t ∷ rest) ∙ ap (λ rs. map head_row c.heads ++ rs) (append_assoc body rows (top_row t ∷ rest)) in
    let all : most_opened [] ((map head_row c.heads ++ (body ++ rows)) ++ (top_row t ∷ rest)) ≤ most = omega arith in
    let deep : most_opened [] (body ++ after) ≤ most = heads_open [] c.heads (body ++ after) most (subst (λ rs. most_opened [] rs ≤ most) split all) in
    ap (steps most (at cs c.line c.name c.params [] [] [])) split
    ∙ heads_placed c.heads most cs c.line c.name c.params [] (body ++ after)
    ∙ stmts_placed s most cs c.line c.name c.params c.heads [] [] after deep
    ∙ leaves h most cs c.line c.name c.params c.heads c.body t rest
    ∙ circuits_placed h most (cs ++ c ∷ []) t rest (past_stmts s [] after most deep)
    ∙ ap (λ x. steps most (outline x place.Start) (top_row t ∷ rest)) (append_assoc cs (c ∷ []) ds)

bench_placed : (xs : List BenchLine) (most : ℕ) (cs : List CircuitText) (t : TopLine) (first last : ℕ) (before : List BenchLine)
    → steps most (outline cs (place.Bench t first before)) (map step_row xs ++ ((last, g.End) ∷ [])) ≡ found (outline cs (place.End t (before ++ xs)))
bench_placed [] most cs t first last before = ap (λ x. found (outline cs (place.End t x))) (sym (append-nil before))
bench_placed (x ∷ xs) most cs t first last before = bench_placed xs most cs t first last (before ++ x ∷ []) ∙ ap (λ y. found (outline cs (place.End t y))) (append_assoc before (x ∷ []) xs)

-- where the rows of a design lead
pub record Led (most : ℕ) (rows : List Row) (d : Design) : Type 0 where
  pub to : Outline
  pub steps_to : steps most start rows ≡ found to
  pub is : design_of to ≡ Some d

after_top_led : {bench : List Row} {xs : List BenchLine} → IsBench bench xs → (most : ℕ) (rows : List Row) (cs : List CircuitText) (t : TopLine)
    → steps most start rows ≡ steps most (outline cs (place.Top t)) bench → Led most rows (record { circuits = cs; top = t; bench = xs })
after_top_led r.absent most rows cs t e = record { to = outline cs (place.Top t); steps_to = e; is = refl }
after_top_led (r.present first last xs) most rows cs t e = record { to = outline cs (place.End t xs); steps_to = e ∙ bench_placed xs most cs t first last []; is = refl }

pub design_led : (most : ℕ) → most ≡ 64 → (rows : List Row) (d : Design) → AreDesign rows d → Led most rows d
design_led most is rows d h =
    let few : most_opened [] rows ≤ most = subst (λ k. most_opened [] rows ≤ k) (sym is) h.blocks in
    let deep : most_opened [] (h.circuits ++ (top_row d.top ∷ h.bench)) ≤ most = subst (λ rs. most_opened [] rs ≤ most) h.parts few in
    after_top_led h.is_bench most rows d.circuits d.top (ap (steps most start) h.parts ∙ circuits_placed h.are_circuits most [] d.top h.bench deep)
