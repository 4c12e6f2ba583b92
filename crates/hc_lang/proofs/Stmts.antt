-- Statements and circuits put together from rows.
use Rattle.std.proofs.Common.{◌≡◌, ℕ, List, [], ◌∷◌, ◌++◌, map, refl, sym, ◌∙◌, ap, subst, append_assoc}
use Rattle.hc_lines.specs.declared.tree.What.TheVariants as what
use Rattle.hc_lines.specs.declared.tree.Stmt.{Stmt}
use Rattle.hc_lines.specs.declared.line.Line.TheVariants as g
use Rattle.hc_lang.specs.declared.tree.CircuitText.{CircuitText}
use Rattle.hc_lang.specs.declared.outline.Opening.{Opening}
use Rattle.hc_lang.specs.declared.outline.Opening.TheVariants as opening
use Rattle.hc_lang.specs.declared.outline.Block.{Block}
use Rattle.hc_lang.specs.Reads as r
use Rattle.hc_lang.specs.Reads.{Row, AreStmts, AreCircuits, head_row, stmt}
use Rattle.hc_lang.specs.Structure.{block_of}

pub append-nil : {A : Type 0} (xs : List A) → xs ++ [] ≡ xs
append-nil [] = refl
append-nil (x ∷ xs) = ap (λ ys. x ∷ ys) (append-nil xs)

pub stmts_append : {rows : List Row} {ss : List Stmt} (more : List Row) (ts : List Stmt) → AreStmts rows ss → AreStmts more ts → AreStmts (rows ++ more) (ss ++ ts)
stmts_append more ts r.none k = k
stmts_append more ts (r.simple line w h) k = r.simple line w (stmts_append more ts h k)
stmts_append more ts (r.loop {inner} {rows} {body} {ss} line last v a b i h) k =
    subst (λ rs. AreStmts ((line, g.For v a b) ∷ rs) (stmt line (what.For v a b body) ∷ (ss ++ ts))) (sym (append_assoc inner ((last, g.End) ∷ rows) more))
    (r.loop line last v a b i (stmts_append more ts h k))
stmts_append more ts (r.choice {inner} {rows} {yes = us} {ss} line last c i h) k =
    subst (λ rs. AreStmts ((line, g.If c) ∷ rs) (stmt line (what.If c us []) ∷ (ss ++ ts))) (sym (append_assoc inner ((last, g.End) ∷ rows) more)) (r.choice line last c i (stmts_append more ts h k))
stmts_append more ts (r.choice_else {inner} {other} {rows} {yes = us} {no = vs} {ss} line middle last c i e h) k =
    subst (λ rs. AreStmts ((line, g.If c) ∷ rs) (stmt line (what.If c us vs) ∷ (ss ++ ts)))
    (sym (append_assoc inner ((middle, g.Else) ∷ (other ++ ((last, g.End) ∷ rows))) more ∙ ap (λ rs. inner ++ ((middle, g.Else) ∷ rs)) (append_assoc other ((last, g.End) ∷ rows) more)))
    (r.choice_else line middle last c i e (stmts_append more ts h k))

pub circuits_append : {rows : List Row} {cs : List CircuitText} (more : List Row) (ds : List CircuitText) → AreCircuits rows cs → AreCircuits more ds → AreCircuits (rows ++ more) (cs ++ ds)
circuits_append more ds r.none k = k
circuits_append more ds (r.circuit {body} {rows} {cs} c s h) k =
    subst (λ rs. AreCircuits ((c.line, g.Circuit c.name c.params) ∷ rs) (c ∷ (cs ++ ds)))
    (sym (append_assoc (map head_row c.heads) (body ++ rows) more ∙ ap (λ rs. map head_row c.heads ++ rs) (append_assoc body rows more)))
    (r.circuit c s (circuits_append more ds h k))

pub one_circuit : (c : CircuitText) (body : List Row) → AreStmts body c.body → AreCircuits ((c.line, g.Circuit c.name c.params) ∷ (map head_row c.heads ++ body)) (c ∷ [])
one_circuit c body h = subst (λ rs. AreCircuits ((c.line, g.Circuit c.name c.params) ∷ (map head_row c.heads ++ rs)) (c ∷ [])) (append-nil body) (r.circuit c h r.none)

-- ---- open blocks

-- the rows of an open block, from its first line on
abbrev pub IsOpened : ℕ → Opening → List Row → List Stmt → Type 0
IsOpened n (opening.For v a b) rows ss = (inner : List Row) × (rows ≡ (n, g.For v a b) ∷ inner) × AreStmts inner ss
IsOpened n (opening.If c) rows ss = (inner : List Row) × (rows ≡ (n, g.If c) ∷ inner) × AreStmts inner ss
IsOpened n (opening.Else c us) rows ss = (first other : List Row) × (middle : ℕ) × (rows ≡ (n, g.If c) ∷ (first ++ ((middle, g.Else) ∷ other))) × AreStmts first us × AreStmts other ss

-- the rows of a body whose blocks are open, the innermost with these statements so far
abbrev pub InBlocks : List Row → List Block → List Stmt → Type 0
InBlocks rows [] ss = AreStmts rows ss
InBlocks rows (b ∷ bs) ss = (outer inner : List Row) × (rows ≡ outer ++ inner) × InBlocks outer bs b.before × IsOpened b.line b.opening inner ss

pub opened_more : (n : ℕ) (o : Opening) (rows more : List Row) (ss ts : List Stmt) → IsOpened n o rows ss → AreStmts more ts → IsOpened n o (rows ++ more) (ss ++ ts)
opened_more n (opening.For v a b) rows more ss ts h k = (h.0 ++ more, ap (λ rs. rs ++ more) h.1, stmts_append more ts h.2 k)
opened_more n (opening.If c) rows more ss ts h k = (h.0 ++ more, ap (λ rs. rs ++ more) h.1, stmts_append more ts h.2 k)
opened_more n (opening.Else c us) rows more ss ts h k =
    (h.0, h.1 ++ more, h.2, ap (λ rs. rs ++ more) h.3 ∙ ap (λ rs. (n, g.If c) ∷ rs) (append_assoc h.0 ((h.2, g.Else) ∷ h.1) more), h.4, stmts_append more ts h.5 k)

pub blocks_more : (rows more : List Row) (bs : List Block) (ss ts : List Stmt) → InBlocks rows bs ss → AreStmts more ts → InBlocks (rows ++ more) bs (ss ++ ts)
blocks_more rows more [] ss ts h k = stmts_append more ts h k
blocks_more rows more (b ∷ bs) ss ts h k =
    (h.0, h.1 ++ more, ap (λ rs. rs ++ more) h.2 ∙ append_assoc h.0 h.1 more, h.3, opened_more b.line b.opening h.1 more ss ts h.4 k)

-- an `end` makes a statement of the block
pub opened_end : (n last : ℕ) (o : Opening) (rows : List Row) (ss : List Stmt) → IsOpened n o rows ss → AreStmts (rows ++ ((last, g.End) ∷ [])) (stmt n (block_of o ss) ∷ [])
opened_end n last (opening.For v a b) rows ss h =
    subst (λ rs. AreStmts (rs ++ ((last, g.End) ∷ [])) (stmt n (what.For v a b ss) ∷ [])) (sym h.1) (r.loop n last v a b h.2 r.none)
opened_end n last (opening.If c) rows ss h =
    subst (λ rs. AreStmts (rs ++ ((last, g.End) ∷ [])) (stmt n (what.If c ss []) ∷ [])) (sym h.1) (r.choice n last c h.2 r.none)
opened_end n last (opening.Else c us) rows ss h =
    subst (λ rs. AreStmts (rs ++ ((last, g.End) ∷ [])) (stmt n (what.If c us ss) ∷ [])) (sym h.3)
    (subst (λ rs. AreStmts ((n, g.If c) ∷ rs) (stmt n (what.If c us ss) ∷ [])) (sym (append_assoc h.0 ((h.2, g.Else) ∷ h.1) ((last, g.End) ∷ []))) (r.choice_else n h.2 last c h.4 h.5 r.none))

pub blocks_end : (rows : List Row) (last : ℕ) (b : Block) (bs : List Block) (ss : List Stmt) → InBlocks rows (b ∷ bs) ss
    → InBlocks (rows ++ ((last, g.End) ∷ [])) bs (b.before ++ stmt b.line (block_of b.opening ss) ∷ [])
blocks_end rows last b bs ss h =
    subst (λ rs. InBlocks rs bs (b.before ++ stmt b.line (block_of b.opening ss) ∷ [])) (sym (ap (λ rs. rs ++ ((last, g.End) ∷ [])) h.2 ∙ append_assoc h.0 h.1 ((last, g.End) ∷ [])))
    (blocks_more h.0 (h.1 ++ ((last, g.End) ∷ [])) bs b.before (stmt b.line (block_of b.opening ss) ∷ []) h.3 (opened_end b.line last b.opening h.1 ss h.4))
