-- Rows after rows: the blocks that are open, and how many at most.
use Rattle.std.proofs.Common.{◌≡◌, ℕ, ◌≤◌, List, [], ◌∷◌, ◌++◌, length, refl, sym, ◌∙◌, ap, subst, arith}
use Rattle.hc_lang.specs.Reads.{Row, after_row, open_blocks, most_opened, AreStmts}
use Rattle.hc_lang.specs.Reads as r
use Rattle.hc_lines.specs.declared.line.Line.TheVariants as g
use Rattle.hc_lines.specs.declared.tree.Stmt.{Stmt}

pub open_blocks-append : (o : List ℕ) (xs ys : List Row) → open_blocks o (xs ++ ys) ≡ open_blocks (open_blocks o xs) ys
open_blocks-append o [] ys = refl
open_blocks-append o (x ∷ xs) ys = open_blocks-append (after_row x o) xs ys

pub most_opened-least : (o : List ℕ) (xs : List Row) → length o ≤ most_opened o xs
most_opened-least o [] = omega arith
most_opened-least o (x ∷ xs) = omega arith

pub most_opened-last : (o : List ℕ) (xs : List Row) → length (open_blocks o xs) ≤ most_opened o xs
most_opened-last o [] = omega arith
most_opened-last o (x ∷ xs) = omega (arith, most_opened-last (after_row x o) xs)

pub most_opened-right : (o : List ℕ) (xs ys : List Row) → most_opened (open_blocks o xs) ys ≤ most_opened o (xs ++ ys)
most_opened-right o [] ys = omega arith
most_opened-right o (x ∷ xs) ys = omega (arith, most_opened-right (after_row x o) xs ys)

pub most_opened-left : (o : List ℕ) (xs ys : List Row) → most_opened o xs ≤ most_opened o (xs ++ ys)
most_opened-left o [] ys = most_opened-least o ys
most_opened-left o (x ∷ xs) ys = omega (arith, most_opened-left (after_row x o) xs ys)

most_opened-more : (most : ℕ) (o : List ℕ) (xs : List Row) (x : Row) → most_opened o xs ≤ most → length (after_row x (open_blocks o xs)) ≤ most → most_opened o (xs ++ x ∷ []) ≤ most
most_opened-more most o [] x h k = omega arith
most_opened-more most o (y ∷ xs) x h k =
    let more : most_opened (after_row y o) (xs ++ x ∷ []) ≤ most = most_opened-more most (after_row y o) xs x (omega arith) k in
    omega arith

-- after the rows these lines are open, the innermost first; never more than `most` were
pub record Depth (most : ℕ) (rows : List Row) (lines : List ℕ) : Type 0 where
  pub are_open : open_blocks [] rows ≡ lines
  pub within : most_opened [] rows ≤ most

pub none_open : (most : ℕ) → Depth most [] []
none_open most = record { are_open = refl; within = omega arith }

pub few_open : (most : ℕ) (rows : List Row) (lines : List ℕ) → Depth most rows lines → length lines ≤ most
few_open most rows lines h = omega (arith, most_opened-last [] rows, ap (λ o. length o) h.are_open, h.within)

pub one_more : (most : ℕ) (rows : List Row) (x : Row) (lines after : List ℕ) → Depth most rows lines → after_row x lines ≡ after → length after ≤ most → Depth most (rows ++ x ∷ []) after
one_more most rows x lines after h is few = record {
  are_open = open_blocks-append [] rows (x ∷ []) ∙ ap (after_row x) h.are_open ∙ is;
  within = most_opened-more most [] rows x h.within (subst (λ o. length o ≤ most) (sym (ap (after_row x) h.are_open ∙ is)) few);
}

-- statements leave no block open
pub stmts_even : {rows : List Row} {ss : List Stmt} → AreStmts rows ss → (o : List ℕ) → open_blocks o rows ≡ o
stmts_even r.none o = refl
stmts_even (r.simple line w h) o = stmts_even h o
stmts_even (r.loop {inner} {rows} line last v a b i h) o =
    open_blocks-append (line ∷ o) inner ((last, g.End) ∷ rows) ∙ ap (λ x. open_blocks x ((last, g.End) ∷ rows)) (stmts_even i (line ∷ o)) ∙ stmts_even h o
stmts_even (r.choice {inner} {rows} line last c i h) o =
    open_blocks-append (line ∷ o) inner ((last, g.End) ∷ rows) ∙ ap (λ x. open_blocks x ((last, g.End) ∷ rows)) (stmts_even i (line ∷ o)) ∙ stmts_even h o
stmts_even (r.choice_else {inner} {other} {rows} line middle last c i e h) o =
    open_blocks-append (line ∷ o) inner ((middle, g.Else) ∷ (other ++ ((last, g.End) ∷ rows)))
    ∙ ap (λ x. open_blocks x ((middle, g.Else) ∷ (other ++ ((last, g.End) ∷ rows)))) (stmts_even i (line ∷ o))
    ∙ open_blocks-append (line ∷ o) other ((last, g.End) ∷ rows)
    ∙ ap (λ x. open_blocks x ((last, g.End) ∷ rows)) (stmts_even e (line ∷ o))
    ∙ stmts_even h o

-- what is open at most after statements
pub past_stmts : {inner : List Row} {ss : List Stmt} → AreStmts inner ss → (o : List ℕ) (rest : List Row) (most : ℕ) → most_opened o (inner ++ rest) ≤ most → most_opened o rest ≤ most
past_stmts {inner} h o rest most k =
    let right : most_opened (open_blocks o inner) rest ≤ most_opened o (inner ++ rest) = most_opened-right o inner rest in
    let same : most_opened o rest ≤ most_opened o (inner ++ rest) = subst (λ x. most_opened x rest ≤ most_opened o (inner ++ rest)) (stmts_even h o) right in
    omega arith
