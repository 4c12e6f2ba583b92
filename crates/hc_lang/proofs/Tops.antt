-- Where the `top` line stands, and that nothing but a bench follows it.
use Rattle.std.proofs.Common.{◌≡◌, Bool, true, false, List, [], ◌∷◌, ◌++◌, map, refl, sym, ◌∙◌, ap, subst, append_assoc}
use Rattle.hc_lang.specs.declared.tree.Head.{Head}
use Rattle.hc_lines.specs.declared.tree.Stmt.{Stmt}
use Rattle.hc_lang.specs.declared.tree.CircuitText.{CircuitText}
use Rattle.hc_lang.specs.declared.tree.BenchLine.{BenchLine}
use Rattle.hc_lang.specs.declared.tree.Design.{Design}
use Rattle.hc_lines.specs.declared.line.Line.TheVariants as g
use Rattle.hc_lang.specs.Reads as r
use Rattle.hc_lang.specs.Reads.{Row, is_top, head_row, AreStmts, AreCircuits, IsBench, AreDesign, GoesOn}

abbrev pub NoTops : List Row → Type 0
NoTops [] = Unit {0}
NoTops (x ∷ rows) = (is_top x ≡ false) × NoTops rows

NoTops-append : (xs ys : List Row) → NoTops xs → NoTops ys → NoTops (xs ++ ys)
NoTops-append [] ys h k = k
NoTops-append (x ∷ xs) ys h k = (h.0, NoTops-append xs ys h.1 k)

stmts-NoTops : {rows : List Row} {ss : List Stmt} → AreStmts rows ss → NoTops rows
stmts-NoTops r.none = tt
stmts-NoTops (r.simple line w s) = (refl, stmts-NoTops s)
stmts-NoTops (r.loop {inner} {rows} line last v a b s t) = (refl, NoTops-append inner ((last, g.End) ∷ rows) (stmts-NoTops s) (refl, stmts-NoTops t))
stmts-NoTops (r.choice {inner} {rows} line last c s t) = (refl, NoTops-append inner ((last, g.End) ∷ rows) (stmts-NoTops s) (refl, stmts-NoTops t))
stmts-NoTops (r.choice_else {inner} {other} {rows} line middle last c s t u) =
    (refl, NoTops-append inner ((middle, g.Else) ∷ (other ++ ((last, g.End) ∷ rows))) (stmts-NoTops s) (refl, NoTops-append other ((last, g.End) ∷ rows) (stmts-NoTops t) (refl, stmts-NoTops u)))

heads-NoTops : (hs : List Head) → NoTops (map head_row hs)
heads-NoTops [] = tt
heads-NoTops (h ∷ hs) = (refl, heads-NoTops hs)

pub circuits-NoTops : {rows : List Row} {cs : List CircuitText} → AreCircuits rows cs → NoTops rows
circuits-NoTops r.none = tt
circuits-NoTops (r.circuit {body} {rows} c s t) = (refl, NoTops-append (map head_row c.heads) (body ++ rows) (heads-NoTops c.heads) (NoTops-append body rows (stmts-NoTops s) (circuits-NoTops t)))

tail_of : List Row → List Row
tail_of [] = []
tail_of (x ∷ xs) = xs

top_first : List Row → Bool
top_first [] = false
top_first (x ∷ xs) = is_top x

-- two splits of rows at their first `top` line have the same rows after it
pub same_after : (xs us : List Row) (t v : Row) (ys vs : List Row) → NoTops xs → NoTops us → is_top t ≡ true → is_top v ≡ true → xs ++ (t ∷ ys) ≡ us ++ (v ∷ vs) → ys ≡ vs
unfolding tail_of top_first
same_after [] [] t v ys vs h k p q e = ap tail_of e
same_after [] (u ∷ us) t v ys vs h k p q e = let clash : true ≡ false = sym p ∙ ap top_first e ∙ k.0 in absurd cc
same_after (x ∷ xs) [] t v ys vs h k p q e = let clash : true ≡ false = sym q ∙ sym (ap top_first e) ∙ h.0 in absurd cc
same_after (x ∷ xs) (u ∷ us) t v ys vs h k p q e = same_after xs us t v ys vs h.1 k.1 p q (ap tail_of e)

abbrev pub is_bench_row : Row → Bool
is_bench_row (n, g.Bench) = true
is_bench_row (n, l) = false

bench_first : List Row → Bool
bench_first [] = true
bench_first (x ∷ xs) = is_bench_row x

bench-first : {rows : List Row} {steps : List BenchLine} → IsBench rows steps → bench_first rows ≡ true
unfolding bench_first
bench-first r.absent = refl
bench-first (r.present first last steps) = refl

-- no line but `bench` follows a `top` line
pub only_bench_follows : (xs : List Row) (t x : Row) (more : List Row) (d : Design) → NoTops xs → is_top t ≡ true → is_bench_row x ≡ false → AreDesign (xs ++ (t ∷ x ∷ more)) d → ⊥
unfolding bench_first
only_bench_follows xs t x more d h p q a =
    let after : x ∷ more ≡ a.bench = same_after xs a.circuits t (d.top.line, g.Top d.top.name d.top.args) (x ∷ more) a.bench h (circuits-NoTops a.are_circuits) p refl a.parts in
    let clash : false ≡ true = sym q ∙ ap bench_first after ∙ bench-first a.is_bench in
    cc

-- so a line after the `top` line that is no `bench` is misplaced
pub misplaced_after_top : (xs : List Row) (t x : Row) → NoTops xs → is_top t ≡ true → is_bench_row x ≡ false → GoesOn ((xs ++ (t ∷ [])) ++ (x ∷ [])) → ⊥
misplaced_after_top xs t x h p q on =
    only_bench_follows xs t x on.0 on.1 h p q (subst (λ rows. AreDesign rows on.1) (append_assoc (xs ++ (t ∷ [])) (x ∷ []) on.0 ∙ append_assoc xs (t ∷ []) (x ∷ on.0)) on.2)
