-- Rows have their places exactly where they go on to a design.
use Rattle.std.proofs.Common.{◌≡◌, ℕ, ◌≤◌, List, [], ◌∷◌, ◌++◌, Option, Some, None, Ok, Err, refl, sym, ◌∙◌, ap, subst, append_assoc, arith}
use Rattle.hc_fault.specs.declared.fault.FaultKind.{FaultKind}
use Rattle.hc_fault.specs.declared.fault.FaultKind.TheVariants as fault
use Rattle.hc_lines.specs.declared.tree.Stmt.{Stmt}
use Rattle.hc_lines.specs.declared.line.Line.TheVariants as g
use Rattle.hc_lines.specs.Grammar.{Text}
use Rattle.hc_lang.specs.declared.tree.Head.{Head}
use Rattle.hc_lang.specs.declared.tree.CircuitText.{CircuitText}
use Rattle.hc_lang.specs.declared.tree.Design.{Design}
use Rattle.hc_lang.specs.declared.outline.Block.{Block}
use Rattle.hc_lang.specs.declared.outline.Place.{Place}
use Rattle.hc_lang.specs.declared.outline.Place.TheVariants as place
use Rattle.hc_lang.specs.declared.outline.Outline.{Outline}
use Rattle.hc_lang.specs.Reads as r
use Rattle.hc_lang.specs.Reads.{Row, AreCircuits, AreDesign, GoesOn, IsMisplaced, open_blocks, most_opened}
use Rattle.hc_lang.specs.Found.{Found, found, and_then}
use Rattle.hc_lang.specs.Structure.{circuit, closed, outline, top_line, step, steps, start, design, design_at, design_of, misplaced_at}
use Rattle.hc_lang.proofs.Stmts.{append-nil}
use Rattle.hc_lang.proofs.Depth.{Depth, none_open, few_open, one_more}
use Rattle.hc_lang.proofs.Places.{Stands, lines_at, whole, stands_next}
use Rattle.hc_lang.proofs.Placing.{design_led}

-- ---- the outline of rows stands for them

pub record Upto (most : ℕ) (rows : List Row) (o : Outline) : Type 0 where
  pub stands : Stands rows o.circuits o.place
  pub depth : Depth most rows (lines_at o.place)

nothing_yet : (most : ℕ) → Upto most [] start
nothing_yet most = record { stands = r.none; depth = none_open most }

next_upto : (most : ℕ) → 1 ≤ most → (rows : List Row) (o p : Outline) (x : Row) → Upto most rows o → step most o x ≡ Some p → Upto most (rows ++ x ∷ []) p
next_upto most some rows o p x h e =
    let next = stands_next most rows o.circuits o.place x.0 x.1 p some h.stands e in
    record { stands = next.0; depth = one_more most rows x (lines_at o.place) (lines_at p.place) h.depth next.1 (next.2 (few_open most rows (lines_at o.place) h.depth)) }

-- ---- it goes on to a design

goes_less : (rows : List Row) (x : Row) → GoesOn (rows ++ x ∷ []) → GoesOn rows
goes_less rows x h = (x ∷ h.0, h.1, subst (λ rs. AreDesign rs h.1) (append_assoc rows (x ∷ []) h.0) h.2)

design_goes : (rows : List Row) (d : Design) → AreDesign rows d → GoesOn rows
design_goes rows d h = ([], d, subst (λ rs. AreDesign rs d) (sym (append-nil rows)) h)

few : (most : ℕ) (rows : List Row) (lines : List ℕ) → most ≡ 64 → Depth most rows lines → most_opened [] rows ≤ 64
few most rows lines is h = subst (λ k. most_opened [] rows ≤ k) is h.within

circuits_go : (most : ℕ) → most ≡ 64 → (rows : List Row) (cs : List CircuitText) → AreCircuits rows cs → Depth most rows [] → GoesOn rows
circuits_go most is rows cs h d =
    let more : Depth most (rows ++ (0, g.Top [] []) ∷ []) [] = one_more most rows (0, g.Top [] []) [] [] d refl (omega arith) in
    goes_less rows (0, g.Top [] []) (design_goes (rows ++ (0, g.Top [] []) ∷ []) (design cs (top_line 0 [] []) [])
    (record { circuits = rows; bench = []; parts = refl; are_circuits = h; is_bench = r.absent; blocks = few most _ _ is more }))

circuit_goes : (bs : List Block) (most : ℕ) → most ≡ 64 → 1 ≤ most
    → (rows : List Row) (cs : List CircuitText) (m : ℕ) (v : Text) (qs : List Text) (hs : List Head) (ss : List Stmt)
    → Upto most rows (outline cs (place.Circuit (circuit m v qs hs bs ss))) → GoesOn rows
circuit_goes [] most is some rows cs m v qs hs ss h = circuits_go most is rows (cs ++ closed (circuit m v qs hs [] ss) ∷ []) (whole rows cs m v qs hs ss h.stands) h.depth
circuit_goes (b ∷ bs) most is some rows cs m v qs hs ss h =
    goes_less rows (0, g.End) (circuit_goes bs most is some (rows ++ (0, g.End) ∷ []) cs m v qs hs _
    (next_upto most some rows (outline cs (place.Circuit (circuit m v qs hs (b ∷ bs) ss))) _ (0, g.End) h refl))

pub is_design : (most : ℕ) → most ≡ 64 → (rows : List Row) (cs : List CircuitText) (p : Place) (d : Design) → Upto most rows (outline cs p) → design_at cs p ≡ Some d → AreDesign rows d
is_design most is rows cs (place.Top t) d h e =
    subst (AreDesign rows) (same (design cs t []) d e) (record {
      circuits = h.stands.before;
      bench = [];
      parts = h.stands.parts;
      are_circuits = h.stands.are_circuits;
      is_bench =
          r.absent;
      blocks = few most _ _ is h.depth;
    })
  where
    same : (a b : Design) → Some a ≡ Some b → a ≡ b
    same a b e = cc
is_design most is rows cs (place.End t xs) d h e =
    subst (AreDesign rows) (same (design cs t xs) d e) (record {
      circuits = h.stands.before;
      bench = _;
      parts = h.stands.parts;
      are_circuits = h.stands.are_circuits;
      is_bench =
          r.present h.stands.first h.stands.last xs;
      blocks = few most _ _ is h.depth;
    })
  where
    same : (a b : Design) → Some a ≡ Some b → a ≡ b
    same a b e = cc
is_design most is rows cs place.Start d h e = absurd cc
is_design most is rows cs (place.Circuit c) d h e = absurd cc
is_design most is rows cs (place.Bench t first xs) d h e = absurd cc

goes_on : (most : ℕ) → most ≡ 64 → 1 ≤ most → (rows : List Row) (cs : List CircuitText) (p : Place) → Upto most rows (outline cs p) → GoesOn rows
goes_on most is some rows cs place.Start h = circuits_go most is rows cs h.stands h.depth
goes_on most is some rows cs (place.Circuit c) h = circuit_goes c.blocks most is some rows cs c.line c.name c.params c.heads c.body h
goes_on most is some rows cs (place.Top t) h = design_goes rows (design cs t []) (is_design most is rows cs (place.Top t) (design cs t []) h refl)
goes_on most is some rows cs (place.Bench t first xs) h =
    let more = next_upto most some rows (outline cs (place.Bench t first xs)) (outline cs (place.End t xs)) (0, g.End) h refl in
    goes_less rows (0, g.End) (design_goes (rows ++ (0, g.End) ∷ []) (design cs t xs) (is_design most is (rows ++ (0, g.End) ∷ []) cs (place.End t xs) (design cs t xs) more refl))
goes_on most is some rows cs (place.End t xs) h = design_goes rows (design cs t xs) (is_design most is rows cs (place.End t xs) (design cs t xs) h refl)

-- ---- rows after rows

pub steps-append : (most : ℕ) (o : Outline) (xs ys : List Row) → steps most o (xs ++ ys) ≡ and_then (steps most o xs) (λ p. steps most p ys)
steps-append most o [] ys = refl
steps-append most o (x ∷ xs) ys = through (λ p. steps-append most p xs ys) (step most o x)
  where
    through : ((p : Outline) → steps most p (xs ++ ys) ≡ and_then (steps most p xs) (λ p. steps most p ys)) → (q : Option Outline)
        → and_then (misplaced_at x.0 q) (λ p. steps most p (xs ++ ys)) ≡ and_then (and_then (misplaced_at x.0 q) (λ p. steps most p xs)) (λ p. steps most p ys)
    through rest None = refl
    through rest (Some p) = rest p

-- what the rows led to, or where they stopped
pub record Stopped (most : ℕ) (o : Outline) (rows : List Row) (e : FaultKind × ℕ) : Type 0 where
  pub before : List Row
  pub at : Row
  pub after : List Row
  pub last : Outline
  pub parts : rows ≡ before ++ (at ∷ after)
  pub goes : steps most o before ≡ found last
  pub stops : step most last at ≡ None
  pub is : e ≡ (fault.Misplaced, at.0)

stopped_at : (most : ℕ) (o : Outline) (rows : List Row) (e : FaultKind × ℕ) → steps most o rows ≡ Err e → Stopped most o rows e
stopped_at most o [] e h = absurd cc
stopped_at most o (x ∷ xs) e h = by (λ p k. stopped_at most p xs e k) (step most o x) refl h
  where
    by : ((p : Outline) → steps most p xs ≡ Err e → Stopped most p xs e) → (q : Option Outline) → step most o x ≡ q
        → and_then (misplaced_at x.0 q) (λ p. steps most p xs) ≡ Err e → Stopped most o (x ∷ xs) e
    by rest None is h = record { before = []; at = x; after = xs; last = o; parts = refl; goes = refl; stops = is; is = (let f : (fault.Misplaced, x.0) ≡ e = cc in sym f) }
    by rest (Some p) is h =
        let s = rest p h in
        record {
          before = x ∷ s.before;
          at = s.at;
          after = s.after;
          last = s.last;
          parts = ap (λ rs. x ∷ rs) s.parts;
          goes = ap (λ q. and_then (misplaced_at x.0 q) (λ p. steps most p s.before)) is ∙ s.goes;
          stops = s.stops;
          is = s.is;
        }

upto_all : (most : ℕ) → 1 ≤ most → (more rows : List Row) (o p : Outline) → Upto most rows o → steps most o more ≡ found p → Upto most (rows ++ more) p
upto_all most some [] rows o p h e = subst (Upto most (rows ++ [])) (same o p e) (subst (λ rs. Upto most rs o) (sym (append-nil rows)) h)
  where
    same : (a b : Outline) → found a ≡ found b → a ≡ b
    same a b e = cc
upto_all most some (x ∷ more) rows o p h e = by (λ q k f. upto_all most some more (rows ++ x ∷ []) q p k f) (step most o x) refl e
  where
    by : ((q : Outline) → Upto most (rows ++ x ∷ []) q → steps most q more ≡ found p → Upto most ((rows ++ x ∷ []) ++ more) p) → (q : Option Outline) → step most o x ≡ q
        → and_then (misplaced_at x.0 q) (λ q. steps most q more) ≡ found p → Upto most (rows ++ x ∷ more) p
    by rest None is f = absurd cc
    by rest (Some q) is f = subst (λ rs. Upto most rs p) (append_assoc rows (x ∷ []) more) (rest q (next_upto most some rows o q x h is) f)

pub upto : (most : ℕ) → 1 ≤ most → (rows : List Row) (o : Outline) → steps most start rows ≡ found o → Upto most rows o
upto most some rows o e = upto_all most some rows [] start o (nothing_yet most) e

-- ---- the laws

-- rows that have their places go on to a design
pub placed_goes : (most : ℕ) → most ≡ 64 → 1 ≤ most → (rows : List Row) (o : Outline) → steps most start rows ≡ found o → GoesOn rows
placed_goes most is some rows o e = goes_on most is some rows o.circuits o.place (upto most some rows o e)

is_found : (x : Found Outline) (f : Outline → Found Outline) (p : Outline) → and_then x f ≡ found p → (o : Outline) × (x ≡ found o)
is_found (Ok o) f p e = (o, refl)
is_found (Err e) f p h = absurd cc

-- rows that go on to a design have their places
pub goes_placed : (most : ℕ) → most ≡ 64 → (rows : List Row) → GoesOn rows → (o : Outline) × (steps most start rows ≡ found o)
goes_placed most is rows h =
    let led = design_led most is (rows ++ h.0) h.1 h.2 in
    is_found (steps most start rows) (λ p. steps most p h.0) led.to (sym (steps-append most start rows h.0) ∙ led.steps_to)

-- and where they stop, the row has no place
pub stopped_misplaced : (most : ℕ) → most ≡ 64 → 1 ≤ most → (rows : List Row) (e : FaultKind × ℕ) → steps most start rows ≡ Err e → (e.0 ≡ fault.Misplaced) × IsMisplaced rows e.1
stopped_misplaced most is some rows e h =
    let s = stopped_at most start rows e h in
    let stuck : steps most start (s.before ++ s.at ∷ []) ≡ Err (fault.Misplaced, s.at.0) =
    steps-append most start s.before (s.at ∷ []) ∙ ap (λ x. and_then x (λ p. steps most p (s.at ∷ []))) s.goes ∙ ap (λ q. and_then (misplaced_at s.at.0 q) (λ p. found p)) s.stops in (
      ap (λ x. x.0) s.is,
      subst (IsMisplaced rows) (sym (ap (λ x. x.1) s.is)) (record {
        before = s.before;
        line = s.at.1;
        after = s.after;
        parts = s.parts;
        goes_on = placed_goes most is some s.before s.last s.goes;
        no_further = λ on. let p = goes_placed most is (s.before ++ s.at ∷ []) on in clash p.0 (sym stuck ∙ p.1);
      }),
    )
  where
    clash : {e : FaultKind × ℕ} (p : Outline) → Err e ≡ found p → ⊥
    clash p h = cc

-- a row without a place stops the reading
pub misplaced_stopped : (most : ℕ) → most ≡ 64 → 1 ≤ most → (rows : List Row) (n : ℕ) → IsMisplaced rows n → steps most start rows ≡ Err (fault.Misplaced, n)
misplaced_stopped most is some rows n h =
    let p = goes_placed most is h.before h.goes_on in
    ap (steps most start) h.parts ∙ steps-append most start h.before ((n, h.line) ∷ h.after) ∙ ap (λ x. and_then x (λ q. steps most q ((n, h.line) ∷ h.after))) p.1
    ∙ by p.0 p.1 (step most p.0 (n, h.line)) refl
  where
    by : (o : Outline) → steps most start h.before ≡ found o → (q : Option Outline) → step most o (n, h.line) ≡ q
        → and_then (misplaced_at n (step most o (n, h.line))) (λ q. steps most q h.after) ≡ Err (fault.Misplaced, n)
    by o e None f = ap (λ q. and_then (misplaced_at n q) (λ q. steps most q h.after)) f
    by o e (Some q) f = absurd (h.no_further (placed_goes most is some (h.before ++ (n, h.line) ∷ []) q
        (steps-append most start h.before ((n, h.line) ∷ []) ∙ ap (λ x. and_then x (λ q. steps most q ((n, h.line) ∷ []))) e ∙ ap (λ q. and_then (misplaced_at n q) (λ q. found q)) f)))

-- the design of rows is the one that they are
pub design_found : (most : ℕ) → most ≡ 64 → (rows : List Row) (d : Design) → AreDesign rows d → (o : Outline) × (steps most start rows ≡ found o) × (design_of o ≡ Some d)
design_found most is rows d h = let led = design_led most is rows d h in (led.to, led.steps_to, led.is)

pub found_design : (most : ℕ) → most ≡ 64 → 1 ≤ most → (rows : List Row) (o : Outline) (d : Design) → steps most start rows ≡ found o → design_of o ≡ Some d → AreDesign rows d
found_design most is some rows o d e f = is_design most is rows o.circuits o.place d (upto most some rows o e) f
