-- A text parses to the design that is read from it, and else has the fault that the reading stops with.
use Rattle.std.proofs.Common.{◌≡◌, ◌⊎◌, inl, inr, ℕ, ◌+◌, ◌≤◌, Bool, true, false, not, ◌||◌, List, [], ◌∷◌, ◌++◌, map, Option, Some, None, Ok, Err, refl, sym, ◌∙◌, ap, subst, arith}
use Rattle.std.specs.List.{list_any}
use Rattle.hc_fault.specs.declared.fault.FaultKind.{FaultKind}
use Rattle.hc_fault.specs.declared.fault.FaultKind.TheVariants as fault
use Rattle.hc_tokens.specs.Tokens.{lines}
use Rattle.hc_lang.specs.declared.tree.CircuitText.{CircuitText}
use Rattle.hc_lang.specs.declared.tree.Design.{Design}
use Rattle.hc_lang.specs.declared.outline.Block.{Block}
use Rattle.hc_lang.specs.declared.outline.Place.{Place}
use Rattle.hc_lang.specs.declared.outline.Place.TheVariants as place
use Rattle.hc_lang.specs.declared.outline.Outline.{Outline}
use Rattle.hc_lang.specs.Reads as r
use Rattle.hc_lang.specs.Reads.{Row, HasRows, IsClosed, ParsesTo, Reads, FirstFault, GoesOn, open_blocks, first_repeated, first_reserved, is_top}
use Rattle.hc_lang.specs.declared.text_stop.TextStop.{TextStop}
use Rattle.hc_lang.specs.declared.text_stop.TextStop.TheVariants as stop
use Rattle.hc_lang.specs.Found.{Found, found, and_then, pass, Fails}
use Rattle.hc_lang.specs.RowReading.{rows_from}
use Rattle.hc_lang.specs.Structure.{steps, start, open_line, innermost, design_of, design_at, circuit}
use Rattle.hc_lang.specs.TextReading.{bad_line, finished, of_rows, parsed}
use Rattle.hc_lang.proofs.NotAscii.{all_allowed, no_bad_line, earliest_bad, bad_earliest}
use Rattle.hc_lang.proofs.RowLaws.{rows_read, rows_are, one_reading, earliest_stuck, stuck_earliest}
use Rattle.hc_lang.proofs.Places.{Stands, lines_at, block_line, whole, top_row}
use Rattle.hc_lang.proofs.StructureLaws.{upto, placed_goes, goes_placed, stopped_misplaced, misplaced_stopped, design_found, found_design}
use Rattle.hc_lang.proofs.Tops.{NoTops, circuits-NoTops}

-- ---- faults one after the other

is_found : {A : Type 0} (a b : A) → found a ≡ found b → a ≡ b
is_found a b e = cc

abbrev Err_ : {A : Type 0} → FaultKind × ℕ → Found A
Err_ e = Err e

is_err : {A : Type 0} (e f : FaultKind × ℕ) (x : Found A) → x ≡ Err_ e → x ≡ Err_ f → e ≡ f
is_err e f x h k = cc

passed : {A : Type 0} (k : FaultKind) (o : Option ℕ) (f : Unit {0} → Found A) (x : A) → and_then (pass k o) f ≡ found x → (o ≡ None) × (f tt ≡ found x)
passed k None f x e = (refl, e)
passed k (Some n) f x e = absurd cc

-- the fault is this one, or a later one
abbrev Failed : {A : Type 0} → FaultKind → Option ℕ → Found A → FaultKind × ℕ → Type 0
Failed k o later e = ((n : ℕ) × (o ≡ Some n) × (e ≡ (k, n))) ⊎ ((o ≡ None) × (later ≡ Err_ e))

failed : {A : Type 0} (k : FaultKind) (o : Option ℕ) (f : Unit {0} → Found A) (e : FaultKind × ℕ) → and_then (pass k o) f ≡ Err_ e → Failed k o (f tt) e
failed k None f e h = inr (refl, h)
failed k (Some n) f e h = inl (n, refl, (let same : (k, n) ≡ e = cc in sym same))

went : {A B : Type 0} (x : Found A) (f : A → Found B) (b : B) → and_then x f ≡ found b → (a : A) × (x ≡ found a) × (f a ≡ found b)
went (Ok a) f b e = (a, refl, e)
went (Err g) f b e = absurd cc

stopped : {A B : Type 0} (x : Found A) (f : A → Found B) (e : FaultKind × ℕ) → and_then x f ≡ Err_ e → (x ≡ Err_ e) ⊎ ((a : A) × (x ≡ found a) × (f a ≡ Err_ e))
stopped (Ok a) f e h = inr (a, refl, h)
stopped (Err g) f e h = inl (let same : Err_ g ≡ Err_ e = cc in same)

-- ---- open blocks and the `top` line

line_open : (p : Place) (n : ℕ) → open_line p ≡ Some n → (outer : List ℕ) × (lines_at p ≡ n ∷ outer)
line_open (place.Circuit c) n e = of_blocks c.blocks e
  where
    of_blocks : (bs : List Block) → innermost bs ≡ Some n → (outer : List ℕ) × (map block_line bs ≡ n ∷ outer)
    of_blocks [] e = absurd cc
    of_blocks (b ∷ bs) e = (map block_line bs, (let same : b.line ≡ n = cc in ap (λ k. k ∷ map block_line bs) same))
line_open (place.Bench t m steps) n e = ([], (let same : m ≡ n = cc in ap (λ k. k ∷ []) same))
line_open place.Start n e = absurd cc
line_open (place.Top t) n e = absurd cc
line_open (place.End t steps) n e = absurd cc

none_open : (p : Place) → open_line p ≡ None → lines_at p ≡ []
none_open (place.Circuit c) e = of_blocks c.blocks e
  where
    of_blocks : (bs : List Block) → innermost bs ≡ None → map block_line bs ≡ []
    of_blocks [] e = refl
    of_blocks (b ∷ bs) e = absurd cc
none_open (place.Bench t m steps) e = absurd cc
none_open place.Start e = refl
none_open (place.Top t) e = refl
none_open (place.End t steps) e = refl

-- the line of the innermost of these
abbrev first_line : List ℕ → Option ℕ
first_line [] = None
first_line (n ∷ ns) = Some n

open_is : (p : Place) → open_line p ≡ first_line (lines_at p)
open_is (place.Circuit c) = of_blocks c.blocks
  where
    of_blocks : (bs : List Block) → innermost bs ≡ first_line (map block_line bs)
    of_blocks [] = refl
    of_blocks (b ∷ bs) = refl
open_is (place.Bench t m steps) = refl
open_is place.Start = refl
open_is (place.Top t) = refl
open_is (place.End t steps) = refl

no_tops : (rows : List Row) → NoTops rows → list_any is_top rows ≡ false
no_tops [] h = refl
no_tops (x ∷ rows) h = ap (λ b. b || list_any is_top rows) h.0 ∙ no_tops rows h.1

some_top : (before after : List Row) (x : Row) → is_top x ≡ true → list_any is_top (before ++ (x ∷ after)) ≡ true
some_top [] after x e = ap (λ b. b || list_any is_top after) e
some_top (y ∷ before) after x e = through (is_top y) (some_top before after x e)
  where
    through : (b : Bool) {c : Bool} → c ≡ true → (b || c) ≡ true
    through true e = refl
    through false e = e

-- without a design there is no `top` line, if nothing is open
no_design : (rows : List Row) (cs : List CircuitText) (p : Place) → Stands rows cs p → open_line p ≡ None → design_at cs p ≡ None → list_any is_top rows ≡ false
no_design rows cs place.Start h o e = no_tops rows (circuits-NoTops h)
no_design rows cs (place.Circuit c) h o e = of_blocks c.blocks o h
  where
    of_blocks : (bs : List Block) → innermost bs ≡ None → Stands rows cs (place.Circuit (circuit c.line c.name c.params c.heads bs c.body)) → list_any is_top rows ≡ false
    of_blocks [] o h = no_tops rows (circuits-NoTops (whole rows cs c.line c.name c.params c.heads c.body h))
    of_blocks (b ∷ bs) o h = absurd cc
no_design rows cs (place.Top t) h o e = absurd cc
no_design rows cs (place.Bench t m steps) h o e = absurd cc
no_design rows cs (place.End t steps) h o e = absurd cc

no_top_none : (rows : List Row) (cs : List CircuitText) (p : Place) → Stands rows cs p → list_any is_top rows ≡ false → design_at cs p ≡ None
no_top_none rows cs place.Start h e = refl
no_top_none rows cs (place.Circuit c) h e = refl
no_top_none rows cs (place.Bench t m steps) h e = refl
no_top_none rows cs (place.Top t) h e = let clash : false ≡ true = sym e ∙ ap (list_any is_top) h.parts ∙ some_top h.before [] (top_row t) refl in absurd cc
no_top_none rows cs (place.End t steps) h e = let clash : false ≡ true = sym e ∙ ap (list_any is_top) h.parts ∙ some_top h.before _ (top_row t) refl in absurd cc

-- ---- rows

abbrev ends : Outline → List Row → Found Design
ends o rows = and_then (pass fault.Unclosed (open_line o.place))
    (λ u. and_then (pass fault.RepeatedCircuit (first_repeated [] rows)) (λ v. and_then (pass fault.ReservedName (first_reserved rows)) (λ w. finished (design_of o))))

rows_to : (most : ℕ) (rows : List Row) (x : Found Outline) → steps most start rows ≡ x → of_rows most rows ≡ and_then x (λ o. ends o rows)
unfolding of_rows
rows_to most rows x e = ap (λ x. and_then x (λ o. ends o rows)) e

text_to : (d most : ℕ) (text : List ℕ) (rows : List Row) → bad_line 1 text ≡ None → rows_from d 1 (lines text) ≡ found rows → parsed d most text ≡ of_rows most rows
unfolding parsed
text_to d most text rows e f = ap (λ o. and_then (pass fault.NotAscii o) (λ u. and_then (rows_from d 1 (lines text)) (λ rows. of_rows most rows))) e
    ∙ ap (λ x. and_then x (λ rows. of_rows most rows)) f

finished_is : (o : Option Design) (d : Design) → finished o ≡ found d → o ≡ Some d
finished_is None d e = absurd cc
finished_is (Some c) d e = ap (λ x. Some x) (is_found c d e)

unfinished : (o : Option Design) (e : FaultKind × ℕ) → finished o ≡ Err_ e → (o ≡ None) × (e ≡ (fault.NoTop, 0))
unfinished None e h = (refl, (let same : (fault.NoTop, 0) ≡ e = cc in sym same))
unfinished (Some d) e h = absurd cc

design_closed : (cs : List CircuitText) (p : Place) (d : Design) → design_at cs p ≡ Some d → open_line p ≡ None
design_closed cs (place.Top t) d e = refl
design_closed cs (place.End t steps) d e = refl
design_closed cs place.Start d e = refl
design_closed cs (place.Circuit c) d e = absurd cc
design_closed cs (place.Bench t n steps) d e = absurd cc

-- what is read from rows without a fault
record Read (most : ℕ) (rows : List Row) (d : Design) : Type 0 where
  to : Outline
  stepped : steps most start rows ≡ found to
  differ : first_repeated [] rows ≡ None
  free : first_reserved rows ≡ None
  is : design_of to ≡ Some d

rows_read_as : (most : ℕ) (rows : List Row) (d : Design) → of_rows most rows ≡ found d → Read most rows d
rows_read_as most rows d e =
    let s = went (steps most start rows) (λ o. ends o rows) d (sym (rows_to most rows (steps most start rows) refl) ∙ e) in
    let u = passed fault.Unclosed (open_line s.0.place) (λ u. and_then (pass fault.RepeatedCircuit (first_repeated [] rows))
    (λ v. and_then (pass fault.ReservedName (first_reserved rows)) (λ w. finished (design_of s.0)))) d s.2 in
    let v = passed fault.RepeatedCircuit (first_repeated [] rows) (λ v. and_then (pass fault.ReservedName (first_reserved rows)) (λ w. finished (design_of s.0))) d u.1 in
    let w = passed fault.ReservedName (first_reserved rows) (λ w. finished (design_of s.0)) d v.1 in
    record { to = s.0; stepped = s.1; differ = v.0; free = w.0; is = finished_is (design_of s.0) d w.1 }

ends_in : (o : Outline) (rows : List Row) → open_line o.place ≡ None → first_repeated [] rows ≡ None → first_reserved rows ≡ None → ends o rows ≡ finished (design_of o)
ends_in o rows e f g =
    ap (λ x. and_then (pass fault.Unclosed x) (λ u. and_then (pass fault.RepeatedCircuit (first_repeated [] rows))
    (λ v. and_then (pass fault.ReservedName (first_reserved rows)) (λ w. finished (design_of o))))) e
    ∙ ap (λ x. and_then (pass fault.RepeatedCircuit x) (λ v. and_then (pass fault.ReservedName (first_reserved rows)) (λ w. finished (design_of o)))) f
    ∙ ap (λ x. and_then (pass fault.ReservedName x) (λ w. finished (design_of o))) g

-- ---- a text is read as the design that it parses to

pub read_parses : (d most : ℕ) → d ≡ 64 → most ≡ 64 → 1 ≤ most → (text : List ℕ) (e : Design) → parsed d most text ≡ found e → ParsesTo text e
unfolding parsed
read_parses d most is im some text e h =
    let p = passed fault.NotAscii (bad_line 1 text) (λ u. and_then (rows_from d 1 (lines text)) (λ rows. of_rows most rows)) e h in
    let q = went (rows_from d 1 (lines text)) (λ rows. of_rows most rows) e p.1 in
    let s = rows_read_as most q.0 e q.2 in
    record {
      reads = record { rows = q.0; allowed = all_allowed text p.0; are_rows = rows_are d is 1 (lines text) q.0 q.1; are_design = found_design most im some q.0 s.to e s.stepped s.is };
      names_differ = s.differ;
      none_reserved = s.free;
    }

pub parses_read : (d most : ℕ) → d ≡ 64 → most ≡ 64 → (text : List ℕ) (e : Design) → ParsesTo text e → parsed d most text ≡ found e
parses_read d most is im text e h =
    let led = design_found most im h.reads.rows e h.reads.are_design in
    text_to d most text h.reads.rows (no_bad_line text h.reads.allowed) (rows_read d is h.reads.are_rows)
    ∙ rows_to most h.reads.rows (found led.0) led.1
    ∙ ends_in led.0 h.reads.rows (design_closed led.0.circuits led.0.place e led.2) h.names_differ h.none_reserved
    ∙ ap finished led.2

-- ---- and stops with the first fault

abbrev Faulty : List ℕ → FaultKind × ℕ → Type 0
Faulty text e = FirstFault text e.0 e.1

closed_rows : (most : ℕ) → most ≡ 64 → 1 ≤ most → (rows : List Row) (o : Outline) → steps most start rows ≡ found o → open_line o.place ≡ None → IsClosed rows
closed_rows most im some rows o s e = record { goes_on = placed_goes most im some rows o s; none_open = (upto most some rows o s).depth.are_open ∙ none_open o.place e }

rows_fault : (most : ℕ) → most ≡ 64 → 1 ≤ most → (text : List ℕ) (rows : List Row) (e : FaultKind × ℕ) → HasRows text rows → of_rows most rows ≡ Err_ e → Faulty text e
rows_fault most im some text rows e has h = at_steps (stopped (steps most start rows) (λ o. ends o rows) e (sym (rows_to most rows (steps most start rows) refl) ∙ h))
  where
    at_names : (o : Outline) → steps most start rows ≡ found o → open_line o.place ≡ None → first_repeated [] rows ≡ None
        → Failed fault.ReservedName (first_reserved rows) (finished (design_of o)) e → Faulty text e
    at_names o s c f (inl x) = subst (Faulty text) (sym x.2) (r.reserved x.0 rows has (closed_rows most im some rows o s c) f x.1)
    at_names o s c f (inr x) =
        let u = unfinished (design_of o) e x.1 in
        subst (Faulty text) (sym u.1) (r.no_top rows has (closed_rows most im some rows o s c) f x.0 (ap not (no_design rows o.circuits o.place (upto most some rows o s).stands c u.0)))

    at_circuits : (o : Outline) → steps most start rows ≡ found o → open_line o.place ≡ None
        → Failed fault.RepeatedCircuit (first_repeated [] rows) (and_then (pass fault.ReservedName (first_reserved rows)) (λ w. finished (design_of o))) e → Faulty text e
    at_circuits o s c (inl x) = subst (Faulty text) (sym x.2) (r.repeated x.0 rows has (closed_rows most im some rows o s c) x.1)
    at_circuits o s c (inr x) = at_names o s c x.0 (failed fault.ReservedName (first_reserved rows) (λ w. finished (design_of o)) e x.1)

    at_end : (o : Outline) → steps most start rows ≡ found o
        → Failed fault.Unclosed (open_line o.place) (and_then (pass fault.RepeatedCircuit (first_repeated [] rows))
        (λ v. and_then (pass fault.ReservedName (first_reserved rows)) (λ w. finished (design_of o)))) e
        → Faulty text e
    at_end o s (inl x) = let l = line_open o.place x.0 x.1 in subst (Faulty text) (sym x.2)
        (r.unclosed x.0 l.0 rows has (placed_goes most im some rows o s) ((upto most some rows o s).depth.are_open ∙ l.1))
    at_end o s (inr x) = at_circuits o s x.0 (failed fault.RepeatedCircuit (first_repeated [] rows) (λ v. and_then (pass fault.ReservedName (first_reserved rows)) (λ w. finished (design_of o))) e x.1)

    at_steps : (steps most start rows ≡ Err_ e) ⊎ ((o : Outline) × (steps most start rows ≡ found o) × (ends o rows ≡ Err_ e)) → Faulty text e
    at_steps (inl x) = let m = stopped_misplaced most im some rows e x in subst (λ k. FirstFault text k e.1) (sym m.0) (r.misplaced e.1 rows has m.1)
    at_steps (inr x) = at_end x.0 x.1 (failed fault.Unclosed (open_line x.0.place)
        (λ u. and_then (pass fault.RepeatedCircuit (first_repeated [] rows)) (λ v. and_then (pass fault.ReservedName (first_reserved rows)) (λ w. finished (design_of x.0)))) e x.2)

pub stops_faulty : (d most : ℕ) → d ≡ 64 → most ≡ 64 → 1 ≤ most → (text : List ℕ) (e : FaultKind × ℕ) → parsed d most text ≡ Err_ e → Faulty text e
unfolding parsed
stops_faulty d most is im some text e h = at_bytes (failed fault.NotAscii (bad_line 1 text) (λ u. and_then (rows_from d 1 (lines text)) (λ rows. of_rows most rows)) e h)
  where
    at_lines : r.IsAllowed text → (rows_from d 1 (lines text) ≡ Err_ e) ⊎ ((rows : List Row) × (rows_from d 1 (lines text) ≡ found rows) × (of_rows most rows ≡ Err_ e)) → Faulty text e
    at_lines a (inl x) = let s = stuck_earliest d is (lines text) e x in subst (Faulty text) (sym s.2) (r.syntax_fault s.0 s.1 a s.3)
    at_lines a (inr x) = rows_fault most im some text x.0 e (record { allowed = a; are_rows = rows_are d is 1 (lines text) x.0 x.1 }) x.2

    at_bytes : Failed fault.NotAscii (bad_line 1 text) (and_then (rows_from d 1 (lines text)) (λ rows. of_rows most rows)) e → Faulty text e
    at_bytes (inl x) = let b = bad_earliest text x.0 x.1 in subst (Faulty text) (sym (x.2 ∙ ap (λ k. (fault.NotAscii, k)) b.2)) (r.not_ascii b.0 b.1 b.3)
    at_bytes (inr x) = at_lines (all_allowed text x.0) (stopped (rows_from d 1 (lines text)) (λ rows. of_rows most rows) e x.1)

bad_stops : (d most : ℕ) (text : List ℕ) (n : ℕ) → bad_line 1 text ≡ Some n → parsed d most text ≡ Err_ (fault.NotAscii, n)
unfolding parsed
bad_stops d most text n e = ap (λ o. and_then (pass fault.NotAscii o) (λ u. and_then (rows_from d 1 (lines text)) (λ rows. of_rows most rows))) e

syntax_stops : (d most : ℕ) (text : List ℕ) (n : ℕ) → bad_line 1 text ≡ None → rows_from d 1 (lines text) ≡ Err_ (fault.Syntax, n) → parsed d most text ≡ Err_ (fault.Syntax, n)
unfolding parsed
syntax_stops d most text n e f = ap (λ o. and_then (pass fault.NotAscii o) (λ u. and_then (rows_from d 1 (lines text)) (λ rows. of_rows most rows))) e
    ∙ ap (λ x. and_then x (λ rows. of_rows most rows)) f

closed_line : (most : ℕ) → 1 ≤ most → (rows : List Row) (o : Outline) (lines : List ℕ) → steps most start rows ≡ found o → open_blocks [] rows ≡ lines → open_line o.place ≡ first_line lines
closed_line most some rows o lines s e = open_is o.place ∙ ap first_line (sym (upto most some rows o s).depth.are_open ∙ e)

pub faulty_stops : (d most : ℕ) → d ≡ 64 → most ≡ 64 → 1 ≤ most → (text : List ℕ) (k : FaultKind) (n : ℕ) → FirstFault text k n → parsed d most text ≡ Err_ (k, n)
faulty_stops d most is im some text k n (r.not_ascii i line h) = bad_stops d most text (i + 1) (earliest_bad text i line h)
faulty_stops d most is im some text k n (r.syntax_fault i line a h) = syntax_stops d most text (i + 1) (no_bad_line text a) (earliest_stuck d is (lines text) i line h)
faulty_stops d most is im some text k n (r.misplaced m rows has h) =
    text_to d most text rows (no_bad_line text has.allowed) (rows_read d is has.are_rows) ∙ rows_to most rows (Err_ (fault.Misplaced, m)) (misplaced_stopped most im some rows m h)
faulty_stops d most is im some text k n (r.unclosed m outer rows has goes h) =
    let p = goes_placed most im rows goes in
    text_to d most text rows (no_bad_line text has.allowed) (rows_read d is has.are_rows) ∙ rows_to most rows (found p.0) p.1
    ∙ ap (λ x. and_then (pass fault.Unclosed x) (λ u. and_then (pass fault.RepeatedCircuit (first_repeated [] rows))
    (λ v. and_then (pass fault.ReservedName (first_reserved rows)) (λ w. finished (design_of p.0))))) (closed_line most some rows p.0 (m ∷ outer) p.1 h)
faulty_stops d most is im some text k n (r.repeated m rows has closed h) =
    let p = goes_placed most im rows closed.goes_on in
    text_to d most text rows (no_bad_line text has.allowed) (rows_read d is has.are_rows) ∙ rows_to most rows (found p.0) p.1
    ∙ ap (λ x. and_then (pass fault.Unclosed x) (λ u. and_then (pass fault.RepeatedCircuit (first_repeated [] rows))
    (λ v. and_then (pass fault.ReservedName (first_reserved rows)) (λ w. finished (design_of p.0))))) (closed_line most some rows p.0 [] p.1 closed.none_open)
    ∙ ap (λ x. and_then (pass fault.RepeatedCircuit x) (λ v. and_then (pass fault.ReservedName (first_reserved rows)) (λ w. finished (design_of p.0)))) h
faulty_stops d most is im some text k n (r.reserved m rows has closed f h) =
    let p = goes_placed most im rows closed.goes_on in
    text_to d most text rows (no_bad_line text has.allowed) (rows_read d is has.are_rows) ∙ rows_to most rows (found p.0) p.1
    ∙ ap (λ x. and_then (pass fault.Unclosed x) (λ u. and_then (pass fault.RepeatedCircuit (first_repeated [] rows))
    (λ v. and_then (pass fault.ReservedName (first_reserved rows)) (λ w. finished (design_of p.0))))) (closed_line most some rows p.0 [] p.1 closed.none_open)
    ∙ ap (λ x. and_then (pass fault.RepeatedCircuit x) (λ v. and_then (pass fault.ReservedName (first_reserved rows)) (λ w. finished (design_of p.0)))) f
    ∙ ap (λ x. and_then (pass fault.ReservedName x) (λ w. finished (design_of p.0))) h
faulty_stops d most is im some text k n (r.no_top rows has closed f g h) =
    let p = goes_placed most im rows closed.goes_on in
    text_to d most text rows (no_bad_line text has.allowed) (rows_read d is has.are_rows) ∙ rows_to most rows (found p.0) p.1
    ∙ ends_in p.0 rows (closed_line most some rows p.0 [] p.1 closed.none_open) f g
    ∙ ap finished (no_top_none rows p.0.circuits p.0.place (upto most some rows p.0 p.1).stands (not_true (list_any is_top rows) h))
  where
    not_true : (b : Bool) → not b ≡ true → b ≡ false
    not_true true e = absurd cc
    not_true false e = refl

-- ---- one design, one fault, one of the two

same_read : (d : ℕ) → d ≡ 64 → (text : List ℕ) (a b : Design) → Reads text a → Reads text b → a ≡ b
same_read d is text a b h k =
    let p = design_found d is h.rows a h.are_design in
    let q = design_found d is k.rows b k.are_design in
    let rows : h.rows ≡ k.rows = one_reading 1 (lines text) h.rows k.rows h.are_rows k.are_rows in
    let to : p.0 ≡ q.0 = is_found p.0 q.0 (sym p.1 ∙ ap (steps d start) rows ∙ q.1) in
    one a b (sym p.2 ∙ ap design_of to ∙ q.2)
  where
    one : (a b : Design) → Some a ≡ Some b → a ≡ b
    one a b e = cc

pub one_design : r.AtMostOne
one_design = same_read 64 refl

pub one_fault : r.OneFault
one_fault text k j n m h i = same 64 64 refl refl (omega arith)
  where
    same : (d most : ℕ) → d ≡ 64 → most ≡ 64 → 1 ≤ most → (k ≡ j) × (n ≡ m)
    same d most is im some =
        let e : (k, n) ≡ (j, m) = is_err (k, n) (j, m) (parsed d most text) (faulty_stops d most is im some text k n h) (faulty_stops d most is im some text j m i) in
        (ap (λ x. x.0) e, ap (λ x. x.1) e)

pub one_of_two : r.OneOfTwo
one_of_two text = by 64 64 refl refl (omega arith)
  where
    by : (d most : ℕ) → d ≡ 64 → most ≡ 64 → 1 ≤ most → ((e : Design) × ParsesTo text e) ⊎ ((k : FaultKind) × (n : ℕ) × FirstFault text k n)
    by d most is im some = cases (parsed d most text) refl
      where
        cases : (x : Found Design) → parsed d most text ≡ x → ((e : Design) × ParsesTo text e) ⊎ ((k : FaultKind) × (n : ℕ) × FirstFault text k n)
        cases (Ok e) h = inl (e, read_parses d most is im some text e h)
        cases (Err f) h = inr (f.0, f.1, stops_faulty d most is im some text f h)

pub not_both : r.NotBoth
not_both text e k n h i = by 64 64 refl refl (omega arith)
  where
    by : (d most : ℕ) → d ≡ 64 → most ≡ 64 → 1 ≤ most → ⊥
    by d most is im some = clash (sym (parses_read d most is im text e h) ∙ faulty_stops d most is im some text k n i)
      where
        clash : found e ≡ Err_ (k, n) → ⊥
        clash e = cc

pub fault_is : (e : TextStop) (k : FaultKind) (n : ℕ) (x : Found Design) → e ≡ stop.Fault k n → Fails e x → x ≡ Err_ (k, n)
fault_is (stop.Fault j m) k n x is h = h ∙ (let a : j ≡ k = cc in let b : m ≡ n = cc in ap (λ j. Err_ (j, m)) a ∙ ap (λ m. Err_ (k, m)) b)
fault_is stop.Memory k n x is h = absurd cc
