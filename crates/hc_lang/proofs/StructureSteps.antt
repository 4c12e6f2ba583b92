-- The outline with one row more.
use Rattle.std.proofs.Common.{◌≡◌, ℕ, List, [], ◌∷◌, ◌++◌, Ok, Err, refl, sym, ◌∙◌, ap, append_assoc}
use Rattle.hc_lines.specs.declared.line.Line.{Line}
use Rattle.hc_lang.specs.declared.tree.CircuitText.{CircuitText}
use Rattle.hc_lang.specs.declared.outline.OpenCircuit.{OpenCircuit}
use Rattle.hc_lang.specs.declared.outline.Place.{Place}
use Rattle.hc_lang.specs.declared.outline.Place.TheVariants as place
use Rattle.hc_lang.specs.declared.outline.Outline.{Outline}
use Rattle.hc_lang.specs.declared.text_stop.TextStop.{TextStop}
use Rattle.hc_lang.specs.declared.text_stop.TextStop.TheVariants as stop
use Rattle.hc_lang.specs.Reads.{Row}
use Rattle.hc_lang.specs.Found.{Found, found, and_then, Fails}
use Rattle.hc_lang.specs.Structure.{after, elsewhere, misplaced_at, steps, start}
use Rattle.hc_lang.proofs.StructureLaws.{steps-append}

-- a place that is in no circuit
pub outside : (most : ℕ) (cs : List CircuitText) (p : Place) (n : ℕ) (l : Line) → ((c : OpenCircuit) → p ≡ place.Circuit c → ⊥) → after most cs p n l ≡ elsewhere cs p n l
outside most cs place.Start n l h = refl
outside most cs (place.Circuit c) n l h = absurd (h c refl)
outside most cs (place.Top t) n l h = refl
outside most cs (place.Bench t first xs) n l h = refl
outside most cs (place.End t xs) n l h = refl

last_step : (most : ℕ) (rows : List Row) (o : Outline) (n : ℕ) (l : Line) (x : Found Outline) → steps most start rows ≡ found o
    → misplaced_at n (after most o.circuits o.place n l) ≡ x → steps most start (rows ++ (n, l) ∷ []) ≡ x
last_step most rows o n l x e f =
    steps-append most start rows ((n, l) ∷ [])
    ∙ ap (λ y. and_then y (λ p. steps most p ((n, l) ∷ []))) e
    ∙ ap (λ y. and_then y (λ p. found p)) f
    ∙ same x
  where
    same : (x : Found Outline) → and_then x (λ p. found p) ≡ x
    same (Ok p) = refl
    same (Err e) = refl

-- one row more
pub goes_on : (most : ℕ) (rows : List Row) (o p : Outline) (n : ℕ) (l : Line) → steps most start rows ≡ found o
    → misplaced_at n (after most o.circuits o.place n l) ≡ found p → steps most start (rows ++ (n, l) ∷ []) ≡ found p
goes_on most rows o p n l e f = last_step most rows o n l (found p) e f

-- a row without a place stops the reading of all
pub stops_all : (most : ℕ) (all rows rest more : List Row) (o : Outline) (n : ℕ) (l : Line) (e : TextStop) → rows ++ rest ≡ all → rest ≡ (n, l) ∷ more
    → steps most start rows ≡ found o → Fails e (misplaced_at n (after most o.circuits o.place n l)) → Fails e (steps most start all)
stops_all most all rows rest more o n l stop.Memory is next e f = f
stops_all most all rows rest more o n l (stop.Fault k m) is next e f =
    ap (steps most start) (sym is ∙ ap (λ rs. rows ++ rs) next ∙ sym (append_assoc rows ((n, l) ∷ []) more))
    ∙ steps-append most start (rows ++ (n, l) ∷ []) more
    ∙ ap (λ y. and_then y (λ p. steps most p more)) (last_step most rows o n l (Err (k, m)) e f)

-- the rows so far, and those that are left
pub left_over : (all rows rest more : List Row) (x : Row) → rows ++ rest ≡ all → rest ≡ x ∷ more → (rows ++ x ∷ []) ++ more ≡ all
left_over all rows rest more x is next = append_assoc rows (x ∷ []) more ∙ ap (λ rs. rows ++ rs) (sym next) ∙ is
