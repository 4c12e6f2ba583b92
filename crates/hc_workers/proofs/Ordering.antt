-- The rows by their heights are all rows, each once.
use Rattle.std.proofs.Common.{◌≡◌, ℕ, zero, suc, ◌+◌, ◌<◌, ◌≤◌, Bool, true, false, List, [], ◌∷◌, ◌++◌, length, refl, sym, ap, subst, ◌∙◌, arith}
use Rattle.std.proofs.lemmas.Bool.{eqb-true, eqb-false, leb-true, leb-false, le-leb, lt-leb}
use Rattle.std.proofs.lemmas.List.Sorted.{IsPermutation-append_left, IsPermutation-cons, IsPermutation-middle, IsPermutation-refl, IsPermutation-trans}
use Rattle.std.specs.List.{range_with_len}
use Rattle.std.specs.Prelude.{slice_get, Some, nat_le, ◌==◌, if◌then◌else◌, IsPermutation}
use Rattle.hc_plan.specs.declared.kinds.PlanRow.{PlanRow}
use Rattle.hc_workers.specs.Levels.{IsHighest, places_from, places_to}

-- the places of the rows that are no higher
places_below : ℕ → ℕ → List PlanRow → List ℕ
places_below n s [] = []
places_below n s (row ∷ rows) = (if nat_le row.height n then s ∷ places_below n (s + 1) rows else places_below n (s + 1) rows)

one_height : (h n s : ℕ) (low here next : List ℕ) (b c d : Bool) → nat_le h n ≡ b → (h == suc n) ≡ c → nat_le h (suc n) ≡ d → IsPermutation (low ++ here) next
    → IsPermutation ((if b then s ∷ low else low) ++ (if c then s ∷ here else here)) (if d then s ∷ next else next)
one_height h n s low here next true true d x y z p = (let l : h ≤ n = leb-true h n x in let e : h ≡ suc n = eqb-true h (suc n) y in absurd (omega (arith, l, e)))
one_height h n s low here next true false true x y z p = IsPermutation-cons s (low ++ here) next p
one_height h n s low here next true false false x y z p = (let l : h ≤ n = leb-true h n x in let m : suc n < h = leb-false h (suc n) z in absurd (omega (arith, l, m)))
one_height h n s low here next false true true x y z p = IsPermutation-trans (low ++ s ∷ here) (s ∷ (low ++ here)) (s ∷ next) (IsPermutation-middle low s here)
    (IsPermutation-cons s (low ++ here) next p)
one_height h n s low here next false true false x y z p = (let e : h ≡ suc n = eqb-true h (suc n) y in let m : suc n < h = leb-false h (suc n) z in absurd (omega (arith, e, m)))
one_height h n s low here next false false true x y z p = (let l : n < h = leb-false h n x in let m : h ≤ suc n = leb-true h (suc n) z in absurd (eqb-false h (suc n) y (omega (arith, l, m))))
one_height h n s low here next false false false x y z p = p

-- one height more
next_height : (n s : ℕ) (rows : List PlanRow) → IsPermutation (places_below n s rows ++ places_from (suc n) s rows) (places_below (suc n) s rows)
unfolding places_below
next_height n s [] = IsPermutation-refl []
next_height n s (row ∷ rows) =
    one_height row.height n s (places_below n (s + 1) rows) (places_from (suc n) (s + 1) rows) (places_below (suc n) (s + 1) rows) (nat_le row.height n) (row.height == suc n)
    (nat_le row.height (suc n)) refl refl refl (next_height n (s + 1) rows)

-- no row has no height
none_below : (s : ℕ) (rows : List PlanRow) → ((k : ℕ) (row : PlanRow) → slice_get rows k ≡ Some row → 1 ≤ row.height) → places_below 0 s rows ≡ []
unfolding places_below
none_below s [] some = refl
none_below s (row ∷ rows) some =
    let h : 1 ≤ row.height = some zero row refl in
    ap (λ b. if b then s ∷ places_below 0 (s + 1) rows else places_below 0 (s + 1) rows) (lt-leb row.height 0 (omega (arith, h))) ∙ none_below (s + 1) rows (λ k r e. some (suc k) r e)

-- all rows are below the highest
all_below : (n s : ℕ) (rows : List PlanRow) → IsHighest rows n → places_below n s rows ≡ range_with_len s (length rows)
unfolding places_below
all_below n s [] highest = refl
all_below n s (row ∷ rows) highest =
    ap (λ b. if b then s ∷ places_below n (s + 1) rows else places_below n (s + 1) rows) (le-leb row.height n (highest zero row refl))
    ∙ ap (λ l. s ∷ l) (all_below n (s + 1) rows (λ k r e. highest (suc k) r e))

to_below : (n : ℕ) (rows : List PlanRow) → ((k : ℕ) (row : PlanRow) → slice_get rows k ≡ Some row → 1 ≤ row.height) → IsPermutation (places_to n rows) (places_below n 0 rows)
to_below zero rows some = subst (λ l. IsPermutation [] l) (sym (none_below 0 rows some)) (IsPermutation-refl [])
to_below (suc n) rows some =
    IsPermutation-trans (places_to n rows ++ places_from (suc n) 0 rows) (places_below n 0 rows ++ places_from (suc n) 0 rows) (places_below (suc n) 0 rows)
    (IsPermutation-append_left (places_from (suc n) 0 rows) (places_to n rows) (places_below n 0 rows) (to_below n rows some)) (next_height n 0 rows)

-- by their heights, all places are there once
pub all_places : (n : ℕ) (rows : List PlanRow) → ((k : ℕ) (row : PlanRow) → slice_get rows k ≡ Some row → 1 ≤ row.height) → IsHighest rows n
    → IsPermutation (places_to n rows) (range_with_len 0 (length rows))
all_places n rows some highest = subst (λ l. IsPermutation (places_to n rows) l) (all_below n 0 rows highest) (to_below n rows some)
