-- A row that is lent for changes.
use Rattle.std.proofs.Common.{◌≡◌, ℕ, zero, suc, ◌+◌, ◌-◌, ◌≤◌, List, [], ◌∷◌, ◌++◌, length, take, drop, set, get_or, slice_range, refl, ap, ap₂, sym, subst, ◌∙◌, arith, rules, length-append, length-take, length-drop, length-take-le}
use Rattle.std.proofs.lemmas.List.{same_lists, places, drop_all, take_at, take-append-le, drop-drop}
use Rattle.std.proofs.lemmas.Bool.{cases_lt}
use Rattle.std.specs.List.{refill}
use Rattle.hc_rows.specs.Rows.{rows_of, AreOrdered, AreStarts, row_at}
use Rattle.hc_rows.specs.Lends.{overwritten, with_row}
use Rattle.hc_rows.proofs.Cuts.{length-range, ordered_within, row_in_rows}

-- ---- written over

same_row : {X : Type 0} (x y : X) (xs ys : List X) → x ≡ y → xs ≡ ys → x ∷ xs ≡ y ∷ ys
same_row x y xs ys e f = cc

abbrev pub over : {X : Type 0} → List X → List X → List X
over ws xs = refill (length xs) xs ws

take_over : {X : Type 0} (n : ℕ) (xs ws : List X) → n ≤ length xs → take n (over ws xs) ≡ over ws (take n xs)
take_over n xs ws le =
    let cut = length-take-le n xs le in
    same_lists _ _ (search (rules, places)) (λ k d h. grind (arith, places, cases_lt k (length ws)))

drop_over : {X : Type 0} (n : ℕ) (xs ws : List X) → n ≤ length xs → drop n (over ws xs) ≡ over (drop n ws) (drop n xs)
drop_over n xs ws le =
    let cut = length-drop n xs in
    same_lists _ _ (search (rules, places)) (λ k d h. grind (arith, places, cases_lt (n + k) (length ws)))

length_over : {X : Type 0} (xs ws : List X) → length (over ws xs) ≡ length xs
length_over xs ws =
    let a = length-take (length xs) (ws ++ drop (length ws) xs) in
    let b = length-append ws (drop (length ws) xs) in
    let c = length-drop (length ws) xs in
    omega arith

over_own : {X : Type 0} (xs ws : List X) → length ws ≡ length xs → over ws xs ≡ ws
over_own xs ws e = take_at ws (drop (length ws) xs) (length xs) e

over_none : {X : Type 0} (xs : List X) → over [] xs ≡ xs
over_none xs = same_lists _ _ (search (rules, places)) (λ k d h. grind (arith, places))

overwritten_none : {X : Type 0} (rows : List (List X)) → overwritten rows [] ≡ rows
overwritten_none [] = refl
overwritten_none (row ∷ rows) = same_row _ _ _ _ (over_none row) (ap (overwritten rows) (drop_all (length row) [] (omega arith)) ∙ overwritten_none rows)

-- as many items as a row has replace it
pub with_own : {X : Type 0} (rows : List (List X)) (r : ℕ) (ws : List X) → length ws ≡ length (row_at rows r) → with_row rows r ws ≡ set rows r ws
with_own [] r ws e = refl
with_own (row ∷ rows) zero ws e = same_row _ _ _ _ (over_own row ws e) (ap (overwritten rows) (drop_all (length row) ws (omega (arith, e))) ∙ overwritten_none rows)
with_own (row ∷ rows) (suc r) ws e = ap (λ (rest : List (List _)). row ∷ rest) (with_own rows r ws e)

-- ---- rows of one list that is written over

range_over : {X : Type 0} (xs ys ws : List X) (a b : ℕ) → a ≤ b → b ≤ length xs → drop a ys ≡ over ws (drop a xs) → slice_range ys a b ≡ over ws (slice_range xs a b)
range_over xs ys ws a b h k e =
    let inside : b - a ≤ length (drop a xs) = omega (arith, length-drop a xs) in
    ap (take (b - a)) e ∙ take_over (b - a) (drop a xs) ws inside

rest_over : {X : Type 0} (xs ys ws : List X) (a b : ℕ) → a ≤ b → b ≤ length xs → drop a ys ≡ over ws (drop a xs) → drop b ys ≡ over (drop (length (slice_range xs a b)) ws) (drop b xs)
rest_over xs ys ws a b h k e =
    let many : length (slice_range xs a b) ≡ b - a = omega (arith, length-range xs a b) in
    let inside : b - a ≤ length (drop a xs) = omega (arith, length-drop a xs) in
    let there : a + (b - a) ≡ b = omega arith in
    let front : drop b ys ≡ drop (b - a) (drop a ys) = sym (drop-drop (b - a) a ys ∙ ap (λ (n : ℕ). drop n ys) there) in
    let back : drop (b - a) (drop a xs) ≡ drop b xs = drop-drop (b - a) a xs ∙ ap (λ (n : ℕ). drop n xs) there in
    front ∙ ap (drop (b - a)) e ∙ drop_over (b - a) (drop a xs) ws inside ∙ ap (over (drop (b - a) ws)) back ∙ ap (λ (n : ℕ). over (drop n ws) (drop b xs)) (sym many)

first_le : (s : ℕ) (starts : List ℕ) (n : ℕ) → AreOrdered s starts n → s ≤ get_or starts 0 n
first_le s [] n o = o
first_le s (t ∷ starts) n o = o.0

overwritten_rows : {X : Type 0} (xs ys ws : List X) (starts : List ℕ) (low : ℕ) → AreOrdered low starts (length xs) → drop (get_or starts 0 (length xs)) ys ≡ over ws (drop (get_or starts 0 (length xs)) xs)
    → rows_of ys starts (length xs) ≡ overwritten (rows_of xs starts (length xs)) ws
overwritten_rows xs ys ws [] low o e = refl
overwritten_rows xs ys ws (s ∷ starts) low o e =
    let next : s ≤ get_or starts 0 (length xs) = first_le s starts (length xs) o.1 in
    let within : get_or starts 0 (length xs) ≤ length xs = ordered_within s starts (length xs) 0 o.1 in
    same_row _ _ _ _ (range_over xs ys ws s (get_or starts 0 (length xs)) next within e)
    (overwritten_rows xs ys (drop (length (slice_range xs s (get_or starts 0 (length xs)))) ws) starts s o.1 (rest_over xs ys ws s (get_or starts 0 (length xs)) next within e))

behind : (low : ℕ) (starts : List ℕ) (n r : ℕ) → AreOrdered low starts n → get_or starts 0 n ≤ get_or starts r n
behind low [] n r o = omega arith
behind low (s ∷ starts) n zero o = omega arith
behind low (s ∷ starts) n (suc r) o =
    let a = first_le s starts n o.1 in
    let b = behind s starts n r o.1 in
    omega (arith, a, b)

cut_range : {X : Type 0} (zs : List X) (a b m : ℕ) → b ≤ m → slice_range (take m zs) a b ≡ slice_range zs a b
cut_range zs a b m h = same_lists _ _ (search (rules, places)) (λ k d i. grind (arith, places))

same_range : {X : Type 0} (xs ys : List X) (a b m : ℕ) → b ≤ m → take m ys ≡ take m xs → slice_range ys a b ≡ slice_range xs a b
same_range xs ys a b m h e = sym (cut_range ys a b m h) ∙ ap (λ zs. slice_range zs a b) e ∙ cut_range xs a b m h

with_row_rows : {X : Type 0} (xs ys ws : List X) (starts : List ℕ) (low r : ℕ) → AreOrdered low starts (length xs) → take (get_or starts r (length xs)) ys ≡ take (get_or starts r (length xs)) xs
    → drop (get_or starts r (length xs)) ys ≡ over ws (drop (get_or starts r (length xs)) xs) → rows_of ys starts (length xs) ≡ with_row (rows_of xs starts (length xs)) r ws
with_row_rows xs ys ws [] low r o e f = refl
with_row_rows xs ys ws (s ∷ starts) low zero o e f = overwritten_rows xs ys ws (s ∷ starts) low o f
with_row_rows xs ys ws (s ∷ starts) low (suc r) o e f =
    same_row _ _ _ _ (same_range xs ys s (get_or starts 0 (length xs)) (get_or starts r (length xs)) (behind s starts (length xs) r o.1) e) (with_row_rows xs ys ws starts s r o.1 e f)

-- ---- the items of a vector after a part of them was written over from a place on

abbrev pub written_at : {X : Type 0} → ℕ → List X → List X → List X
written_at s ws xs = take s xs ++ (ws ++ drop (length ws) (drop s xs))

take_written : {X : Type 0} (s : ℕ) (xs ws : List X) → s ≤ length xs → take s (over (written_at s ws xs) xs) ≡ take s xs
take_written s xs ws le =
    let front = length-take-le s xs le in
    take_over s xs (written_at s ws xs) le
    ∙ ap (λ (n : ℕ). take n (written_at s ws xs ++ drop (length (written_at s ws xs)) (take s xs))) front
    ∙ take-append-le s (written_at s ws xs) (drop (length (written_at s ws xs)) (take s xs)) (omega (arith, front, length-append (take s xs) (ws ++ drop (length ws) (drop s xs))))
    ∙ take_at (take s xs) (ws ++ drop (length ws) (drop s xs)) s front

drop_at : {X : Type 0} (us vs : List X) (n : ℕ) → length us ≡ n → drop n (us ++ vs) ≡ vs
drop_at [] vs zero e = refl
drop_at [] vs (suc n) e = absurd (omega (arith, e))
drop_at (u ∷ us) vs zero e = absurd (omega (arith, e))
drop_at (u ∷ us) vs (suc n) e = drop_at us vs n (omega (arith, e))

over_twice : {X : Type 0} (ws zs : List X) → over (ws ++ drop (length ws) zs) zs ≡ over ws zs
over_twice ws zs =
    let both = length-append ws (drop (length ws) zs) in
    let rest = length-drop (length ws) zs in
    take-append-le (length zs) (ws ++ drop (length ws) zs) (drop (length (ws ++ drop (length ws) zs)) zs) (omega (arith, both, rest))

drop_written : {X : Type 0} (s : ℕ) (xs ws : List X) → s ≤ length xs → drop s (over (written_at s ws xs) xs) ≡ over ws (drop s xs)
drop_written s xs ws le =
    let front = length-take-le s xs le in
    let mid : drop s (written_at s ws xs) ≡ ws ++ drop (length ws) (drop s xs) = drop_at (take s xs) (ws ++ drop (length ws) (drop s xs)) s front in
    drop_over s xs (written_at s ws xs) le ∙ ap (λ zs. over zs (drop s xs)) mid ∙ over_twice ws (drop s xs)

-- ---- what the code asks for

pub lent_starts : {X : Type 0} (xs ws : List X) (starts : List ℕ) (n s : ℕ) → n ≡ length xs → AreStarts starts (length xs) → AreStarts starts (length (refill n xs (written_at s ws xs)))
lent_starts xs ws starts n s e a = subst (λ (m : ℕ). AreStarts starts m) (sym (ap (λ (k : ℕ). length (refill k xs (written_at s ws xs))) e ∙ length_over xs (written_at s ws xs))) a

pub lent_rows : {X : Type 0} (xs ws : List X) (starts : List ℕ) (n s r : ℕ) (rows : List (List X)) → n ≡ length xs → AreStarts starts (length xs) → rows_of xs starts (length xs) ≡ rows → s ≡ get_or starts r (length xs)
    → rows_of (refill n xs (written_at s ws xs)) starts (length (refill n xs (written_at s ws xs))) ≡ with_row rows r ws
lent_rows xs ws starts n s r rows e a f g =
    let within : get_or starts r (length xs) ≤ length xs = ordered_within 0 starts (length xs) r a.ordered in
    ap (λ (k : ℕ). rows_of (refill k xs (written_at s ws xs)) starts (length (refill k xs (written_at s ws xs)))) e
    ∙ ap (λ (k : ℕ). rows_of (over (written_at s ws xs) xs) starts k) (length_over xs (written_at s ws xs))
    ∙ ap (λ (k : ℕ). rows_of (over (written_at k ws xs) xs) starts (length xs)) g
    ∙ with_row_rows xs (over (written_at (get_or starts r (length xs)) ws xs) xs) ws starts 0 r a.ordered (take_written (get_or starts r (length xs)) xs ws within) (drop_written (get_or starts r (length xs)) xs ws within)
    ∙ ap (λ it. with_row it r ws) f

pub lent_row : {X : Type 0} (xs row : List X) (starts : List ℕ) (r s e : ℕ) (rows : List (List X)) → rows_of xs starts (length xs) ≡ rows → s ≡ get_or starts r (length xs) → e ≡ get_or starts (r + 1) (length xs)
    → row ≡ slice_range xs s e → row ≡ row_at rows r
lent_row xs row starts r s e rows f g h is = row_in_rows xs xs starts starts rows r row f refl refl (is ∙ ap₂ (λ (a b : ℕ). slice_range xs a b) g h)
