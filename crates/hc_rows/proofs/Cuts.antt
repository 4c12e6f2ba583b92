-- How the rows of a list change with it.
use Rattle.std.proofs.Common.{◌≡◌, ℕ, zero, suc, ◌+◌, ◌-◌, ◌<◌, ◌≤◌, List, [], ◌∷◌, ◌++◌, length, take, drop, set, get_or, map, replicate, slice_range, min, refl, ap, sym, ◌∙◌, arith, length-append, length-take, length-drop, length-set, subst, add-one}
use Rattle.std.proofs.lemmas.List.{drop-append-le, take-append-le, drop-set-lt, drop-set-add, take-set-le, take-map, drop_all, drop-drop, take-append-drop, length-map, append-nil, append_assoc, map-append, take_at, set_at, drop_more, take_more, replicate_more}
use Rattle.std.proofs.lemmas.Slice.{between_to_end}
use Rattle.hc_rows.specs.Rows.{rows_of, AreOrdered, AreStarts, row_at, with_item, flat}

-- ---- ranges of a list

empty_range : {X : Type 0} (xs : List X) (n : ℕ) → slice_range xs n n ≡ []
empty_range xs n = let e : n - n ≡ 0 = omega arith in ap (λ (k : ℕ). take k (drop n xs)) e

same_row : {X : Type 0} (x y : X) (xs ys : List X) → x ≡ y → xs ≡ ys → x ∷ xs ≡ y ∷ ys
same_row x y xs ys e f = cc

range_before : {X : Type 0} (xs ys : List X) (a b : ℕ) → a ≤ b → b ≤ length xs → slice_range (xs ++ ys) a b ≡ slice_range xs a b
range_before xs ys a b h k =
    let first : a ≤ length xs = omega arith in
    let rest : b - a ≤ length (drop a xs) = omega (arith, length-drop a xs) in
    rw drop-append-le (take-append-le (b - a) (drop a xs) ys rest)

range_to_end : {X : Type 0} (xs ys : List X) (a n : ℕ) → a ≤ length xs → n ≡ length (xs ++ ys) → slice_range (xs ++ ys) a n ≡ slice_range xs a (length xs) ++ ys
range_to_end xs ys a n h e =
    let all : length (xs ++ ys) ≤ n = omega arith in
    let own : length xs ≤ length xs = omega arith in
    let l : slice_range (xs ++ ys) a n ≡ drop a (xs ++ ys) = between_to_end (xs ++ ys) a n all in
    let r : slice_range xs a (length xs) ≡ drop a xs = between_to_end xs a (length xs) own in
    let m : drop a (xs ++ ys) ≡ drop a xs ++ ys = drop-append-le a xs ys h in
    l ∙ m ∙ ap (λ zs. zs ++ ys) (sym r)

drop-map : {X Y : Type 0} (f : X → Y) (n : ℕ) (xs : List X) → drop n (map f xs) ≡ map f (drop n xs)
drop-map f zero xs = refl
drop-map f (suc n) [] = refl
drop-map f (suc n) (x ∷ xs) = drop-map f n xs

range-map : {X Y : Type 0} (f : X → Y) (xs : List X) (a b : ℕ) → slice_range (map f xs) a b ≡ map f (slice_range xs a b)
range-map f xs a b = ap (λ ys. take (b - a) ys) (drop-map f a xs) ∙ take-map f (b - a) (drop a xs)

take_set : {X : Type 0} (n : ℕ) (xs : List X) (k : ℕ) (x : X) → take n (set xs k x) ≡ set (take n xs) k x
take_set zero xs k x = refl
take_set (suc n) [] k x = refl
take_set (suc n) (y ∷ xs) zero x = refl
take_set (suc n) (y ∷ xs) (suc k) x = ap (λ zs. y ∷ zs) (take_set n xs k x)

range_set : {X : Type 0} (xs : List X) (a b k : ℕ) (x : X) → slice_range (set xs (a + k) x) a b ≡ set (slice_range xs a b) k x
range_set xs a b k x = ap (λ zs. take (b - a) zs) (drop-set-add a xs k x) ∙ take_set (b - a) (drop a xs) k x

range_set_before : {X : Type 0} (xs : List X) (a b i : ℕ) (x : X) → i < a → slice_range (set xs i x) a b ≡ slice_range xs a b
range_set_before xs a b i x h = ap (λ zs. take (b - a) zs) (drop-set-lt a xs i x h)

range_set_behind : {X : Type 0} (xs : List X) (a b i : ℕ) (x : X) → a ≤ b → b ≤ i → slice_range (set xs i x) a b ≡ slice_range xs a b
range_set_behind xs a b i x h k =
    let e : a + (i - a) ≡ i = omega arith in
    let far : b - a ≤ i - a = omega arith in
    let step : take (b - a) (drop a (set xs (a + (i - a)) x)) ≡ take (b - a) (set (drop a xs) (i - a) x) = ap (λ zs. take (b - a) zs) (drop-set-add a xs (i - a) x) in
    let back : take (b - a) (drop a (set xs i x)) ≡ take (b - a) (drop a (set xs (a + (i - a)) x)) = ap (λ (j : ℕ). take (b - a) (drop a (set xs j x))) (sym e) in
    back ∙ step ∙ take-set-le (b - a) (drop a xs) (i - a) x far

pub length-range : {X : Type 0} (xs : List X) (a b : ℕ) → length (slice_range xs a b) ≡ min (b - a) (length xs - a)
length-range xs a b = length-take (b - a) (drop a xs) ∙ ap (λ (n : ℕ). min (b - a) n) (length-drop a xs)

-- ---- starts in order

pub ordered_first : (low : ℕ) (starts : List ℕ) (n : ℕ) → AreOrdered low starts n → low ≤ get_or starts 0 n
ordered_first low [] n o = o
ordered_first low (s ∷ starts) n o = o.0

pub ordered_next : (low : ℕ) (starts : List ℕ) (n r : ℕ) → AreOrdered low starts n → get_or starts r n ≤ get_or starts (suc r) n
ordered_next low [] n r o = omega arith
ordered_next low (s ∷ starts) n zero o = ordered_first s starts n o.1
ordered_next low (s ∷ starts) n (suc r) o = ordered_next s starts n r o.1

pub ordered_within : (low : ℕ) (starts : List ℕ) (n r : ℕ) → AreOrdered low starts n → get_or starts r n ≤ n
ordered_within low [] n r o = omega arith
ordered_within low (s ∷ starts) n zero o = let a : s ≤ get_or starts 0 n = ordered_first s starts n o.1 in omega (arith, ordered_within s starts n 0 o.1)
ordered_within low (s ∷ starts) n (suc r) o = ordered_within s starts n r o.1

ordered_behind : (low : ℕ) (starts : List ℕ) (n r : ℕ) → AreOrdered low starts n → get_or starts 0 n ≤ get_or starts r n
ordered_behind low [] n r o = omega arith
ordered_behind low (s ∷ starts) n zero o = omega arith
ordered_behind low (s ∷ starts) n (suc r) o = let a : s ≤ get_or starts 0 n = ordered_first s starts n o.1 in omega (arith, ordered_behind s starts n r o.1)

pub ordered_more : (low : ℕ) (starts : List ℕ) (n m : ℕ) → AreOrdered low starts n → n ≤ m → AreOrdered low starts m
ordered_more low [] n m o h = omega arith
ordered_more low (s ∷ starts) n m o h = (o.0, ordered_more s starts n m o.1 h)

pub ordered_push : (low : ℕ) (starts : List ℕ) (n m : ℕ) → AreOrdered low starts n → n ≤ m → AreOrdered low (starts ++ n ∷ []) m
ordered_push low [] n m o h = (o, h)
ordered_push low (s ∷ starts) n m o h = (o.0, ordered_push s starts n m o.1 h)

next_end : (starts : List ℕ) (n m : ℕ) → get_or (starts ++ n ∷ []) 0 m ≡ get_or starts 0 n
next_end [] n m = refl
next_end (s ∷ starts) n m = refl

-- ---- rows

pub length-rows_of : {X : Type 0} (xs : List X) (starts : List ℕ) (n : ℕ) → length (rows_of xs starts n) ≡ length starts
length-rows_of xs [] n = refl
length-rows_of xs (s ∷ starts) n = ap suc (length-rows_of xs starts n)

pub row-rows_of : {X : Type 0} (xs : List X) (starts : List ℕ) (n r : ℕ) → row_at (rows_of xs starts n) r ≡ slice_range xs (get_or starts r n) (get_or starts (suc r) n)
row-rows_of xs [] n r = sym (empty_range xs n)
row-rows_of xs (s ∷ starts) n zero = refl
row-rows_of xs (s ∷ starts) n (suc r) = row-rows_of xs starts n r

-- a row more, of the items behind the others
pub rows_of-push_row : {X : Type 0} (xs ys : List X) (starts : List ℕ) (low n m : ℕ) → AreOrdered low starts n → n ≡ length xs → m ≡ length (xs ++ ys)
    → rows_of (xs ++ ys) (starts ++ n ∷ []) m ≡ rows_of xs starts n ++ ys ∷ []
rows_of-push_row xs ys [] low n m o e f =
    let own : n ≤ length xs = omega arith in
    let a : slice_range (xs ++ ys) n m ≡ slice_range xs n (length xs) ++ ys = range_to_end xs ys n m own f in
    let b : slice_range xs n (length xs) ≡ [] = ap (λ (k : ℕ). slice_range xs n k) (sym e) ∙ empty_range xs n in
    same_row _ _ [] [] (a ∙ ap (λ zs. zs ++ ys) b) refl
rows_of-push_row xs ys (s ∷ starts) low n m o e f =
    let first : s ≤ get_or starts 0 n = ordered_first s starts n o.1 in
    let within : get_or starts 0 n ≤ length xs = omega (arith, ordered_within s starts n 0 o.1) in
    let a : slice_range (xs ++ ys) s (get_or (starts ++ n ∷ []) 0 m) ≡ slice_range (xs ++ ys) s (get_or starts 0 n) = ap (λ (k : ℕ). slice_range (xs ++ ys) s k) (next_end starts n m) in
    same_row _ _ _ _ (a ∙ range_before xs ys s (get_or starts 0 n) first within) (rows_of-push_row xs ys starts s n m o.1 e f)

-- an item more
pub rows_of-push : {X : Type 0} (xs : List X) (x : X) (starts : List ℕ) (low n m : ℕ) → AreOrdered low starts n → n ≡ length xs → m ≡ length (xs ++ x ∷ [])
    → rows_of (xs ++ x ∷ []) starts m ≡ with_item (rows_of xs starts n) x
rows_of-push xs x [] low n m o e f = refl
rows_of-push xs x (s ∷ []) low n m o e f =
    let own : s ≤ length xs = omega (arith, o.1) in
    let a : slice_range (xs ++ x ∷ []) s m ≡ slice_range xs s (length xs) ++ x ∷ [] = range_to_end xs (x ∷ []) s m own f in
    let b : slice_range xs s (length xs) ≡ slice_range xs s n = ap (λ (k : ℕ). slice_range xs s k) (sym e) in
    same_row _ _ [] [] (a ∙ ap (λ zs. zs ++ x ∷ []) b) refl
rows_of-push xs x (s ∷ (t ∷ starts)) low n m o e f =
    let first : s ≤ t = o.1.0 in
    let within : t ≤ length xs = omega (arith, ordered_within s (t ∷ starts) n 0 o.1) in
    same_row _ _ _ _ (range_before xs (x ∷ []) s t first within) (rows_of-push xs x (t ∷ starts) s n m o.1 e f)

rows_behind : {X : Type 0} (xs : List X) (starts : List ℕ) (low n i : ℕ) (x : X) → AreOrdered low starts n → i < low → rows_of (set xs i x) starts n ≡ rows_of xs starts n
rows_behind xs [] low n i x o h = refl
rows_behind xs (s ∷ starts) low n i x o h =
    let far : i < s = omega (arith, o.0) in
    same_row _ _ _ _ (range_set_before xs s (get_or starts 0 n) i x far) (rows_behind xs starts s n i x o.1 far)

ordered_from : (low : ℕ) (starts : List ℕ) (n : ℕ) → AreOrdered low starts n → AreOrdered (get_or starts 0 n) starts n
ordered_from low [] n o = omega arith
ordered_from low (s ∷ starts) n o = (omega arith, o.1)

-- an item in the place of another
pub rows_of-set : {X : Type 0} (xs : List X) (starts : List ℕ) (low n r k : ℕ) (x : X) → AreOrdered low starts n → k < length (row_at (rows_of xs starts n) r)
    → rows_of (set xs (get_or starts r n + k) x) starts n ≡ set (rows_of xs starts n) r (set (row_at (rows_of xs starts n) r) k x)
rows_of-set xs [] low n r k x o h = absurd (omega (arith, h))
rows_of-set xs (s ∷ starts) low n zero k x o h =
    let end : s + k < get_or starts 0 n = omega (arith, h, length-range xs s (get_or starts 0 n)) in
    same_row _ _ _ _ (range_set xs s (get_or starts 0 n) k x) (rows_behind xs starts (get_or starts 0 n) n (s + k) x (ordered_from s starts n o.1) end)
rows_of-set xs (s ∷ starts) low n (suc r) k x o h =
    let first : s ≤ get_or starts 0 n = ordered_first s starts n o.1 in
    let far : get_or starts 0 n ≤ get_or starts r n + k = omega (arith, ordered_behind s starts n r o.1) in
    same_row _ _ _ _ (range_set_behind xs s (get_or starts 0 n) (get_or starts r n + k) x first far) (rows_of-set xs starts s n r k x o.1 h)

-- all items changed alike
pub rows_of-map : {X : Type 0} (f : X → X) (xs : List X) (starts : List ℕ) (n : ℕ) → rows_of (map f xs) starts n ≡ map (map f) (rows_of xs starts n)
rows_of-map f xs [] n = refl
rows_of-map f xs (s ∷ starts) n = same_row _ _ _ _ (range-map f xs s (get_or starts 0 n)) (rows_of-map f xs starts n)

-- ---- all items

pub flat-rows_of : {X : Type 0} (xs : List X) (starts : List ℕ) (low n : ℕ) → AreOrdered low starts n → length xs ≤ n → flat (rows_of xs starts n) ≡ drop (get_or starts 0 n) xs
flat-rows_of xs [] low n o h = sym (drop_all n xs h)
flat-rows_of xs (s ∷ starts) low n o h =
    let first : s ≤ get_or starts 0 n = ordered_first s starts n o.1 in
    let e : s + (get_or starts 0 n - s) ≡ get_or starts 0 n = omega arith in
    let rest : flat (rows_of xs starts n) ≡ drop (get_or starts 0 n) xs = flat-rows_of xs starts s n o.1 h in
    let on : drop (get_or starts 0 n) xs ≡ drop (get_or starts 0 n - s) (drop s xs) = ap (λ (k : ℕ). drop k xs) (sym e) ∙ sym (drop-drop (get_or starts 0 n - s) s xs) in
    ap (λ zs. slice_range xs s (get_or starts 0 n) ++ zs) (rest ∙ on) ∙ take-append-drop (get_or starts 0 n - s) (drop s xs)

pub length-flat-take : {X : Type 0} (xs : List X) (starts : List ℕ) (low n r : ℕ) → AreOrdered low starts n → n ≤ length xs
    → length (flat (take r (rows_of xs starts n))) + get_or starts 0 n ≡ get_or starts r n
length-flat-take xs [] low n zero o h = omega arith
length-flat-take xs [] low n (suc r) o h = omega arith
length-flat-take xs (s ∷ starts) low n zero o h = omega arith
length-flat-take xs (s ∷ starts) low n (suc r) o h =
    let first : s ≤ get_or starts 0 n = ordered_first s starts n o.1 in
    let within : get_or starts 0 n ≤ n = ordered_within s starts n 0 o.1 in
    let rest : length (flat (take r (rows_of xs starts n))) + get_or starts 0 n ≡ get_or starts r n = length-flat-take xs starts s n r o.1 h in
    omega (arith, rest, length-range xs s (get_or starts 0 n), length-append (slice_range xs s (get_or starts 0 n)) (flat (take r (rows_of xs starts n))))

-- the lengths of rows hang on the starts alone
pub lengths-rows_of : {X : Type 0} (xs ys : List X) (starts : List ℕ) (n : ℕ) → length xs ≡ length ys → map length (rows_of xs starts n) ≡ map length (rows_of ys starts n)
lengths-rows_of xs ys [] n e = refl
lengths-rows_of xs ys (s ∷ starts) n e =
    let end : ℕ = get_or starts 0 n in
    same_row _ _ _ _ (length-range xs s (get_or starts 0 n) ∙ ap (λ (m : ℕ). min (get_or starts 0 n - s) (m - s)) e ∙ sym (length-range ys s (get_or starts 0 n))) (lengths-rows_of xs ys starts n e)

-- ---- the lists that a value stands for

pub length_of_rows : {X : Type 0} (xs : List X) (starts : List ℕ) (n : ℕ) (rows : List (List X)) → rows_of xs starts n ≡ rows → length starts ≡ length rows
length_of_rows xs starts n rows e = sym (length-rows_of xs starts n) ∙ ap length e

pub row_of_rows : {X : Type 0} (xs : List X) (starts : List ℕ) (n : ℕ) (rows : List (List X)) (r : ℕ) → rows_of xs starts n ≡ rows → slice_range xs (get_or starts r n) (get_or starts (suc r) n) ≡ row_at rows r
row_of_rows xs starts n rows r e = sym (row-rows_of xs starts n r) ∙ ap (λ it. row_at it r) e

pub flat_of_rows : {X : Type 0} (xs : List X) (starts : List ℕ) (n : ℕ) (rows : List (List X)) → AreStarts starts n → n ≡ length xs → rows_of xs starts n ≡ rows → xs ≡ flat rows
flat_of_rows xs starts n rows s e f =
    let within : length xs ≤ n = omega arith in
    let all : flat (rows_of xs starts n) ≡ drop (get_or starts 0 n) xs = flat-rows_of xs starts 0 n s.ordered within in
    sym (sym (ap flat f) ∙ all ∙ ap (λ (k : ℕ). drop k xs) s.first)

-- an item of a row stands among all
pub is_within : {X : Type 0} (xs : List X) (starts : List ℕ) (n : ℕ) (rows : List (List X)) (r k : ℕ) → n ≡ length xs → rows_of xs starts n ≡ rows → k < length (row_at rows r) → get_or starts r n + k < n
is_within xs starts n rows r k e f h = omega (arith, h, length-range xs (get_or starts r n) (get_or starts (suc r) n), ap length (row_of_rows xs starts n rows r f))

pub number_in_rows : {X : Type 0} (xs : List X) (starts : List ℕ) (n : ℕ) (rows : List (List X)) (r : ℕ) → AreStarts starts n → n ≡ length xs → rows_of xs starts n ≡ rows → get_or starts r n ≡ length (flat (take r rows))
number_in_rows xs starts n rows r s e f =
    let within : n ≤ length xs = omega arith in
    let all : length (flat (take r (rows_of xs starts n))) + get_or starts 0 n ≡ get_or starts r n = length-flat-take xs starts 0 n r s.ordered within in
    let same : length (flat (take r (rows_of xs starts n))) ≡ length (flat (take r rows)) = ap (λ it. length (flat (take r it))) f in
    omega (arith, all, same, s.first)

pub put_in_rows : {X : Type 0} (xs : List X) (starts : List ℕ) (n m : ℕ) (rows : List (List X)) (r k : ℕ) (x : X) → AreStarts starts n → m ≡ n → rows_of xs starts n ≡ rows → k < length (row_at rows r)
    → rows_of (set xs (get_or starts r n + k) x) starts m ≡ set rows r (set (row_at rows r) k x)
put_in_rows xs starts n m rows r k x s e f h =
    let own : k < length (row_at (rows_of xs starts n) r) = subst (λ it. k < length (row_at it r)) (sym f) h in
    ap (λ (j : ℕ). rows_of (set xs (get_or starts r n + k) x) starts j) e ∙ rows_of-set xs starts 0 n r k x s.ordered own ∙ ap (λ it. set it r (set (row_at it r) k x)) f

pub push_in_rows : {X : Type 0} (xs : List X) (starts : List ℕ) (n : ℕ) (rows : List (List X)) (x : X) → AreStarts starts n → n ≡ length xs → rows_of xs starts n ≡ rows
    → rows_of (xs ++ x ∷ []) starts (length (xs ++ x ∷ [])) ≡ with_item rows x
push_in_rows xs starts n rows x s e f = rows_of-push xs x starts 0 n (length (xs ++ x ∷ [])) s.ordered e refl ∙ ap (λ it. with_item it x) f

pub push_row_in_rows : {X : Type 0} (xs ys : List X) (starts : List ℕ) (n : ℕ) (rows : List (List X)) → AreStarts starts n → n ≡ length xs → rows_of xs starts n ≡ rows
    → rows_of (xs ++ ys) (starts ++ n ∷ []) (length (xs ++ ys)) ≡ rows ++ ys ∷ []
push_row_in_rows xs ys starts n rows s e f = rows_of-push_row xs ys starts 0 n (length (xs ++ ys)) s.ordered e refl ∙ ap (λ it. it ++ ys ∷ []) f

first_push : (starts : List ℕ) (n m : ℕ) → get_or starts 0 n ≡ 0 → get_or (starts ++ n ∷ []) 0 m ≡ 0
first_push starts n m e = next_end starts n m ∙ e

-- a row may begin where the items end
pub starts_push : (starts : List ℕ) (n m : ℕ) → AreStarts starts n → n ≤ m → AreStarts (starts ++ n ∷ []) m
starts_push starts n m s h = record { first = first_push starts n m s.first; ordered = ordered_push 0 starts n m s.ordered h }

first_more : (starts : List ℕ) (n m : ℕ) → 0 < length starts → get_or starts 0 n ≡ 0 → get_or starts 0 m ≡ 0
first_more [] n m h e = absurd (omega (arith, h))
first_more (s ∷ starts) n m h e = e

pub starts_more : (starts : List ℕ) (n m : ℕ) → AreStarts starts n → 0 < length starts → n ≤ m → AreStarts starts m
starts_more starts n m s h k = record { first = first_more starts n m h s.first; ordered = ordered_more 0 starts n m s.ordered k }

-- ---- what the code asks for

pub row_is_in_order : (starts : List ℕ) (n r a b : ℕ) → AreStarts starts n → a ≡ get_or starts r n → b ≡ get_or starts (r + 1) n → a ≤ b
row_is_in_order starts n r a b s f g =
    let next : get_or starts r n ≤ get_or starts (suc r) n = ordered_next 0 starts n r s.ordered in
    let at : get_or starts (r + 1) n ≡ get_or starts (suc r) n = ap (λ (k : ℕ). get_or starts k n) (add-one r) in
    omega arith

pub row_is_within : (starts : List ℕ) (n r b : ℕ) → AreStarts starts n → b ≡ get_or starts r n → b ≤ n
row_is_within starts n r b s g =
    let within : get_or starts r n ≤ n = ordered_within 0 starts n r s.ordered in
    omega arith

pub row_in_rows : {X : Type 0} (xs ys : List X) (starts ss : List ℕ) (rows : List (List X)) (r : ℕ) (row : List X) → rows_of xs starts (length xs) ≡ rows → ys ≡ xs → ss ≡ starts
    → row ≡ slice_range ys (get_or ss r (length ys)) (get_or ss (r + 1) (length ys)) → row ≡ row_at rows r
row_in_rows xs ys starts ss rows r row e f h g =
    let own : row ≡ slice_range xs (get_or starts r (length xs)) (get_or starts (r + 1) (length xs)) = cc in
    own ∙ ap (λ (k : ℕ). slice_range xs (get_or starts r (length xs)) (get_or starts k (length xs))) (add-one r) ∙ row_of_rows xs starts (length xs) rows r e

pub start_is : {X : Type 0} (xs ys : List X) (starts ss : List ℕ) (r s : ℕ) → ys ≡ xs → ss ≡ starts → s ≡ get_or ss r (length ys) → s ≡ get_or starts r (length xs)
start_is xs ys starts ss r s e f g = cc

pub item_is_within : {X : Type 0} (xs : List X) (starts : List ℕ) (rows : List (List X)) (r k s : ℕ) → rows_of xs starts (length xs) ≡ rows → k < length (row_at rows r) → s ≡ get_or starts r (length xs) → s + k < length xs
item_is_within xs starts rows r k s e h f = omega (arith, f, is_within xs starts (length xs) rows r k refl e h)

pub number_is : {X : Type 0} (xs : List X) (starts : List ℕ) (rows : List (List X)) (r k s : ℕ) → AreStarts starts (length xs) → rows_of xs starts (length xs) ≡ rows → s ≡ get_or starts r (length xs) → s + k ≡ length (flat (take r rows)) + k
number_is xs starts rows r k s a e f = ap (λ (n : ℕ). n + k) (f ∙ number_in_rows xs starts (length xs) rows r a refl e)

pub put_is : {X : Type 0} (xs : List X) (starts : List ℕ) (rows : List (List X)) (r k s : ℕ) (x : X) → AreStarts starts (length xs) → rows_of xs starts (length xs) ≡ rows → k < length (row_at rows r) → s ≡ get_or starts r (length xs)
    → rows_of (set xs (s + k) x) starts (length (set xs (s + k) x)) ≡ set rows r (set (row_at rows r) k x)
put_is xs starts rows r k s x a e h f =
    ap (λ (j : ℕ). rows_of (set xs (j + k) x) starts (length (set xs (j + k) x))) f ∙ put_in_rows xs starts (length xs) (length (set xs (get_or starts r (length xs) + k) x)) rows r k x a (length-set xs (get_or starts r (length xs) + k) x) e h

pub set_starts : {X : Type 0} (xs : List X) (starts : List ℕ) (i : ℕ) (x : X) → AreStarts starts (length xs) → AreStarts starts (length (set xs i x))
set_starts xs starts i x a = subst (λ (n : ℕ). AreStarts starts n) (sym (length-set xs i x)) a

pub set_flat : {X : Type 0} (xs : List X) (starts : List ℕ) (rows : List (List X)) (i : ℕ) (x : X) → AreStarts starts (length xs) → rows_of xs starts (length xs) ≡ rows → flat (rows_of (set xs i x) starts (length (set xs i x))) ≡ set (flat rows) i x
set_flat xs starts rows i x a e =
    sym (flat_of_rows (set xs i x) starts (length (set xs i x)) (rows_of (set xs i x) starts (length (set xs i x))) (set_starts xs starts i x a) refl refl)
    ∙ ap (λ ys. set ys i x) (flat_of_rows xs starts (length xs) rows a refl e)

pub set_shape : {X : Type 0} (xs : List X) (starts : List ℕ) (rows : List (List X)) (i : ℕ) (x : X) → rows_of xs starts (length xs) ≡ rows → map length (rows_of (set xs i x) starts (length (set xs i x))) ≡ map length rows
set_shape xs starts rows i x e =
    ap (λ (n : ℕ). map length (rows_of (set xs i x) starts n)) (length-set xs i x) ∙ lengths-rows_of (set xs i x) xs starts (length xs) (length-set xs i x) ∙ ap (λ it. map length it) e

pub fill_is : {X : Type 0} (xs ys : List X) (starts : List ℕ) (rows : List (List X)) (x : X) → ys ≡ map (λ _. x) xs → rows_of xs starts (length xs) ≡ rows → rows_of ys starts (length ys) ≡ map (map (λ _. x)) rows
fill_is xs ys starts rows x f e =
    let same : length ys ≡ length xs = ap length f ∙ length-map xs (λ _. x) in
    let moved : rows_of ys starts (length ys) ≡ rows_of (map (λ _. x) xs) starts (length xs) = cc in
    moved ∙ rows_of-map (λ _. x) xs starts (length xs) ∙ ap (λ it. map (map (λ _. x)) it) e

pub push_starts : {X : Type 0} (xs ys : List X) (starts : List ℕ) (rows : List (List X)) (x : X) → ys ≡ xs ++ x ∷ [] → AreStarts starts (length xs) → rows_of xs starts (length xs) ≡ rows → 0 < length rows → AreStarts starts (length ys)
push_starts xs ys starts rows x f a e h =
    let more : length xs ≤ length ys = omega (arith, ap length f, length-append xs (x ∷ [])) in
    let some : 0 < length starts = omega (arith, h, length_of_rows xs starts (length xs) rows e) in
    starts_more starts (length xs) (length ys) a some more

pub push_is : {X : Type 0} (xs ys : List X) (starts : List ℕ) (rows : List (List X)) (x : X) → ys ≡ xs ++ x ∷ [] → AreStarts starts (length xs) → rows_of xs starts (length xs) ≡ rows → rows_of ys starts (length ys) ≡ with_item rows x
push_is xs ys starts rows x f a e = ap (λ it. rows_of it starts (length it)) f ∙ push_in_rows xs starts (length xs) rows x a refl e

pub push_row_starts : {X : Type 0} (xs ys zs ws : List X) (starts ss ts : List ℕ) (n : ℕ) → ys ≡ xs ++ ws → zs ≡ xs → n ≡ length zs → ss ≡ starts → ts ≡ ss ++ n ∷ [] → AreStarts starts (length xs) → AreStarts ts (length ys)
push_row_starts xs ys zs ws starts ss ts n f z m s t a =
    let more : length xs ≤ length ys = omega (arith, ap length f, length-append xs ws) in
    let all : ts ≡ starts ++ length xs ∷ [] = cc in
    subst (λ it. AreStarts it (length ys)) (sym all) (starts_push starts (length xs) (length ys) a more)

pub push_row_is : {X : Type 0} (xs ys zs ws : List X) (starts ss ts : List ℕ) (n : ℕ) (rows : List (List X)) → ys ≡ xs ++ ws → zs ≡ xs → n ≡ length zs → ss ≡ starts → ts ≡ ss ++ n ∷ [] → AreStarts starts (length xs) → rows_of xs starts (length xs) ≡ rows
    → rows_of ys ts (length ys) ≡ rows ++ ws ∷ []
push_row_is xs ys zs ws starts ss ts n rows f z m s t a e =
    let all : ts ≡ starts ++ length xs ∷ [] = cc in
    let moved : rows_of ys ts (length ys) ≡ rows_of (xs ++ ws) (starts ++ length xs ∷ []) (length (xs ++ ws)) = cc in
    moved ∙ push_row_in_rows xs ws starts (length xs) rows a refl e

pub start_row_is : {X : Type 0} (xs zs : List X) (starts ts : List ℕ) (n : ℕ) (rows : List (List X)) → zs ≡ xs → n ≡ length zs → ts ≡ starts ++ n ∷ [] → AreStarts starts (length xs) → rows_of xs starts (length xs) ≡ rows
    → rows_of xs ts (length xs) ≡ rows ++ [] ∷ []
start_row_is xs zs starts ts n rows z m t a e = push_row_is xs xs zs [] starts starts ts n rows (sym (append-nil xs)) z m refl t a e

pub start_row_starts : {X : Type 0} (xs zs : List X) (starts ts : List ℕ) (n : ℕ) → zs ≡ xs → n ≡ length zs → ts ≡ starts ++ n ∷ [] → AreStarts starts (length xs) → AreStarts ts (length xs)
start_row_starts xs zs starts ts n z m t a = push_row_starts xs xs zs [] starts starts ts n (sym (append-nil xs)) z m refl t a

pub fill_more : {X : Type 0} (xs ys : List X) (x : X) (i : ℕ) → i < length xs → ys ≡ map (λ _. x) (take i xs) ++ drop i xs → set ys i x ≡ map (λ _. x) (take (i + 1) xs) ++ drop (i + 1) xs
fill_more xs ys x i within e =
    let front : length (map (λ _. x) (take i xs)) ≡ length (take i xs) = length-map (take i xs) (λ _. x) in
    let own : length (map (λ _. x) (take i xs)) ≡ i = omega (arith, front, length-take i xs) in
    let one : ys ≡ map (λ _. x) (take i xs) ++ (get_or xs i x ∷ drop (i + 1) xs) = e ∙ ap (λ zs. map (λ _. x) (take i xs) ++ zs) (drop_more xs i x within) in
    let two : set ys i x ≡ map (λ _. x) (take i xs) ++ (x ∷ drop (i + 1) xs) = ap (λ zs. set zs i x) one ∙ set_at (map (λ _. x) (take i xs)) (get_or xs i x) (drop (i + 1) xs) x i own in
    let three : map (λ _. x) (take (i + 1) xs) ≡ map (λ _. x) (take i xs) ++ x ∷ [] = ap (map (λ _. x)) (take_more xs i x within) ∙ map-append (λ _. x) (take i xs) (get_or xs i x ∷ []) in
    two ∙ sym (append_assoc (map (λ _. x) (take i xs)) (x ∷ []) (drop (i + 1) xs)) ∙ ap (λ zs. zs ++ drop (i + 1) xs) (sym three)

pub refill_is : {X : Type 0} (xs ws zs : List X) (x : X) (n : ℕ) → n ≡ length xs → ws ≡ map (λ _. x) zs → zs ≡ xs → take n (ws ++ drop (length ws) xs) ≡ map (λ _. x) xs
refill_is xs ws zs x n e f z =
    let own : length ws ≡ n = omega (arith, e, ap length f, ap length z, length-map zs (λ _. x)) in
    take_at ws (drop (length ws) xs) n own ∙ f ∙ ap (map (λ _. x)) z

pub copies_more : {X : Type 0} (was xs ys : List X) (x : X) (n : ℕ) → xs ≡ was ++ replicate n x → ys ≡ xs ++ x ∷ [] → ys ≡ was ++ replicate (n + 1) x
copies_more was xs ys x n e f = f ∙ ap (λ zs. zs ++ x ∷ []) e ∙ append_assoc was (replicate n x) (x ∷ []) ∙ ap (λ zs. was ++ zs) (replicate_more n x)
