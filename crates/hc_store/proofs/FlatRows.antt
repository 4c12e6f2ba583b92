-- All items of rows, by number.
use Rattle.std.proofs.Common.{◌≡◌, ℕ, zero, suc, ◌+◌, ◌<◌, List, [], ◌∷◌, ◌++◌, length, take, map, refl, sym, ap, ◌∙◌, arith, length-append}
use Rattle.std.specs.Prelude.{slice_get}
use Rattle.hc_rows.specs.Rows.{row_at, flat, number_of}

length_append : {X : Type 0} (xs ys : List X) → length (xs ++ ys) ≡ length xs + length ys
length_append xs ys = length-append xs ys

get_left : {X : Type 0} (xs ys : List X) (k : ℕ) → k < length xs → slice_get (xs ++ ys) k ≡ slice_get xs k
get_left [] ys k h = absurd (omega (arith, h))
get_left (x ∷ xs) ys zero h = refl
get_left (x ∷ xs) ys (suc k) h = get_left xs ys k (omega (arith, h))

get_right : {X : Type 0} (xs ys : List X) (k : ℕ) → slice_get (xs ++ ys) (length xs + k) ≡ slice_get ys k
get_right [] ys k = let e : 0 + k ≡ k = omega arith in ap (slice_get ys) e
get_right (x ∷ xs) ys k = let e : suc (length xs) + k ≡ suc (length xs + k) = omega arith in ap (slice_get (x ∷ (xs ++ ys))) e ∙ get_right xs ys k

-- how many items there are before a row, by how many each row has
abbrev pub before : List ℕ → ℕ → ℕ
before [] r = 0
before (n ∷ ns) zero = 0
before (n ∷ ns) (suc r) = n + before ns r

abbrev pub total : List ℕ → ℕ
total [] = 0
total (n ∷ ns) = n + total ns

pub length_flat : {X : Type 0} (rows : List (List X)) → length (flat rows) ≡ total (map length rows)
length_flat [] = refl
length_flat (row ∷ rows) = length_append row (flat rows) ∙ ap (λ (n : ℕ). length row + n) (length_flat rows)

before_take : {X : Type 0} (rows : List (List X)) (r : ℕ) → length (flat (take r rows)) ≡ before (map length rows) r
before_take [] zero = refl
before_take [] (suc r) = refl
before_take (row ∷ rows) zero = refl
before_take (row ∷ rows) (suc r) = length_append row (flat (take r rows)) ∙ ap (λ (n : ℕ). length row + n) (before_take rows r)

pub number_by_shape : {X : Type 0} (rows : List (List X)) (r k : ℕ) → number_of rows r k ≡ before (map length rows) r + k
number_by_shape rows r k = ap (λ (n : ℕ). n + k) (before_take rows r)

-- rows of one shape number their items alike
pub same_numbers : {X Y : Type 0} (xs : List (List X)) (ys : List (List Y)) (r k : ℕ) → map length xs ≡ map length ys → number_of xs r k ≡ number_of ys r k
same_numbers xs ys r k e = number_by_shape xs r k ∙ ap (λ (ns : List ℕ). before ns r + k) e ∙ sym (number_by_shape ys r k)

pub same_many : {X Y : Type 0} (xs : List (List X)) (ys : List (List Y)) → map length xs ≡ map length ys → length (flat xs) ≡ length (flat ys)
same_many xs ys e = length_flat xs ∙ ap total e ∙ sym (length_flat ys)

abbrev size_at : List ℕ → ℕ → ℕ
size_at [] r = 0
size_at (n ∷ ns) zero = n
size_at (n ∷ ns) (suc r) = size_at ns r

size_of : {X : Type 0} (rows : List (List X)) (r : ℕ) → length (row_at rows r) ≡ size_at (map length rows) r
size_of [] r = refl
size_of (row ∷ rows) zero = refl
size_of (row ∷ rows) (suc r) = size_of rows r

pub same_size : {X Y : Type 0} (xs : List (List X)) (ys : List (List Y)) (r : ℕ) → map length xs ≡ map length ys → length (row_at xs r) ≡ length (row_at ys r)
same_size xs ys r e = size_of xs r ∙ ap (λ (ns : List ℕ). size_at ns r) e ∙ sym (size_of ys r)

within : (ns : List ℕ) (r k : ℕ) → k < size_at ns r → before ns r + k < total ns
within [] r k h = absurd (omega (arith, h))
within (n ∷ ns) zero k h = omega (arith, h)
within (n ∷ ns) (suc r) k h = let w = within ns r k h in omega (arith, w)

pub number_within : {X : Type 0} (rows : List (List X)) (r k : ℕ) → k < length (row_at rows r) → number_of rows r k < length (flat rows)
number_within rows r k h =
    let s = size_of rows r in
    let w = within (map length rows) r k (omega (arith, h, s)) in
    let n = number_by_shape rows r k in
    let l = length_flat rows in
    omega (arith, w, n, l)

-- the item with a number is that of the row
pub flat_get : {X : Type 0} (rows : List (List X)) (r k : ℕ) → k < length (row_at rows r) → slice_get (flat rows) (number_of rows r k) ≡ slice_get (row_at rows r) k
flat_get [] r k h = absurd (omega (arith, h))
flat_get (row ∷ rows) zero k h = let e : 0 + k ≡ k = omega arith in ap (slice_get (row ++ flat rows)) e ∙ get_left row (flat rows) k h
flat_get (row ∷ rows) (suc r) k h =
    let e : number_of (row ∷ rows) (suc r) k ≡ length row + number_of rows r k = let a = length_append row (flat (take r rows)) in omega (arith, a) in
    ap (λ (n : ℕ). slice_get (row ++ flat rows) n) e ∙ get_right row (flat rows) (number_of rows r k) ∙ flat_get rows r k h
