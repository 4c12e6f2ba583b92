-- A register that is replaced at its place.
use Rattle.std.proofs.Common.{◌≡◌, ℕ, ◌<◌, ◌≤◌, List, map, length, get_or, refl, sym, ◌∙◌, ap}
use Rattle.std.specs.Prelude.{slice_get, slice_set, Option, Some, None}
use Rattle.std.proofs.lemmas.Option.{slice_get_within, slice_get_read, slice_get_past, same_Some}
use Rattle.hc_values.specs.Updates.{replaced}
use Rattle.hc_values.proofs.Changes.{replaced_is, replaced_past}
use Rattle.hc_values.proofs.Shapes.{many, found, same_set}

-- Items of a list that stand for those of another.
module _ {X Y Z : Type 0} (z : X → Z) (y : Y → Z) (xs : List X) (ys : List Y) (e : map z xs ≡ map y ys) where
  pub read_at : (n : ℕ) (row : Y) (x : X) → slice_get ys n ≡ Some row → x ≡ get_or xs n x → slice_get xs n ≡ Some x
  read_at n row x at is = slice_get_read xs (length ys) n x (sym (many z y xs ys e)) (slice_get_within ys n row at) is

  pub alike : (n : ℕ) (row : Y) (x : X) → slice_get ys n ≡ Some row → x ≡ get_or xs n x → z x ≡ y row
  alike n row x at is =
      let r : (x' : X) × (slice_get xs n ≡ Some x') × (z x' ≡ y row) = found z y xs ys n row e at in
      ap z (same_Some _ _ (sym (read_at n row x at is) ∙ r.1)) ∙ r.2

  pub placed : (f : Option Y → X → X) (n : ℕ) (row : Y) (x to : X) → slice_get ys n ≡ Some row → x ≡ get_or xs n x → to ≡ f (Some row) x → slice_set xs n to ≡ replaced (f (slice_get ys n)) n xs
  placed f n row x to at is new =
      ap (slice_set xs n) (new ∙ sym (ap (λ o. f o x) at)) ∙ sym (replaced_is (f (slice_get ys n)) n xs x (read_at n row x at is))

  pub placed_alike : (n : ℕ) (row : Y) (x to : X) → slice_get ys n ≡ Some row → x ≡ get_or xs n x → z to ≡ z x → map z (slice_set xs n to) ≡ map y ys
  placed_alike n row x to at is same = same_set z xs n to x (read_at n row x at is) same ∙ e

  pub unplaced : (f : Option Y → X → X) (n : ℕ) → slice_get ys n ≡ None → xs ≡ replaced (f (slice_get ys n)) n xs
  unplaced f n at = go (slice_get xs n) refl
    where
      go : (o : Option X) → slice_get xs n ≡ o → xs ≡ replaced (f (slice_get ys n)) n xs
      go None q = sym (replaced_past (f (slice_get ys n)) n xs q)
      go (Some x) q = let r : (row : Y) × (slice_get ys n ≡ Some row) × (y row ≡ z x) = found y z ys xs n x (sym e) q in absurd (cc)

-- an item that was looked up in a copy of the list
pub row_read : {Y : Type 0} (rows all : List Y) (n : ℕ) (row : Y) → all ≡ rows → n < length all → row ≡ get_or all n row → slice_get rows n ≡ Some row
row_read rows all n row e l is = ap (λ r. slice_get r n) (sym e) ∙ slice_get_read all (length all) n row refl l is

pub row_past : {Y : Type 0} (rows all : List Y) (n : ℕ) → all ≡ rows → length all ≤ n → slice_get rows n ≡ None
row_past rows all n e l = ap (λ r. slice_get r n) (sym e) ∙ slice_get_past all n l
