-- Bit vectors, and the value of each operator.
use Rattle.std.specs.Prelude.{◌≡◌, ℕ, zero, suc, ◌+◌, ◌-◌, ◌*◌, ◌/◌, ◌%◌, ◌^◌, ◌<◌, ◌≤◌, Bool, if◌then◌else◌, nat_lt, nat_le, ◌==◌, Option, Some, None, List, [], ◌∷◌, bit_and, bit_or, bit_xor, ℤ, pos, negsuc, ◌-ℤ◌, ◌*ℤ◌, nat_abs}
use Rattle.std.specs.Int.{int_rem_euclid}

-- a width that a bit vector may have
abbrev pub IsWidth : ℕ → Type 0
IsWidth w = (1 ≤ w) × (w ≤ 128)

-- a number of a stated width
pub record BitVector : Type 0 where
  pub width : ℕ
  pub value : ℕ

pub record IsBitVector (v : BitVector) : Type 0 where
  pub some : 1 ≤ v.width
  pub few : v.width ≤ 128
  pub fits : v.value < 2 ^ v.width

-- a number of this width
abbrev pub IsVector : BitVector → ℕ → Type 0
IsVector x w = IsBitVector x × (x.width ≡ w)

-- the number of a bit pattern as a two's complement number
abbrev pub signed : BitVector → ℤ
signed x = if nat_lt x.value (2 ^ (x.width - 1)) then pos x.value else (pos x.value -ℤ pos (2 ^ x.width))

-- the bit pattern of a number in w bits: unsigned where it is not negative, two's complement where it is
abbrev pub from_i64 : ℕ → ℤ → Option BitVector
from_i64 w (pos n) = if nat_lt n (2 ^ w) then Some (record { width = w; value = n }) else None
from_i64 w (negsuc n) = if nat_le (n + 1) (2 ^ (w - 1)) then Some (record { width = w; value = 2 ^ w - (n + 1) }) else None

-- one bit, 1 where the test holds
abbrev pub bit : Bool → BitVector
bit b = record { width = 1; value = if b then 1 else 0 }

-- ---- operators of two operands of one width; sums and differences wrap

abbrev pub add : BitVector → BitVector → BitVector
add x y = record { width = x.width; value = (x.value + y.value) % 2 ^ x.width }

abbrev pub sub : BitVector → BitVector → BitVector
sub x y = record { width = x.width; value = (x.value + 2 ^ x.width - y.value) % 2 ^ x.width }

abbrev pub and_ : BitVector → BitVector → BitVector
and_ x y = record { width = x.width; value = bit_and x.value y.value }

abbrev pub or_ : BitVector → BitVector → BitVector
or_ x y = record { width = x.width; value = bit_or x.value y.value }

abbrev pub xor_ : BitVector → BitVector → BitVector
xor_ x y = record { width = x.width; value = bit_xor x.value y.value }

abbrev pub eq_bit : BitVector → BitVector → BitVector
eq_bit x y = bit (x.value == y.value)

-- the unsigned comparison
abbrev pub lt_bit : BitVector → BitVector → BitVector
lt_bit x y = bit (nat_lt x.value y.value)

-- ---- products, in the sum of the widths

abbrev pub mulu : BitVector → BitVector → BitVector
mulu x y = record { width = x.width + y.width; value = x.value * y.value }

-- of two's complement numbers
abbrev pub muls : BitVector → BitVector → BitVector
muls x y = record { width = x.width + y.width; value = nat_abs (int_rem_euclid (signed x *ℤ signed y) (pos (2 ^ (x.width + y.width)))) }

-- ---- the others

abbrev pub not_ : BitVector → BitVector
not_ x = record { width = x.width; value = 2 ^ x.width - 1 - x.value }

-- the bits from hi down to lo, both included
abbrev pub select : BitVector → ℕ → ℕ → BitVector
select x hi lo = record { width = hi - lo + 1; value = x.value / 2 ^ lo % 2 ^ (hi - lo + 1) }

-- high before low
abbrev pub cat : BitVector → BitVector → BitVector
cat high low = record { width = high.width + low.width; value = high.value * 2 ^ low.width + low.value }

-- several parts, the most significant first
abbrev pub cat_all : List BitVector → BitVector
cat_all [] = record { width = 0; value = 0 }
cat_all (x ∷ []) = x
cat_all (x ∷ y ∷ xs) = cat x (cat_all (y ∷ xs))

-- the case at the selector's number, and the last one past the end
abbrev pub mux : BitVector → List BitVector → BitVector
mux s [] = record { width = 0; value = 0 }
mux s (x ∷ []) = x
mux s (x ∷ y ∷ xs) = choose s.value x (y ∷ xs)
  where
    choose : ℕ → BitVector → List BitVector → BitVector
    choose zero a more = a
    choose (suc n) a [] = a
    choose (suc n) a (b ∷ bs) = choose n b bs
