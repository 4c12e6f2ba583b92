-- The catalogue of combinational operations: names, arguments, widths, values.
use Rattle.std.specs.Prelude.{ℕ, zero, suc, ◌+◌, ◌-◌, ◌*◌, ◌/◌, ◌%◌, ◌^◌, min, max, if◌then◌else◌, nat_le, List, [], ◌∷◌, codes, Option, find}
use Rattle.std.specs.Str.{bytes_eq}
use Rattle.hc_bits.specs.declared.kind.OpKind.{OpKind}
use Rattle.hc_bits.specs.declared.kind.OpKind.TheVariants.{Popcount, Clz, Rev, Min, Max, SatAdd}
use Rattle.hc_bits.specs.BitVector.{BitVector}

-- the number of ones among the w lowest bits
abbrev pub popcount : ℕ → ℕ → ℕ
popcount zero n = 0
popcount (suc w) n = n % 2 + popcount w (n / 2)

-- the number of zeros above the highest one among the w lowest bits
abbrev pub leading_zeros : ℕ → ℕ → ℕ
leading_zeros zero n = 0
leading_zeros (suc w) n = if nat_le (2 ^ w) n then 0 else (leading_zeros w n + 1)

-- the w lowest bits in the other order
abbrev pub reversed : ℕ → ℕ → ℕ
reversed zero n = 0
reversed (suc w) n = n % 2 * 2 ^ w + reversed w (n / 2)

-- the least number of bits, at least one, that n fits
abbrev pub bits_of : ℕ → ℕ
bits_of n = max 1 (n - leading_zeros n n)

abbrev pub operation_name : OpKind → List ℕ
operation_name Popcount = codes "popcount"
operation_name Clz = codes "clz"
operation_name Rev = codes "rev"
operation_name Min = codes "min"
operation_name Max = codes "max"
operation_name SatAdd = codes "satadd"

-- the catalogue, in its order
abbrev pub catalogue : List OpKind
catalogue = Popcount ∷ Clz ∷ Rev ∷ Min ∷ Max ∷ SatAdd ∷ []

-- the operation of this name
abbrev pub find_kind : List ℕ → Option OpKind
find_kind name = find (λ kind. bytes_eq (operation_name kind) name) catalogue

-- how many arguments an operation takes, all of one width
abbrev pub arity : OpKind → ℕ
arity Popcount = 1
arity Clz = 1
arity Rev = 1
arity Min = 2
arity Max = 2
arity SatAdd = 2

-- the width of the result for arguments of width w
abbrev pub result_width : OpKind → ℕ → ℕ
result_width Popcount w = bits_of w
result_width Clz w = bits_of w
result_width Rev w = w
result_width Min w = w
result_width Max w = w
result_width SatAdd w = w

-- the value of an operation
abbrev pub operation : OpKind → List BitVector → BitVector
operation Popcount (x ∷ []) = record { width = bits_of x.width; value = popcount x.width x.value }
operation Clz (x ∷ []) = record { width = bits_of x.width; value = leading_zeros x.width x.value }
operation Rev (x ∷ []) = record { width = x.width; value = reversed x.width x.value }
operation Min (x ∷ y ∷ []) = record { width = x.width; value = min x.value y.value }
operation Max (x ∷ y ∷ []) = record { width = x.width; value = max x.value y.value }
operation SatAdd (x ∷ y ∷ []) = record { width = x.width; value = min (x.value + y.value) (2 ^ x.width - 1) }
operation kind xs = record { width = 0; value = 0 }
