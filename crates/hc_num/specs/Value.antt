-- The value of a written number: 64 bits with a sign, division toward zero, comparisons that give 1 or 0.
use Rattle.std.specs.Prelude.{ℕ, ◌^◌, Bool, not, ◌&&◌, if◌then◌else◌, List, Option, Some, None, Result, Ok, Err, ℤ, pos, negsuc, neg_ℤ, ◌+ℤ◌, ◌-ℤ◌, ◌*ℤ◌, int_lt, int_le, int_div, int_rem, find, option_map}
use Rattle.std.specs.Ordering.{int_eq}
use Rattle.std.specs.Str.{bytes_eq}
use Rattle.hc_bits.specs.Catalogue.{bits_of}
use Rattle.hc_fault.specs.declared.fault.FaultKind.{FaultKind}
use Rattle.hc_fault.specs.declared.fault.FaultKind.TheVariants.{Number, UnknownName}
use Rattle.hc_tokens.specs.declared.tree.NumOp.{NumOp}
use Rattle.hc_tokens.specs.declared.tree.NumOp.TheVariants.{Add, Sub, Mul, Div, Rem, Eq, Ne, Lt, Le, Gt, Ge}
use Rattle.hc_tokens.specs.declared.tree.Num.{Num}
use Rattle.hc_tokens.specs.declared.tree.Num.TheOpen.{Num-F}
use Rattle.hc_tokens.specs.declared.tree.Num.TheFolds.{fold-Num}

-- names and their numbers, the innermost binding first
abbrev pub Bindings : Type 0
Bindings = List (List ℕ × ℤ)

-- the number of the innermost binding of a name
abbrev pub look_up : List ℕ → Bindings → Option ℤ
look_up name env = option_map (λ b. b.1) (find (λ b. bytes_eq b.0 name) env)

-- a number, or the first fault
abbrev pub Outcome : Type 0
Outcome = Result ℤ FaultKind

abbrev pub and_then : Outcome → (ℤ → Outcome) → Outcome
and_then (Ok x) f = f x
and_then (Err kind) f = Err kind

-- a result from -2^63 to 2^63 - 1
abbrev pub within : ℤ → Outcome
within z = if int_le (neg_ℤ (pos (2 ^ 63))) z && int_lt z (pos (2 ^ 63)) then Ok z else Err Number

abbrev pub one_if : Bool → ℤ
one_if test = if test then pos 1 else pos 0

-- the result of a division, whose divisor must not be 0
abbrev pub divided_by : ℤ → ℤ → Outcome
divided_by y z = if int_eq y (pos 0) then Err Number else within z

abbrev pub operate : NumOp → ℤ → ℤ → Outcome
operate Add x y = within (x +ℤ y)
operate Sub x y = within (x -ℤ y)
operate Mul x y = within (x *ℤ y)
operate Div x y = divided_by y (int_div x y)
operate Rem x y = divided_by y (int_rem x y)
operate Eq x y = Ok (one_if (int_eq x y))
operate Ne x y = Ok (one_if (not (int_eq x y)))
operate Lt x y = Ok (one_if (int_lt x y))
operate Le x y = Ok (one_if (int_le x y))
operate Gt x y = Ok (one_if (int_lt y x))
operate Ge x y = Ok (one_if (int_le y x))

-- the least number of bits, at least one, that a number fits; none for a negative number
abbrev pub bits : ℤ → Outcome
bits (pos n) = Ok (pos (bits_of n))
bits (negsuc n) = Err Number

abbrev pub named : Option ℤ → Outcome
named (Some z) = Ok z
named None = Err UnknownName

-- one level of a number, over the values of its parts
abbrev pub level : Num-F (Bindings → Outcome) → Bindings → Outcome
level (Num-F.Int z) env = Ok z
level (Num-F.Name name) env = named (look_up name env)
level (Num-F.Neg a) env = and_then (a env) (λ x. within (neg_ℤ x))
level (Num-F.Two op a b) env = and_then (a env) (λ x. and_then (b env) (λ y. operate op x y))
level (Num-F.Bits a) env = and_then (a env) bits

-- the value of a number, or the first fault: operands from left to right before their operator
abbrev pub value : Num → Bindings → Outcome
value = fold-Num (Bindings → Outcome) level
