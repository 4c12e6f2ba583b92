-- The arguments of an operation, and the widths of what operators and operations give.
use Rattle.std.proofs.Common.{◌≡◌, ℕ, List, [], ◌∷◌, length, ◌+◌, sym, ◌∙◌, ap, ap₂}
use Rattle.hc_bits.specs.BitVector.{BitVector}
use Rattle.hc_bits.specs.Catalogue.{arity, bits_of, operation, result_width}
use Rattle.hc_bits.specs.declared.kind.OpKind.{OpKind}
use Rattle.hc_bits.specs.declared.kind.OpKind.TheVariants.{Popcount, Clz, Rev, Min, Max, SatAdd}
use Rattle.hc_signal.specs.Member.{Has, first, later}
use Rattle.hc_signal.specs.declared.signal.Op2.{Op2}
use Rattle.hc_signal.specs.declared.signal.Op2.TheVariants as op
use Rattle.hc_signal.specs.Lawful.{FitsTwo}
use Rattle.hc_signal.specs.Operators.{binary}
use Rattle.hc_ops.specs.Arguments.{HaveOneWidth}

-- arguments that all have a width have one width
pub one_width : (xs : List BitVector) (w : ℕ) → ((x : BitVector) → Has xs x → x.width ≡ w) → HaveOneWidth xs
one_width [] w h = tt
one_width (x ∷ []) w h = tt
one_width (x ∷ y ∷ rest) w h = (h x first ∙ sym (h y (later first)), one_width (y ∷ rest) w (λ z i. h z (later i)))

-- the value of an operation is as wide as the catalogue says
pub operation_width : (kind : OpKind) (xs : List BitVector) (w : ℕ) → length xs ≡ arity kind → ((x : BitVector) → Has xs x → x.width ≡ w) → (operation kind xs).width ≡ result_width kind w
operation_width Popcount (x ∷ []) w e h = ap bits_of (h x first)
operation_width Popcount [] w e h = absurd (cc)
operation_width Popcount (x ∷ y ∷ xs) w e h = absurd (cc)
operation_width Clz (x ∷ []) w e h = ap bits_of (h x first)
operation_width Clz [] w e h = absurd (cc)
operation_width Clz (x ∷ y ∷ xs) w e h = absurd (cc)
operation_width Rev (x ∷ []) w e h = h x first
operation_width Rev [] w e h = absurd (cc)
operation_width Rev (x ∷ y ∷ xs) w e h = absurd (cc)
operation_width Min (x ∷ y ∷ []) w e h = h x first
operation_width Min [] w e h = absurd (cc)
operation_width Min (x ∷ []) w e h = absurd (cc)
operation_width Min (x ∷ y ∷ z ∷ xs) w e h = absurd (cc)
operation_width Max (x ∷ y ∷ []) w e h = h x first
operation_width Max [] w e h = absurd (cc)
operation_width Max (x ∷ []) w e h = absurd (cc)
operation_width Max (x ∷ y ∷ z ∷ xs) w e h = absurd (cc)
operation_width SatAdd (x ∷ y ∷ []) w e h = h x first
operation_width SatAdd [] w e h = absurd (cc)
operation_width SatAdd (x ∷ []) w e h = absurd (cc)
operation_width SatAdd (x ∷ y ∷ z ∷ xs) w e h = absurd (cc)

-- an operator gives the width that its operands fit
pub binary_width : (o : Op2) (x y : BitVector) (v u w : ℕ) → x.width ≡ v → y.width ≡ u → FitsTwo o v u w → (binary o x y).width ≡ w
binary_width op.Add x y v u w e f h = e ∙ sym h.1
binary_width op.Sub x y v u w e f h = e ∙ sym h.1
binary_width op.Mulu x y v u w e f h = ap₂ (λ (i j : ℕ). i + j) e f ∙ sym h
binary_width op.Muls x y v u w e f h = ap₂ (λ (i j : ℕ). i + j) e f ∙ sym h
binary_width op.And x y v u w e f h = e ∙ sym h.1
binary_width op.Or x y v u w e f h = e ∙ sym h.1
binary_width op.Xor x y v u w e f h = e ∙ sym h.1
binary_width op.Eq x y v u w e f h = sym h.1
binary_width op.Lt x y v u w e f h = sym h.1
