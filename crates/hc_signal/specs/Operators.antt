-- The value of each operator of two operands.
use Rattle.hc_bits.specs.BitVector.{BitVector, add, sub, mulu, muls, and_, or_, xor_, eq_bit, lt_bit}
use Rattle.hc_signal.specs.declared.signal.Op2.{Op2}
use Rattle.hc_signal.specs.declared.signal.Op2.TheVariants.{Add, Sub, Mulu, Muls, And, Or, Xor, Eq, Lt}

abbrev pub binary : Op2 → BitVector → BitVector → BitVector
binary Add x y = add x y
binary Sub x y = sub x y
binary Mulu x y = mulu x y
binary Muls x y = muls x y
binary And x y = and_ x y
binary Or x y = or_ x y
binary Xor x y = xor_ x y
binary Eq x y = eq_bit x y
binary Lt x y = lt_bit x y
