use Rattle.std.proofs.Common.{◌≡◌, ℕ, ◌+◌, ap, subst}
use Rattle.hc_bits.specs.BitVector.{BitVector, IsBitVector}
use Rattle.hc_bits.proofs.Signs.{kept_product_fits, kept_product_is}
use Rattle.hc_bits.proofs.bits.Bits.muls.Goals as goal

pub overflow_mul-product : goal.overflow_mul-product
overflow_mul-product c =
    let x : IsBitVector c.args.self = subst IsBitVector c.self.view_is c.self.invariant in
    let y : IsBitVector c.args.other = subst IsBitVector c.other.view_is c.other.invariant in
    kept_product_fits c.args.self c.args.other x y c.requires _ _ c.signed.ensures c.signed-2.ensures

pub returns : goal.returns
returns c =
    let x : IsBitVector c.args.self = subst IsBitVector c.self.view_is c.self.invariant in
    let y : IsBitVector c.args.other = subst IsBitVector c.other.view_is c.other.invariant in
    let product = kept_product_is c.args.self c.args.other x y c.requires _ _ c.signed.ensures c.signed-2.ensures in
    let own : c.self.inside.width ≡ c.args.self.width = ap (λ (v : BitVector). v.width) c.self.view_is in
    let others : c.other.inside.width ≡ c.args.other.width = ap (λ (v : BitVector). v.width) c.other.view_is in
    rw (c.lowest.ensures, c.cast_unsigned.ensures, own, others) (ap (λ (n : ℕ). record { width = c.args.self.width + c.args.other.width; value = n }) product)
