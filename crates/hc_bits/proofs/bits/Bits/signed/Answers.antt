use Rattle.hc_bits.proofs.Signs.{sign_extended}
use Rattle.hc_bits.proofs.bits.Bits.signed.Goals as goal

pub returns : goal.returns
returns c = rw (← c.self.view_is) (sign_extended _ c.self.invariant _ c.cast_signed.ensures)
