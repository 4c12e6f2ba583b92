-- The ports of the tests.
use Rattle.std.proofs.Common.{◌≡◌, List, [], ◌∷◌, sym, subst}
use Rattle.hc_bits.specs.BitVector.{IsWidth}
use Rattle.hc_signal.specs.Member.{Has, first, later}
use Rattle.hc_signal.specs.Lawful.{ArePorts}
use Rattle.hc_signal.specs.declared.signal.Port.{Port}

two_widths : (a b : Port) → IsWidth a.width → IsWidth b.width → (p : Port) → Has (a ∷ b ∷ []) p → IsWidth p.width
two_widths a b wa wb _ first = wa
two_widths a b wa wb _ (later first) = wb
two_widths a b wa wb p (later (later has)) = elim has [ ]

no_widths : (p : Port) → Has [] p → IsWidth p.width
no_widths p has = elim has [ ]

pub two_ports : (inputs outputs : List Port) (a b : Port) → IsWidth a.width → IsWidth b.width → inputs ≡ a ∷ b ∷ [] → outputs ≡ [] → ArePorts (record { inputs = inputs; outputs = outputs })
two_ports inputs outputs a b wa wb is empty = record {
  inputs = subst (λ (l : List Port). (p : Port) → Has l p → IsWidth p.width) (sym is) (two_widths a b wa wb);
  outputs = subst (λ (l : List Port). (p : Port) → Has l p → IsWidth p.width) (sym empty) no_widths;
}
