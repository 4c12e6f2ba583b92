use Rattle.std.proofs.Common.{◌-◌, ◌<◌, length, arith, refl}
use Rattle.std.specs.Prelude.{min}
use Rattle.std.proofs.lemmas.Option.{slice_get_read}
use Rattle.hc_bits.proofs.Choices.{mux_read}
use Rattle.hc_bits.proofs.bits.Bits.mux.Goals as goal

pub returns-clause-value : goal.returns-clause-value
returns-clause-value c =
    rw (← c.self.view_is) (mux_read c.self.inside.width c.self.inside.value _ _ c.requires (rw c.min-place.ensures at c.index-cases-place.is))

pub returns-clause-place : goal.returns-clause-place
returns-clause-place c =
    let within : min c.self.inside.value (length c.args.cases.now - 1) < length c.args.cases.now = omega arith in
    rw (← c.self.view_is) (slice_get_read _ _ _ _ refl within (rw c.min-place.ensures at c.index-cases-place.is))
