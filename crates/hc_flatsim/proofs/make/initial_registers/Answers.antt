use Rattle.std.proofs.Common.{◌∙◌, ap}
use Rattle.hc_flatsim.specs.Machine.{widths}
use Rattle.hc_flatsim.proofs.Started.{zero_rows}
use Rattle.hc_flatsim.proofs.make.initial_registers.Goals as goal

pub reset_registers-requires : goal.reset_registers-requires
reset_registers-requires c = record { registers = ap widths (c.as_mut_slice.ensures.value ∙ c.in_ok-registers.ensures) ∙ zero_rows c.args.circuit.now.nodes }
