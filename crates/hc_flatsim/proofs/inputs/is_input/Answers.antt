use Rattle.hc_flatsim.proofs.Ports.{input_within}
use Rattle.hc_flatsim.proofs.inputs.is_input.Goals as goal

pub bounds-inputs-port : goal.bounds-inputs-port
bounds-inputs-port c = input_within c.args.inputs.now c.args.circuit.now.ports.inputs c.args.port c.args.value c.requires.widths c.requires.value
