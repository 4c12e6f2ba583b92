use Rattle.hc_flatsim.proofs.Ports.{input_within, set_widths}
use Rattle.hc_flatsim.proofs.inputs.set_input.Goals as goal

pub bounds-inputs-port : goal.bounds-inputs-port
bounds-inputs-port c = input_within c.args.inputs.now c.args.circuit.now.ports.inputs c.args.port c.args.value c.requires.widths c.requires.value

pub returns-clause-widths : goal.returns-clause-widths
returns-clause-widths c = set_widths c.args.inputs.now c.args.circuit.now.ports.inputs c.args.port c.args.value c.requires.widths c.requires.value
