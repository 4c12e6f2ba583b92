use Rattle.hc_flatsim.proofs.Ports.{outputs_many, noted_widths}
use Rattle.hc_flatsim.proofs.settle.note.Goals as goal

pub note_values-requires-clause-many : goal.note_values-requires-clause-many
note_values-requires-clause-many c = outputs_many c.args.circuit.now c.args.to.now c.lawful.ensures c.requires.widths

pub returns-clause-widths : goal.returns-clause-widths
returns-clause-widths c = noted_widths c.args.circuit.now c.args.values.now c.note_values.new.to c.lawful.ensures c.note_values.ensures
