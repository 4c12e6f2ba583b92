use Rattle.std.proofs.Common.{◌≡◌, take, map, length}
use Rattle.hc_flatsim.specs.Settling.{operand}
use Rattle.hc_flatsim.proofs.settle.note_values.Given as goal

abbrev pub invariant-outputs : goal.invariant-outputs
invariant-outputs l = (take l.k l.to ≡ map (operand l.circuit l.values) (take l.k l.outputs)) × (length l.to ≡ length l.outputs)
