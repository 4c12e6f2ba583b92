use Rattle.std.proofs.Common.{◌≡◌, map, take}
use Rattle.hc_canon.specs.declared.form.EntryId.{EntryId}
use Rattle.hc_hierstate.specs.States.{circuit_of}
use Rattle.hc_hierstate.specs.Changes.{initial_row}
use Rattle.hc_hierstate.proofs.registers.initial_registers.Given as goal

abbrev pub invariant-instances : goal.invariant-instances
invariant-instances l = l.rows ≡ map (λ (id : EntryId). initial_row (circuit_of l.db.entries id)) (take l.p l.layout.entries)
