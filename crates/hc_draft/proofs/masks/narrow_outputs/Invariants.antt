use Rattle.std.proofs.Common.{◌≡◌, drop}
use Rattle.hc_draft.specs.Needs.{narrowed_by}
use Rattle.hc_draft.proofs.masks.narrow_outputs.Given as goal

abbrev pub invariant-outputs : goal.invariant-outputs
invariant-outputs l = narrowed_by l.own l.port (drop l.port l.outputs) l.masks.items ≡ narrowed_by l.own 0 l.outputs l.initial.masks.items
