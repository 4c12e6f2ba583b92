use Rattle.std.proofs.Common.{◌≢◌, Some, All, take}
use Rattle.std.specs.Prelude.{slice_get}
use Rattle.hc_dbstate.proofs.insert.find.Given as goal

abbrev pub invariant-places : goal.invariant-places
invariant-places l = All (λ p. slice_get l.entries p ≢ Some l.form) (take l.place-index l.places)
