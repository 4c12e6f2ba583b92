use Rattle.std.proofs.Common.{◌≡◌, ℕ, ◌<◌}
use Rattle.std.specs.Prelude.{slice_get, Some}
use Rattle.hc_canon.specs.FormView.{FormView}
use Rattle.hc_dbstate.specs.Uses.{IsMarked}
use Rattle.hc_steps.specs.Compiled.{IsPlanned}
use Rattle.hc_compile.proofs.all.are_planned.Given as goal

abbrev pub invariant-each : goal.invariant-each
invariant-each l = (k : ℕ) → k < l.place → (form : FormView) → IsMarked l.marks (record { 0 = k }) → slice_get l.db.entries k ≡ Some form → IsPlanned l.db.entries l.plans (record { 0 = k }) form
