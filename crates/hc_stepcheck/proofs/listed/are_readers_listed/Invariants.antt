use Rattle.std.proofs.Common.{◌≡◌, ℕ, ◌<◌}
use Rattle.std.specs.Prelude.{slice_get, Some}
use Rattle.hc_signal.specs.declared.signal.NodeId.{NodeId}
use Rattle.hc_stepcheck.specs.Checked.{IsReaderListed}
use Rattle.hc_stepcheck.proofs.listed.are_readers_listed.Given as goal

abbrev pub invariant-ids : goal.invariant-ids
invariant-ids l = (k : ℕ) (m : NodeId) → k < l.id-index → slice_get l.ids k ≡ Some m → IsReaderListed l.site.form.now.circuit l.site.plan.now l.part m.0
