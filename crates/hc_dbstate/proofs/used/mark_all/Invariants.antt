use Rattle.std.proofs.Common.{◌≡◌, drop, length}
use Rattle.hc_dbstate.specs.Uses.{with_marks}
use Rattle.hc_dbstate.proofs.used.mark_all.Given as goal

abbrev pub invariant-ids : goal.invariant-ids
invariant-ids l = record {
  so_far : with_marks l.marks.items (drop l.id-index l.ids) ≡ with_marks l.initial.marks.items l.ids;
  len : length l.marks.items ≡ length l.initial.marks.items;
}
