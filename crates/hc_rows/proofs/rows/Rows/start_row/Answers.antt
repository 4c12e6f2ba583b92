use Rattle.std.proofs.Common.{refl}
use Rattle.hc_rows.proofs.Cuts.{start_row_starts, start_row_is}
use Rattle.hc_rows.proofs.rows.Rows.start_row.Goals as goal

pub invariant_of-self-2 : goal.invariant_of-self-2
invariant_of-self-2 g c = start_row_starts _ _ _ _ _ c.as_slice-end.ensures.value refl c.in_ok-push.ensures.items c.self.invariant

pub returns-clause-ok : goal.returns-clause-ok
returns-clause-ok g c = start_row_is _ _ _ _ _ _ c.as_slice-end.ensures.value refl c.in_ok-push.ensures.items c.self.invariant c.self.view_is
