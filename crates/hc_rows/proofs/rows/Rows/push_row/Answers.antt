use Rattle.std.proofs.Common.{refl}
use Rattle.hc_rows.proofs.Cuts.{push_row_starts, push_row_is}
use Rattle.hc_rows.proofs.rows.Rows.push_row.Goals as goal

pub invariant_of-self-2 : goal.invariant_of-self-2
invariant_of-self-2 g c = push_row_starts _ _ _ _ _ _ _ _ c.in_ok-extend_from_slice.ensures.items c.as_slice-start.ensures.value refl c.reserve.ensures.items c.push_reserved.ensures.items c.self.invariant

pub returns-clause-ok : goal.returns-clause-ok
returns-clause-ok g c = push_row_is _ _ _ _ _ _ _ _ _ c.in_ok-extend_from_slice.ensures.items c.as_slice-start.ensures.value refl c.reserve.ensures.items c.push_reserved.ensures.items c.self.invariant c.self.view_is
