use Rattle.hc_rows.proofs.Cuts.{push_starts, push_is}
use Rattle.hc_rows.proofs.rows.Rows.push.Goals as goal

pub invariant_of-self-2 : goal.invariant_of-self-2
invariant_of-self-2 g c = push_starts _ _ _ _ _ c.in_ok-push.ensures.items c.self.invariant c.self.view_is c.requires

pub returns-clause-ok : goal.returns-clause-ok
returns-clause-ok g c = push_is _ _ _ _ _ c.in_ok-push.ensures.items c.self.invariant c.self.view_is
