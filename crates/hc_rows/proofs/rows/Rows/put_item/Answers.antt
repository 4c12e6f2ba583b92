use Rattle.std.proofs.Common.{length, refl, ap, arith}
use Rattle.hc_rows.proofs.Cuts.{flat_of_rows, set_flat, set_shape}
use Rattle.hc_rows.proofs.rows.Rows.put_item.Goals as goal

pub index_mut-requires : goal.index_mut-requires
index_mut-requires g c = omega (arith, c.requires, c.self.inside.items.ok.0, ap length (flat_of_rows _ _ _ _ c.self.invariant refl c.self.view_is))

pub returns-clause-items : goal.returns-clause-items
returns-clause-items g c = set_flat _ _ _ _ _ c.self.invariant c.self.view_is

pub returns-clause-shape : goal.returns-clause-shape
returns-clause-shape g c = set_shape _ _ _ _ _ c.self.view_is
