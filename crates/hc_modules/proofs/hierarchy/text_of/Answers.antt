use Rattle.std.proofs.Common.{arith}
use Rattle.hc_modules.proofs.Texts.{prints_all}
use Rattle.hc_modules.proofs.hierarchy.text_of.Goals as goal

pub returns : goal.returns
returns c = prints_all c.args.db.now.entries c.args.top c.args.names.now c.rows.place c.rows.first c.rows.out.items (omega (arith, c.rows-test.false, c.len-place-end.ensures)) c.rows.invariant
