use Rattle.hc_plan.proofs.KidHeights.{kid_lower, some_row_height}
use Rattle.hc_plan.proofs.height_laws.kids_are_lower.Goals as goal

pub returns-clause-some : goal.returns-clause-some
returns-clause-some c d rows stop k row plan at = some_row_height d rows stop plan k row at

pub returns-clause-lower : goal.returns-clause-lower
returns-clause-lower c d rows stop k j row kid plan at m there = kid_lower d (c.bodies_are_single.ensures d) (c.bodies_stay.ensures.body d) rows stop plan k j row kid at m there
