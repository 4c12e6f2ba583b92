use Rattle.hc_lang.proofs.StructureSteps.{goes_on, stops_all, left_over}
use Rattle.hc_lang.proofs.structure.outlined.Goals as goal

pub row-preserved : goal.row-preserved
row-preserved c = (
  goes_on c.args.most c.row.yielded c.row.outline _ c.in-Some.number c.in-Some.line c.row.invariant.0 c.in-Ok.ensures,
  left_over c.args.rows c.row.yielded _ _
      (c.in-Some.number, c.in-Some.line) c.row.invariant.1 c.in-Some.ensures.steps.0,
)

pub returns-in-Err : goal.returns-in-Err
returns-in-Err c = stops_all c.args.most c.args.rows c.row.yielded _ _ c.row.outline c.in-Some.number c.in-Some.line _ c.row.invariant.1 c.in-Some.ensures.steps.0 c.row.invariant.0 c.in-Err.ensures
