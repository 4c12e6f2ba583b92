use Rattle.std.proofs.Common.{ap, ◌∙◌}
use Rattle.hc_turn.specs.Views.{whole}
use Rattle.hc_dbstate.specs.History.{log}
use Rattle.hc_db.proofs.Turns.{log_nothing}
use Rattle.hc_db.proofs.db.Db.new.Goals as goal

pub returns-in-Ok-clause-pass : goal.returns-in-Ok-clause-pass
returns-in-Ok-clause-pass g c = c.in-Ok.ensures.pass ∙ ap whole (ap log c.new-state.ensures ∙ log_nothing)
