use Rattle.std.proofs.Common.{map, ap, ◌∙◌}
use Rattle.hc_dbstate.specs.declared.turns.Entered.{Entered}
use Rattle.hc_dbstate.proofs.Logged.{log_entries}
use Rattle.hc_dbstate.proofs.Triples.{legal_names, log_is}
use Rattle.hc_dbstate.proofs.turn_laws.logs_have_the_turns.Goals as goal

pub returns : goal.returns
returns c h legal = ap (map (λ (x : Entered). x.entry)) (log_is h) ∙ log_entries h.entries h.turns (legal_names h legal)
