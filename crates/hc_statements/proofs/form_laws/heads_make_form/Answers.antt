use Rattle.hc_statements.proofs.FormedHeads.{heads_form}
use Rattle.hc_statements.proofs.FormedSteps.{Below}
use Rattle.hc_statements.proofs.form_laws.heads_make_form.Goals as goal

below : goal.After-numbers_are_vectors → Below
below c = record {
  changes = c.changes_keep_form.ensures;
  signals = c.drawn_signals_keep_form.ensures;
  widths = c.numbers_are_vectors.ensures.width;
  values = c.numbers_are_vectors.ensures.value;
  zeros = c.numbers_are_vectors.ensures.zero;
}

pub returns : goal.returns
returns c = heads_form (below c)
