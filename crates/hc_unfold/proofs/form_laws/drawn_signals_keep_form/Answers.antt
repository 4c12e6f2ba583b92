use Rattle.hc_unfold.proofs.KeptSignals.{drawn_keeps}
use Rattle.hc_unfold.proofs.form_laws.drawn_signals_keep_form.Goals as goal

pub returns : goal.returns
returns c = drawn_keeps
