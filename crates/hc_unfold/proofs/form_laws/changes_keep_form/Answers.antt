use Rattle.hc_unfold.proofs.FormLaws.{changes_keep_form}
use Rattle.hc_unfold.proofs.form_laws.changes_keep_form.Goals as goal

pub returns : goal.returns
returns c = changes_keep_form
