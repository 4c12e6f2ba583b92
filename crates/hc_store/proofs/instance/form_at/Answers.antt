use Rattle.hc_store.proofs.Sites.{form_there, one_form}
use Rattle.hc_store.proofs.instance.form_at.Goals as goal

pub form-requires : goal.form-requires
form-requires c = form_there c.args.site.now c.args.p c.requires.fit c.entry-id.result c.requires.instance c.entry-id.ensures

pub returns : goal.returns
returns c = λ id form plan is. one_form c.args.site.now c.args.p id form plan c.entry-id.result c.form.result.now is c.entry-id.ensures c.form.ensures
