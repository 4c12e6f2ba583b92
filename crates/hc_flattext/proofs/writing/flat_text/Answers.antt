use Rattle.hc_flattext.proofs.FlatTexts.{form_text_flat}
use Rattle.hc_flattext.proofs.writing.flat_text.Goals as goal

pub module_text-requires : goal.module_text-requires
module_text-requires c = λ id has. elim (c.in_ok-form.ensures.known id has) [ ]

pub returns : goal.returns
returns c = form_text_flat c.args.circuit.now c.in_ok-form.form c.args.name.now c.in_ok-text.text.items c.in_ok-form.ensures (rw c.new-names.ensures at c.in_ok-text.ensures)
