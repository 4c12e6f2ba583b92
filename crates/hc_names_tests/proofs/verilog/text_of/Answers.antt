use Rattle.std.proofs.Common.{List, subst}
use Rattle.hc_signal.specs.Member.{Has}
use Rattle.hc_canon.specs.declared.form.EntryId.{EntryId}
use Rattle.hc_names_tests.proofs.verilog.text_of.Goals as goal

pub module_text-requires : goal.module_text-requires
module_text-requires c = λ id has. elim (subst (λ (ids : List EntryId). Has ids id) c.requires has) [ ]
