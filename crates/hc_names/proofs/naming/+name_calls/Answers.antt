use Rattle.std.proofs.Common.{subst}
use Rattle.std.proofs.lemmas.Result.{on_ok_weaker}
use Rattle.hc_dbstate.specs.declared.hier.Hier.{Hier}
use Rattle.hc_dbstate.specs.Elaboration.{walk}
use Rattle.hc_names.specs.Steps.{NamesTo, requests}
use Rattle.hc_names.proofs.Calls.{kids_more, kids_done}
use Rattle.hc_names.proofs.naming.+name_calls.Goals as goal

pub kids-preserved : goal.kids-preserved
kids-preserved t c = record {
  named = kids_more c.as_slice-kids.result.now c.kids.kid-index c.kid-item.result c.args.names.now c.kids.names c.name_calls.new.names c.kids-test.true c.kid-item.is c.kids.invariant.named
      (subst (λ (k : Hier). NamesTo c.kids.names (requests (walk k)) c.name_calls.new.names) c.deref.ensures c.in_ok-name_calls.ensures.named);
  taken = c.in_ok-name_calls.ensures.taken;
  marked = c.in_ok-name_calls.ensures.marked;
}

pub returns-clause-named : goal.returns-clause-named
returns-clause-named t c =
    on_ok_weaker c.name_marked.result
    (λ own. kids_done c.args.hier.now c.as_slice-kids.result.now c.kids.kid-index c.args.names.now c.kids.names c.name_marked.new.names c.kids-test.false c.as_slice-kids.ensures
    c.kids.invariant.named own)
    c.name_marked.ensures.named
