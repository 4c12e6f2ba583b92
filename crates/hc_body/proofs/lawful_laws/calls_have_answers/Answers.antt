use Rattle.hc_body.proofs.Lawful.{call_answered}
use Rattle.hc_body.proofs.lawful_laws.calls_have_answers.Goals as goal

pub returns : goal.returns
returns c d circuit args path =
    call_answered d (c.statements_keep_form.ensures d) c.heads_make_form.ensures path c.formed_graphs_are_lawful.ensures c.one_verdict.ensures.some circuit args
