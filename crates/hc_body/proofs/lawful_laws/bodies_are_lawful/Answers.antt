use Rattle.hc_body.proofs.Lawful.{body_lawful}
use Rattle.hc_body.proofs.lawful_laws.bodies_are_lawful.Goals as goal

pub returns : goal.returns
returns c d circuit args path b of =
    body_lawful d (c.statements_keep_form.ensures d) c.heads_make_form.ensures path c.formed_graphs_are_lawful.ensures circuit args b of
