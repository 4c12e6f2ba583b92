use Rattle.hc_cli.proofs.DueLaws.{due_once}
use Rattle.hc_cli.proofs.due_laws.one_due.Goals as goal

pub returns : goal.returns
returns c = due_once c.one_job.ensures c.texts_have_one_answer.ensures.design c.texts_have_one_answer.ensures.fault c.texts_have_one_answer.ensures.one
    c.designs_elaborate_once.ensures c.elaborated_trees.ensures.free c.elaborated_trees_are_whole.ensures c.runs_are_single.ensures c.outputs_are_single.ensures
