use Rattle.hc_cli.proofs.SomeDue.{some_due}
use Rattle.hc_cli.proofs.due_laws.something_is_due.Goals as goal

pub returns : goal.returns
returns c =
    some_due c.words_are_decided.ensures.job c.texts_have_one_answer.ensures.some c.designs_have_answers.ensures c.elaborated_trees.ensures.free c.elaborated_trees_are_whole.ensures
    c.steps_are_for_the_inputs.ensures c.benches_have_runs.ensures.runs c.verilog_texts_exist.ensures c.flat_texts_exist.ensures c.summaries_exist.ensures
