use Rattle.hc_cli.proofs.Kept.{called_of, in_order_of}
use Rattle.hc_cli.proofs.histories.elaborations_have_histories.Goals as goal

pub returns-clause-called : goal.returns-clause-called
returns-clause-called c h hier e legal for logs = called_of c.logs_have_the_turns.ensures h e legal logs c.entries_are_called.ensures hier for

pub returns-clause-history : goal.returns-clause-history
returns-clause-history c h hier e legal for logs =
    in_order_of c.logs_have_the_turns.ensures h e legal logs c.calls_stand_for_calls.ensures.elaborated c.calls_stand_for_calls.ensures.walked c.trees_have_one_entry.ensures
    c.entries_are_called.ensures hier for
