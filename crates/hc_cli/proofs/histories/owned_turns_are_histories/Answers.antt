use Rattle.hc_cli.proofs.Kept.{owned_called, owned_history}
use Rattle.hc_cli.proofs.histories.owned_turns_are_histories.Goals as goal

pub returns-clause-hierarchy : goal.returns-clause-hierarchy
returns-clause-hierarchy c d w hier h owns finds = owns.hierarchy h finds

pub returns-clause-called : goal.returns-clause-called
returns-clause-called c d w hier h legal owns finds order = owned_called c.logs_have_the_turns.ensures d w hier h legal owns finds order c.entries_are_called.ensures

pub returns-clause-history : goal.returns-clause-history
returns-clause-history c d w hier h legal owns finds order =
    owned_history c.logs_have_the_turns.ensures d w hier h legal owns finds order c.calls_stand_for_calls.ensures.elaborated c.calls_stand_for_calls.ensures.walked
    c.trees_have_one_entry.ensures c.entries_are_called.ensures
