use Rattle.hc_canon.proofs.Canonical.{reached_node, reached_mem, reached_inst}
use Rattle.hc_trees.proofs.canonical.canonical_rows_are_reached.Goals as goal

pub returns-clause-nodes : goal.returns-clause-nodes
returns-clause-nodes c g n is = reached_node g is n

pub returns-clause-memories : goal.returns-clause-memories
returns-clause-memories c g m is = reached_mem g is m

pub returns-clause-instances : goal.returns-clause-instances
returns-clause-instances c g i is = reached_inst g is i
