use Rattle.std.proofs.Common.{◌≡◌, drop}
use Rattle.hc_statements.specs.Instances.{all_connected}
use Rattle.hc_statements.proofs.Connected.{onto}
use Rattle.hc_statements.proofs.instances.all_connected.Given as goal

-- the nodes so far and those that are left are all
abbrev pub invariant-done : goal.invariant-done
invariant-done l = onto l.nodes.items (all_connected (drop l.node-index l.done)) ≡ all_connected l.done
