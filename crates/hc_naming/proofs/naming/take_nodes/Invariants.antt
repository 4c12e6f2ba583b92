use Rattle.std.proofs.Common.{◌++◌, map, filter, ◌+◌, drop}
use Rattle.std.specs.List.{enumerate_from}
use Rattle.hc_naming.specs.ModuleNames.{want_node}
use Rattle.hc_naming.specs.NameTable.{IsNaming, is_unmarked, from_memories}
use Rattle.hc_naming.proofs.naming.take_nodes.Given as goal

-- the names of the rest are still to be taken
abbrev pub invariant-loop-k : goal.invariant-loop-k
invariant-loop-k l =
    IsNaming l.form.circuit l.used l.names (map (want_node l.form.circuit) (filter (is_unmarked l.marks) (enumerate_from (l.first + l.k) (drop l.k l.rows))) ++ from_memories l.form.circuit)
