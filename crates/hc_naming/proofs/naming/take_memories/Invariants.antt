use Rattle.std.proofs.Common.{◌++◌, map, drop}
use Rattle.std.specs.List.{enumerate_from}
use Rattle.hc_naming.specs.ModuleNames.{want_memory}
use Rattle.hc_naming.specs.NameTable.{IsNaming, from_instances}
use Rattle.hc_naming.proofs.naming.take_memories.Given as goal

-- the names of the rest are still to be taken
abbrev pub invariant-loop-k : goal.invariant-loop-k
invariant-loop-k l =
    IsNaming l.form.circuit l.used l.names (map want_memory (enumerate_from l.k (drop l.k l.memories)) ++ from_instances l.form.circuit)
