use Rattle.std.proofs.Common.{◌++◌, map, drop}
use Rattle.std.specs.List.{enumerate_from}
use Rattle.hc_naming.specs.ModuleNames.{want_input}
use Rattle.hc_naming.specs.NameTable.{IsNaming, from_outputs}
use Rattle.hc_naming.proofs.naming.take_inputs.Given as goal

-- the names of the rest are still to be taken
abbrev pub invariant-loop-k : goal.invariant-loop-k
invariant-loop-k l =
    IsNaming l.form.circuit l.used l.names (map want_input (enumerate_from l.k (drop l.k l.ports)) ++ from_outputs l.form.circuit)
