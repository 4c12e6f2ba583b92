use Rattle.std.proofs.Common.{◌++◌, map, drop}
use Rattle.std.specs.List.{zip}
use Rattle.hc_naming.specs.ModuleNames.{want_output}
use Rattle.hc_naming.specs.NameTable.{IsNaming, from_nodes}
use Rattle.hc_naming.proofs.naming.take_outputs.Given as goal

-- the names of the rest are still to be taken
abbrev pub invariant-loop-k : goal.invariant-loop-k
invariant-loop-k l =
    IsNaming l.form.circuit l.used l.names (map want_output (drop l.k (zip l.ids l.ports)) ++ from_nodes l.form.circuit)
