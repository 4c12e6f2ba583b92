use Rattle.std.proofs.Common.{map, filter, ◌+◌, drop}
use Rattle.std.specs.List.{enumerate_from}
use Rattle.hc_naming.specs.ModuleNames.{want_cell, is_operation_row}
use Rattle.hc_naming.specs.NameTable.{IsNaming}
use Rattle.hc_naming.proofs.naming.take_cells.Given as goal

-- the names of the rest are still to be taken
abbrev pub invariant-loop-k : goal.invariant-loop-k
invariant-loop-k l =
    IsNaming l.form.circuit l.used l.names (map (want_cell l.form.circuit) (filter is_operation_row (enumerate_from (l.first + l.k) (drop l.k l.rows))))
