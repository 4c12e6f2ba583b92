use Rattle.std.proofs.Common.{◌≡◌, ◌+◌, ◌++◌, drop}
use Rattle.std.specs.Prelude.{flat_map}
use Rattle.std.specs.List.{enumerate_from}
use Rattle.hc_bits.specs.Digits.{lines_text}
use Rattle.hc_naming.specs.NameTable.{name_by}
use Rattle.hc_verilog.specs.Templates.{item}
use Rattle.hc_verilog.proofs.items.push_items.Given as goal

-- what was written and the rest of the items are all
abbrev pub invariant-loop-k : goal.invariant-loop-k
invariant-loop-k l =
    l.out.items ++ lines_text (flat_map (item (name_by l.names) l.circuit) (enumerate_from (l.first + l.k) (drop l.k l.rows)))
    ≡ l.initial.out.items ++ lines_text (flat_map (item (name_by l.names) l.circuit) (enumerate_from l.first l.rows))
