use Rattle.std.proofs.Common.{◌≡◌, ◌+◌, ◌++◌, drop, map, filter}
use Rattle.std.specs.List.{enumerate_from}
use Rattle.hc_bits.specs.Digits.{lines_text}
use Rattle.hc_naming.specs.NameTable.{name_by, is_unmarked}
use Rattle.hc_verilog.specs.Templates.{declaration}
use Rattle.hc_verilog.proofs.declarations.push_declarations.Given as goal

-- what was written and the rest of the lines are all
abbrev pub invariant-loop-k : goal.invariant-loop-k
invariant-loop-k l =
    l.out.items ++ lines_text (map (declaration (name_by l.names)) (filter (is_unmarked l.marks) (enumerate_from (l.first + l.k) (drop l.k l.rows))))
    ≡ l.initial.out.items ++ lines_text (map (declaration (name_by l.names)) (filter (is_unmarked l.marks) (enumerate_from l.first l.rows)))
