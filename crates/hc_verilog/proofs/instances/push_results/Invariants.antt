use Rattle.std.proofs.Common.{◌≡◌, ◌++◌, drop, map}
use Rattle.std.specs.List.{enumerate_from}
use Rattle.hc_bits.specs.Digits.{lines_text}
use Rattle.hc_naming.specs.NameTable.{name_by}
use Rattle.hc_verilog.specs.Results.{result_name}
use Rattle.hc_verilog.specs.Templates.{result_line, with_commas}
use Rattle.hc_verilog.proofs.instances.push_results.Given as goal

-- what was written and the rest of the lines are all
abbrev pub invariant-loop-number : goal.invariant-loop-number
invariant-loop-number l =
    l.out.items ++ lines_text (with_commas (map (result_line (result_name (name_by l.names) l.results.entries l.instance)) (drop l.number (enumerate_from 0 l.ports))))
    ≡ l.initial.out.items ++ lines_text (with_commas (map (result_line (result_name (name_by l.names) l.results.entries l.instance)) (enumerate_from 0 l.ports)))
