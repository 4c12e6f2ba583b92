use Rattle.std.proofs.Common.{◌≡◌, ◌+◌, ◌++◌, drop}
use Rattle.std.specs.List.{enumerate_from}
use Rattle.hc_bits.specs.Digits.{lines_text}
use Rattle.hc_naming.specs.NameTable.{name_by}
use Rattle.hc_verilog.specs.Results.{result_name}
use Rattle.hc_verilog.specs.ModuleText.{module_of}
use Rattle.hc_verilog.specs.Templates.{all_instance_lines}
use Rattle.hc_verilog.proofs.instances.push_instances.Given as goal

-- what was written and the rest of the lines are all
abbrev pub invariant-loop-place : goal.invariant-loop-place
invariant-loop-place l =
    l.out.items ++ lines_text (all_instance_lines (name_by l.names) (module_of l.modules l.kids) (result_name (name_by l.names) l.results.entries)
    (enumerate_from (0 + l.place) (drop l.place l.instances)))
    ≡ l.initial.out.items ++ lines_text (all_instance_lines (name_by l.names) (module_of l.modules l.kids) (result_name (name_by l.names) l.results.entries) (enumerate_from 0 l.instances))
