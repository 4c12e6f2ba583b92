use Rattle.std.proofs.Common.{◌≡◌, ◌+◌, ◌++◌, drop, map}
use Rattle.std.specs.List.{enumerate_from}
use Rattle.hc_bits.specs.Digits.{lines_text}
use Rattle.hc_naming.specs.NameTable.{name_by}
use Rattle.hc_verilog.specs.Templates.{input_line}
use Rattle.hc_verilog.proofs.header.push_inputs.Given as goal

-- what was written and the rest of the lines are all
abbrev pub invariant-loop-place : goal.invariant-loop-place
invariant-loop-place l =
    l.out.items ++ lines_text (map (input_line (name_by l.names)) (enumerate_from (0 + l.place) (drop l.place l.ports)))
    ≡ l.initial.out.items ++ lines_text (map (input_line (name_by l.names)) (enumerate_from 0 l.ports))
