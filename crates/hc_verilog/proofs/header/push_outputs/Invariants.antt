use Rattle.std.proofs.Common.{◌≡◌, ◌++◌, drop, map}
use Rattle.std.specs.List.{zip}
use Rattle.hc_bits.specs.Digits.{lines_text}
use Rattle.hc_naming.specs.NameTable.{name_by}
use Rattle.hc_verilog.specs.Templates.{output_line, with_commas}
use Rattle.hc_verilog.proofs.header.push_outputs.Given as goal

-- what was written and the rest of the lines are all
abbrev pub invariant-loop-k : goal.invariant-loop-k
invariant-loop-k l =
    l.out.items ++ lines_text (with_commas (map (output_line (name_by l.names)) (drop l.k (zip l.ids l.ports))))
    ≡ l.initial.out.items ++ lines_text (with_commas (map (output_line (name_by l.names)) (zip l.ids l.ports)))
