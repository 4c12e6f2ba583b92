use Rattle.std.proofs.Common.{◌≡◌, ◌++◌, drop, map}
use Rattle.hc_bits.specs.Digits.{lines_text}
use Rattle.hc_naming.specs.NameTable.{name_by}
use Rattle.hc_verilog.specs.Templates.{write_line}
use Rattle.hc_verilog.proofs.memories.push_writes.Given as goal

-- what was written and the rest of the lines are all
abbrev pub invariant-loop-port : goal.invariant-loop-port
invariant-loop-port l =
    l.out.items ++ lines_text (map (write_line (name_by l.names) l.memory) (drop l.port-index l.ports))
    ≡ l.initial.out.items ++ lines_text (map (write_line (name_by l.names) l.memory) l.ports)
