use Rattle.std.proofs.Common.{◌≡◌, ◌++◌, map}
use Rattle.std.specs.List.{zip}
use Rattle.std.specs.Slice.Iter.{iter_rest}
use Rattle.hc_bits.specs.Digits.{lines_text}
use Rattle.hc_naming.specs.NameTable.{name_by}
use Rattle.hc_verilog.specs.Templates.{connection_line}
use Rattle.hc_verilog.proofs.instances.push_connections.Given as goal

-- what was written and the rest of the lines are all
abbrev pub invariant-loop-port : goal.invariant-loop-port
invariant-loop-port l =
    l.out.items ++ lines_text (map (connection_line (name_by l.names)) (zip (iter_rest l.port-iterator.a) (iter_rest l.port-iterator.b)))
    ≡ l.initial.out.items ++ lines_text (map (connection_line (name_by l.names)) (zip l.ports l.ids))
