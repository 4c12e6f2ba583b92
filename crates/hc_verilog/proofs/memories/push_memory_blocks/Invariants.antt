use Rattle.std.proofs.Common.{◌≡◌, ◌+◌, ◌++◌, drop}
use Rattle.std.specs.Prelude.{flat_map}
use Rattle.std.specs.List.{enumerate_from}
use Rattle.hc_bits.specs.Digits.{lines_text}
use Rattle.hc_naming.specs.NameTable.{name_by}
use Rattle.hc_verilog.specs.Templates.{memory_lines}
use Rattle.hc_verilog.proofs.memories.push_memory_blocks.Given as goal

-- what was written and the rest of the lines are all
abbrev pub invariant-loop-place : goal.invariant-loop-place
invariant-loop-place l =
    l.out.items ++ lines_text (flat_map (memory_lines (name_by l.names)) (enumerate_from (0 + l.place) (drop l.place l.memories)))
    ≡ l.initial.out.items ++ lines_text (flat_map (memory_lines (name_by l.names)) (enumerate_from 0 l.memories))
