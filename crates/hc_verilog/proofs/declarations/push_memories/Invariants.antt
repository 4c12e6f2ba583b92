use Rattle.std.proofs.Common.{◌≡◌, ◌+◌, ◌++◌, drop, map}
use Rattle.std.specs.List.{enumerate_from}
use Rattle.hc_bits.specs.Digits.{lines_text}
use Rattle.hc_naming.specs.NameTable.{name_by}
use Rattle.hc_verilog.specs.Templates.{memory_declaration}
use Rattle.hc_verilog.proofs.declarations.push_memories.Given as goal

-- what was written and the rest of the lines are all
abbrev pub invariant-loop-place : goal.invariant-loop-place
invariant-loop-place l =
    l.out.items ++ lines_text (map (memory_declaration (name_by l.names)) (enumerate_from (0 + l.place) (drop l.place l.memories)))
    ≡ l.initial.out.items ++ lines_text (map (memory_declaration (name_by l.names)) (enumerate_from 0 l.memories))
