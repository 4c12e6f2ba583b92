use Rattle.std.proofs.Common.{◌≡◌, ◌++◌, drop, map}
use Rattle.hc_naming.specs.NameTable.{name_by}
use Rattle.hc_naming.specs.ModuleNames.{name_of_id}
use Rattle.hc_verilog.specs.Templates.{comma_list}
use Rattle.hc_verilog.proofs.items.push_parts.Given as goal

-- what was written and the rest of the parts are all
abbrev pub invariant-loop-number : goal.invariant-loop-number
invariant-loop-number l =
    l.out.items ++ comma_list (map (name_of_id (name_by l.names)) (drop l.number l.parts))
    ≡ l.initial.out.items ++ comma_list (map (name_of_id (name_by l.names)) l.parts)
