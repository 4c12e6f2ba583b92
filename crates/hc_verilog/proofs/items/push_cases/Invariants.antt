use Rattle.std.proofs.Common.{◌≡◌, ◌++◌, drop}
use Rattle.hc_naming.specs.NameTable.{name_by}
use Rattle.hc_verilog.specs.Templates.{mux_text}
use Rattle.hc_verilog.proofs.items.push_cases.Given as goal

-- what was written and the rest of the cases are all
abbrev pub invariant-loop-number : goal.invariant-loop-number
invariant-loop-number l =
    l.out.items ++ mux_text (name_by l.names) l.sel_width l.sel l.number (drop l.number l.cases)
    ≡ l.initial.out.items ++ mux_text (name_by l.names) l.sel_width l.sel 0 l.cases
