use Rattle.std.proofs.Common.{◌≡◌, ◌++◌, drop}
use Rattle.hc_statements.specs.PortWidths.{inputs_of, outputs_of}
use Rattle.hc_statements.proofs.heads.split.Given as goal

-- the ports so far and those of the heads that are left are all
abbrev pub invariant-heads : goal.invariant-heads
invariant-heads l = record {
  inputs : l.inputs ++ inputs_of (drop l.at l.heads) (drop l.at l.widths) ≡ inputs_of l.heads l.widths;
  outputs : l.outputs ++ outputs_of (drop l.at l.heads) (drop l.at l.widths) ≡ outputs_of l.heads l.widths;
}
