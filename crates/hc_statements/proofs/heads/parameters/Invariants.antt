use Rattle.std.proofs.Common.{◌≡◌, [], drop}
use Rattle.hc_statements.specs.PortWidths.{bound}
use Rattle.hc_statements.proofs.heads.parameters.Given as goal

-- those left, bound onto those so far, are all
abbrev pub invariant-params : goal.invariant-params
invariant-params l = bound (drop l.at l.params) (drop l.at l.args) l.env ≡ bound l.params l.args []
