use Rattle.std.proofs.Common.{◌≡◌, [], drop}
use Rattle.hc_statements.specs.PortWidths.{repeats}
use Rattle.hc_statements.proofs.heads.repeats.Given as goal

-- the rest repeats a name where the whole does
abbrev pub invariant-names : goal.invariant-names
invariant-names l = repeats l.taken (drop l.name-index l.names) ≡ repeats [] l.names
