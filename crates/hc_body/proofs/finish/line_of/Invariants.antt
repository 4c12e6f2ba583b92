use Rattle.std.proofs.Common.{◌≡◌, drop}
use Rattle.hc_body.specs.BodyOf.{line_of}
use Rattle.hc_body.proofs.finish.line_of.Given as goal

-- the line is that of the declarations that are left
abbrev pub invariant-declared : goal.invariant-declared
invariant-declared l = line_of l.node (drop l.id-index l.declared) ≡ line_of l.node l.declared
