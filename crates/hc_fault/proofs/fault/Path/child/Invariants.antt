use Rattle.std.proofs.Common.{◌≡◌, ◌++◌, drop}
use Rattle.hc_fault.proofs.fault.Path.child.Given as goal

-- the steps so far, and those that are left, are the path's
abbrev pub invariant-loop-own : goal.invariant-loop-own
invariant-loop-own l = l.steps ++ drop l.own-index l.own-items ≡ l.self.steps
