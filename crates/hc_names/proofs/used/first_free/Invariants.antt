use Rattle.std.specs.Map.{keys_of}
use Rattle.hc_names.specs.Numbers.{AreGivenBelow}
use Rattle.hc_names.proofs.used.first_free.Given as goal

-- the names with the numbers before this one were given
abbrev pub invariant-loop-number : goal.invariant-loop-number
invariant-loop-number l = AreGivenBelow (keys_of l.names.entries) l.name l.number
