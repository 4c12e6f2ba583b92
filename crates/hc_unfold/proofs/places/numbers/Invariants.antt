use Rattle.std.proofs.Common.{◌≡◌, map, drop}
use Rattle.hc_unfold.specs.Signals.{number}
use Rattle.hc_unfold.specs.Places.{numbers}
use Rattle.hc_unfold.proofs.Lists.{onto}
use Rattle.hc_unfold.proofs.places.numbers.Given as goal

-- the values so far and those that are left are all
abbrev pub invariant-nums : goal.invariant-nums
invariant-nums l = onto l.values.items (numbers (map (number l.env) (drop l.num-index l.nums))) ≡ numbers (map (number l.env) l.nums)
