use Rattle.std.proofs.Common.{◌≡◌, ◌++◌, drop}
use Rattle.hc_flatsim.specs.Starting.{memories_among}
use Rattle.hc_flatsim.proofs.make.memories_among.Given as goal

abbrev pub invariant-vertices : goal.invariant-vertices
invariant-vertices l = l.ids.items ++ memories_among (drop l.vertex-index l.vertices) ≡ memories_among l.vertices
