use Rattle.std.proofs.Common.{◌≡◌, [], ◌∷◌, ◌++◌, map, take}
use Rattle.hc_values.specs.Rows.{zeros_of_memory}
use Rattle.hc_hierstate.proofs.words.push_row.Given as goal

abbrev pub invariant-memories : goal.invariant-memories
invariant-memories l = l.rows ≡ l.fn.rows ++ map zeros_of_memory (take l.memory-index l.memories) ∷ []
