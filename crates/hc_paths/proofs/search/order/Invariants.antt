use Rattle.std.proofs.Common.{◌+◌, length}
use Rattle.hc_paths.specs.Fanin.{local_fanin}
use Rattle.hc_paths.specs.Kids.{masks_of}
use Rattle.hc_paths.specs.Search.{IsSearch, left}
use Rattle.hc_paths.proofs.search.order.Given as goal

abbrev pub invariant-steps : goal.invariant-steps
invariant-steps l = IsSearch (length l.circuit.nodes) (local_fanin l.circuit (masks_of l.kids)) l.roots l.search.colours.items l.search.stack l.search.order

abbrev pub decreases-steps : goal.decreases-steps
decreases-steps l = left (local_fanin l.circuit (masks_of l.kids)) 0 l.search.colours.items + length l.search.stack
