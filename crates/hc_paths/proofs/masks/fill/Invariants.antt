use Rattle.std.proofs.Common.{◌≡◌, take, reverse}
use Rattle.hc_paths.specs.Fanin.{filled}
use Rattle.hc_paths.specs.Kids.{masks_of}
use Rattle.hc_paths.proofs.masks.fill.Given as goal

abbrev pub invariant-order : goal.invariant-order
invariant-order l = l.masks.items ≡ filled l.circuit (masks_of l.kids) (reverse (take l.id-index l.order))
