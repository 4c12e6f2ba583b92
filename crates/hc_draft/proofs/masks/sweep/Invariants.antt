use Rattle.std.proofs.Common.{◌≡◌, reverse}
use Rattle.std.specs.Slice.Iter.{iter_rest}
use Rattle.std.specs.Iterator.Adapters.{rev_source}
use Rattle.hc_paths.specs.Fanin.{local_fanin}
use Rattle.hc_paths.specs.Kids.{masks_of}
use Rattle.hc_draft.specs.Needs.{swept}
use Rattle.hc_draft.proofs.masks.sweep.Given as goal

-- what is left of the order still gives
abbrev pub invariant-order : goal.invariant-order
invariant-order l =
    swept (local_fanin l.circuit (masks_of l.kids)) (reverse (iter_rest (rev_source l.id-iterator))) l.masks.items ≡ swept (local_fanin l.circuit (masks_of l.kids))
    (reverse l.order) l.initial.masks.items
