use Rattle.std.proofs.Common.{◌≡◌, ◌++◌, map, drop}
use Rattle.std.specs.Prelude.{slice_index_or}
use Rattle.hc_signal.specs.declared.signal.NodeId.{NodeId}
use Rattle.hc_paths.proofs.masks.masks_at.Given as goal

abbrev pub invariant-ids : goal.invariant-ids
invariant-ids l = l.list.items ++ map (λ (id : NodeId). slice_index_or l.masks id.0 0) (drop l.id-index l.ids) ≡ map (λ (id : NodeId). slice_index_or l.masks id.0 0) l.ids
