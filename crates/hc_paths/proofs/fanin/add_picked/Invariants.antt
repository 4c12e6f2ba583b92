use Rattle.std.proofs.Common.{◌≡◌, ◌++◌, drop}
use Rattle.hc_paths.specs.Fanin.{picked}
use Rattle.hc_paths.proofs.fanin.add_picked.Given as goal

abbrev pub invariant-conns : goal.invariant-conns
invariant-conns l = l.ids.items ++ picked l.rest (drop l.id-index l.conns) ≡ l.initial.ids.items ++ picked l.mask l.conns
