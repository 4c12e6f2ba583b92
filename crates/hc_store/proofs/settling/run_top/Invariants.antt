use Rattle.std.proofs.Common.{◌≡◌, []}
use Rattle.std.specs.Prelude.{Some}
use Rattle.hc_settling.specs.Settling.{Board, Settles}
use Rattle.hc_store.specs.Scene.{Scene, Shows, board}
use Rattle.hc_store.specs.Stored.{Advances}
use Rattle.hc_store.proofs.settling.run_top.Given as goal

abbrev pub invariant-parts : goal.invariant-parts
invariant-parts g l = record {
  advances : Advances l.site l.fn.store l.store;
  settled : (s : Scene) (last : Board) → Shows s l.site → s.place [] ≡ Some 0 → Settles s.tree s.plans s.tables s.state s.inputs l.part (board s l.store) last
      → Settles s.tree s.plans s.tables s.state s.inputs 0 (board s l.fn.store) last;
}
