use Rattle.std.proofs.Common.{◌≡◌, ℕ, List, drop, map}
use Rattle.std.specs.Prelude.{Some}
use Rattle.hc_steps.specs.Views.{step_view}
use Rattle.hc_settling.specs.Settling.{Board}
use Rattle.hc_store.specs.Scene.{Scene, Shows, WalksIn, board}
use Rattle.hc_store.specs.Stored.{Advances}
use Rattle.hc_store.proofs.Sites.{entry_number}
use Rattle.hc_store.proofs.parts.+run.Given as goal

abbrev pub decreases-run : goal.decreases-run
decreases-run g l = entry_number l.site.now.entries l.p

abbrev pub invariant-steps : goal.invariant-steps
invariant-steps g l = record {
  advances : Advances l.site l.fn.store l.store;
  walked : (s : Scene) (path : List ℕ) (last : Board) → Shows s l.site → s.place path ≡ Some l.p
      → WalksIn s path l.part (drop l.step-index (map step_view l.steps)) (board s l.store) last
      → WalksIn s path l.part (map step_view l.steps) (board s l.fn.store) last;
}
