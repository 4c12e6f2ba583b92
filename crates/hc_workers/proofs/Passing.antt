-- Passes that come back.
use Rattle.std.proofs.Common.{ℕ, ◌<◌, List, [], ◌∷◌, length, refl, ◌∙◌, get_or}
use Rattle.std.proofs.lemmas.Option.{slice_get-get_or, slice_get_within}
use Rattle.hc_signal.specs.Member.{first, later}
use Rattle.hc_dbstate.specs.declared.turns.Entered.{Entered}
use Rattle.hc_turn.specs.declared.logged.Logged.{Ghosts}
use Rattle.hc_turn.specs.declared.lock.Pass.{Pass}
use Rattle.hc_turn.specs.declared.lock.TurnLock.{TurnLock}
use Rattle.hc_turn.specs.Passes.{HoldsNothing, IsOf, known, seen}
use Rattle.hc_plan.specs.declared.kinds.PlanRow.{PlanRow}
use Rattle.hc_workers.specs.Working.{AreReadyAt, ComesBack}
use Rattle.hc_workers.proofs.Knowing.{has_at, keeps_through, prefix_itself, prefix_through}

module _ {S : Type 0} {G : Ghosts S Entered} (lock : TurnLock S Entered) where
  -- a pass that did nothing
  pub unused : (pass : Pass S Entered G) → IsOf lock pass → HoldsNothing pass → ComesBack lock pass pass
  unused pass is_of free = record { is_of = is_of; free = free; share = refl; seen = prefix_itself (seen pass); keeps = λ p t knows. knows }

  -- one step after another
  pub back_through : (pass mid after : Pass S Entered G) → ComesBack lock pass mid → ComesBack lock mid after → ComesBack lock pass after
  back_through pass mid after a b = record {
    is_of = b.is_of;
    free = b.free;
    share = b.share ∙ a.share;
    seen = prefix_through (seen pass) (seen mid) (seen after) a.seen b.seen;
    keeps = keeps_through (known pass) (known mid) (known after) a.keeps b.keeps;
  }

-- one of the rows that are ready
pub ready_one : (rows : List PlanRow) (places : List ℕ) (i : ℕ) → i < length places → AreReadyAt rows places → AreReadyAt rows (get_or places i 0 ∷ [])
ready_one rows places i l ready k first = ready k (has_at places i k (slice_get-get_or places i 0 l))
ready_one rows places i l ready k (later h) = elim h [ ]

pub row_within : (rows : List PlanRow) (place : ℕ) → AreReadyAt rows (place ∷ []) → place < length rows
row_within rows place ready = (let r : _ = ready place first in slice_get_within rows place r.0 r.1)
