-- A settling of what is made for an entry leaves settled numbers.
use Rattle.std.proofs.Common.{◌≡◌, ℕ, false, List, ◌∷◌, refl, subst}
use Rattle.hc_signal.specs.Occurrences.{Occurrence, HasCombLoop}
use Rattle.hc_signal.specs.Tree.{Tree}
use Rattle.hc_canon.specs.declared.form.EntryId.{EntryId}
use Rattle.hc_bench.specs.Simulation.{State, IsSettled}
use Rattle.hc_dbstate.specs.History.{History}
use Rattle.hc_dbstate.specs.Unfolding.{unfolding_of}
use Rattle.hc_layout.specs.Layout.{Layout}
use Rattle.hc_settling.specs.Compiled.{parts_at, tables_at}
use Rattle.hc_settling.specs.Known.{AreMarked, ArePlans, KeepsConstants, KeepsInputs}
use Rattle.hc_settling.proofs.Entries.{all_planned, all_tabled}
use Rattle.hc_settling.proofs.Tops.{settling_settles}
use Rattle.hc_settling.proofs.Whole.{settled_balanced}
use Rattle.hc_steps.specs.Plan.{Part}
use Rattle.hc_store.specs.declared.store.Store.{Store}
use Rattle.hc_store.specs.Given.{Given}
use Rattle.hc_store.specs.Scene.{Scene, SettlesAll, board, mark, number}
use Rattle.hc_traces.proofs.Settling.{some_settled}
use Rattle.hc_hiersite.specs.Made.{HasState, IsConsistent, IsMade, scene_of}
use Rattle.hc_hiersite.proofs.Shown.{made_shown}

module _ (h : History) (top : EntryId) (g : Given) (l : Layout) (state : State) (inputs : List ℕ) (old new : Store) (made : IsMade h top g l) (has_state : HasState h g l state)
    (ends : SettlesAll g old new) where
  abbrev S : Scene
  S = scene_of h top g l state inputs

  abbrev T : Tree
  T = unfolding_of h.entries top

  abbrev plans : List ℕ → List Part
  plans = parts_at h.entries g.plans top

  pub none_marked : (path : List ℕ) (part : ℕ) → mark S new.stale path part ≡ false
  none_marked = (ends S (made_shown h top g l made state inputs has_state) refl).1

  planned : ArePlans T plans
  planned = all_planned h made.legal top made.there g.plans made.compiled

  module _ (free : ¬ HasCombLoop T) (right : IsConsistent S (board S old)) where
    abbrev AllKept : (Occurrence → ℕ) → Type 0
    AllKept vals = IsSettled T state inputs vals × KeepsConstants T vals × KeepsInputs T inputs vals

    all_kept : AllKept (number S new.values)
    all_kept =
        let way = (ends S (made_shown h top g l made state inputs has_state) refl).0 in
        let v = some_settled T made.whole free state inputs in
        subst AllKept way.2 (settling_settles T plans (tables_at h.entries g.plans top) made.whole planned (all_tabled h made.legal top made.there g.plans made.compiled) state inputs v.0 v.1
        (board S old) way.0 way.1 right.marks right.constants right.inputs)

    pub made_settled : IsSettled T state inputs (number S new.values)
    made_settled = all_kept.0

    marked : AreMarked T plans state inputs (number S new.values) (mark S new.stale)
    marked p part r u = ((λ s c. settled_balanced T plans planned state inputs (number S new.values) made_settled p r part s c), (λ i b c. none_marked (i ∷ p) b))

    pub made_kept : IsConsistent S (board S new)
    made_kept = record { marks = marked; constants = all_kept.1; inputs = all_kept.2 }
