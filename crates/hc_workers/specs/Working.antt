-- Rows of a plan that a pass finishes: what it has to know for that, and what it then knows and owns.
use Rattle.std.specs.Prelude.{◌≡◌, ◌≤◌, ◌+◌, ℕ, List, [], ◌∷◌, ◌++◌, length, slice_get, Option, Some, None, Result, IfOk, Vec}
use mathlib.Core.List.{IsPrefix}
use Rattle.hc_signal.specs.Member.{Has}
use Rattle.hc_signal.specs.Checked.{IsChecked}
use Rattle.hc_paths.specs.declared.kinds.Paths.{Paths}
use Rattle.hc_canon.specs.declared.form.EntryId.{EntryId}
use Rattle.hc_canon.specs.FormView.{FormView}
use Rattle.hc_dbstate.specs.declared.turns.Entered.{Entered}
use Rattle.hc_turn.specs.declared.logged.Logged.{Ghosts}
use Rattle.hc_turn.specs.declared.lock.Pass.{Pass}
use Rattle.hc_turn.specs.declared.lock.TurnLock.{TurnLock}
use Rattle.hc_turn.specs.declared.view.View.{View}
use Rattle.hc_turn.specs.Passes.{HoldsNothing, IsOf, known, seen, share}
use Rattle.hc_db.specs.OwnTurns.{KnowsForm, KnowsTurn}
use Rattle.hc_plan.specs.Finishing.{IsOutcome, Outcome}
use Rattle.hc_plan.specs.Hierarchies.{Done}
use Rattle.hc_plan.specs.Stepping.{outs_of}
use Rattle.hc_plan.specs.declared.kinds.PlanRow.{PlanRow}

-- ---- what a pass knows

-- the turns that the pass knew, it knows still
abbrev pub Keeps : View Entered → View Entered → Type 0
Keeps v w = (p : ℕ) (t : Entered) → KnowsTurn v p t → KnowsTurn w p t

-- the pass knows a turn of the entry of each row that is finished
abbrev pub KnowsOuts : View Entered → List Outcome → Type 0
KnowsOuts v outs = (k : ℕ) (x : Done) → slice_get outs k ≡ Some (Some x) → (form : FormView) × KnowsForm v x.0 form

-- ---- rows

-- the circuit of a row is checked, and the row has a child for each instance
abbrev pub IsReadyRow : PlanRow → Type 0
IsReadyRow row = IsChecked row.body.circuit × (length row.kids ≡ length row.body.circuit.instances)

-- at each of these places is such a row
abbrev pub AreReadyAt : List PlanRow → List ℕ → Type 0
AreReadyAt rows places = (k : ℕ) → Has places k → (row : PlanRow) × (slice_get rows k ≡ Some row) × IsReadyRow row

-- an outcome for the row at each of these places
abbrev pub AreOutcomesAt : (EntryId → FormView → Type 0) → List PlanRow → List Outcome → List ℕ → List Outcome → Type 0
AreOutcomesAt K rows outs [] [] = Unit {0}
AreOutcomesAt K rows outs [] (o ∷ os) = ⊥
AreOutcomesAt K rows outs (k ∷ ks) [] = ⊥
AreOutcomesAt K rows outs (k ∷ ks) (o ∷ os) = ((row : PlanRow) → slice_get rows k ≡ Some row → IsOutcome K outs row o) × AreOutcomesAt K rows outs ks os

-- a place of the log for each outcome of a finished row, in order: there is a turn with the row's entry
pub data AreTurnsOf (w : View Entered) : List Outcome → List ℕ → Type 0 where
  none_left : AreTurnsOf w [] []
  unfinished : {os : List Outcome} {ps : List ℕ} → AreTurnsOf w os ps → AreTurnsOf w (None ∷ os) ps
  finished : {os : List Outcome} {ps : List ℕ} {x : Done} {p : ℕ} (t : Entered) → KnowsTurn w p t → t.entry ≡ x.0 → AreTurnsOf w os ps → AreTurnsOf w (Some x ∷ os) (p ∷ ps)

-- A pass that knew v and now knows w owns one more place for each of these outcomes of a finished row, in order.
pub record Owns (v w : View Entered) (list : List Outcome) : Type 0 where
  pub places : List ℕ
  pub mine : w.mine ≡ v.mine ++ places
  pub turns : AreTurnsOf w list places

-- The rows at these places have these outcomes, and the pass owns their turns.
pub record AreFinishedAt (v w : View Entered) (rows : List PlanRow) (outs : List Outcome) (places : List ℕ) (list : List Outcome) : Type 0 where
  pub outcomes : AreOutcomesAt (KnowsForm w) rows outs places list
  pub owns : Owns v w list

-- ---- passes

module _ {S : Type 0} {G : Ghosts S Entered} where
  -- A pass of the lock, for so many workers, that may finish the rows at these places.
  pub record MayFinish (lock : TurnLock S Entered) (pass : Pass S Entered G) (workers : ℕ) (rows : List PlanRow) (outs : List Outcome) (places : List ℕ) : Type 0 where
    pub is_of : IsOf lock pass
    pub free : HoldsNothing pass
    pub some : 1 ≤ workers
    pub many : workers ≤ share pass
    pub knows : KnowsOuts (known pass) outs
    pub ready : AreReadyAt rows places

  -- the pass comes back, and knows what it knew
  pub record ComesBack (lock : TurnLock S Entered) (pass after : Pass S Entered G) : Type 0 where
    pub is_of : IsOf lock after
    pub free : HoldsNothing after
    pub share : share after ≡ share pass
    pub seen : IsPrefix (seen pass) (seen after)
    pub keeps : Keeps (known pass) (known after)

  -- two passes are one again, which knows what the first knew
  pub record IsJoined (lock : TurnLock S Entered) (one two after : Pass S Entered G) : Type 0 where
    pub is_of : IsOf lock after
    pub free : HoldsNothing after
    pub share : share after ≡ share one + share two
    pub seen : IsPrefix (seen one) (seen after)
    pub keeps : Keeps (known one) (known after)

  -- the rows at these places are finished, unless memory ran out
  abbrev pub Finishes : {E Z : Type 0} → Pass S Entered G → Pass S Entered G → List PlanRow → List Outcome → List ℕ → Result (Vec (Option (EntryId × Paths)) Z) E → Type 0
  Finishes pass after rows outs places result = IfOk result (λ list. AreFinishedAt (known pass) (known after) rows outs places (outs_of list.items))
