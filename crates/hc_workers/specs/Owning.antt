-- What a pass owns of the turns of an elaborated design, and the hierarchy in each history that the pass finds.
use Rattle.std.specs.Prelude.{◌≡◌, ℕ, List, ◌++◌, length, slice_get, filter_map, option_map, IsPermutation, Ok}
use Rattle.hc_canon.specs.declared.form.EntryId.{EntryId}
use Rattle.hc_lang.specs.declared.tree.Design.{Design}
use Rattle.hc_turn.specs.declared.view.View.{View}
use Rattle.hc_dbstate.specs.declared.hier.Hier.{Hier}
use Rattle.hc_dbstate.specs.declared.turns.Entered.{Entered}
use Rattle.hc_dbstate.specs.History.{History, log}
use Rattle.hc_db.specs.Inserting.{Finds}
use Rattle.hc_plan.specs.Elaborates.{Elaborated, ElaboratedCall, DesignElaborates}
use Rattle.hc_plan.specs.Distinct.{AreDistinct}
use Rattle.hc_plan.specs.Hierarchies.{IsHierarchyFor, AreEntriesOf}

-- the entries of the turns at these places of the log
abbrev pub entries_at : List Entered → List ℕ → List EntryId
entries_at turns places = filter_map (λ (p : ℕ). option_map (λ (t : Entered). t.entry) (slice_get turns p)) places

-- A pass that knew v and now knows w owns one more place for each distinct call of the walk of the elaborated design, in some
-- order. In each history that it finds, these places have turns with the entries of the calls, and the hierarchy stands for what
-- the design elaborates to.
pub record OwnsDistinct (d : Design) (v w : View Entered) (h : Hier) : Type 0 where
  pub e : Elaborated
  pub elaborates : DesignElaborates d (Ok e)
  pub firsts : List ElaboratedCall
  pub distinct : AreDistinct e.calls firsts
  pub order : List ElaboratedCall
  pub same : IsPermutation order firsts
  pub places : List ℕ
  pub mine : w.mine ≡ v.mine ++ places
  pub many : length places ≡ length order
  pub hierarchy : (g : History) → Finds w g → IsHierarchyFor g.entries h e
  pub turns : (g : History) → Finds w g → AreEntriesOf g.entries (entries_at (log g) places) order
