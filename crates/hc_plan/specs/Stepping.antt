-- What a row gives over what became of its children.
use Rattle.std.specs.Prelude.{◌≡◌, ℕ, List, [], ◌∷◌, map, Option, Some, None, Vec}
use Rattle.hc_signal.specs.Tree.{Tree, tree}
use Rattle.hc_signal.specs.Occurrences.{HasCombLoop, AreMasks}
use Rattle.hc_paths.specs.declared.kinds.Paths.{Paths}
use Rattle.hc_paths.specs.Kids as paths
use Rattle.hc_canon.specs.declared.form.EntryId.{EntryId}
use Rattle.hc_canon.specs.FormView.{FormView, IsCanonOf}
use Rattle.hc_plan.specs.Hierarchies.{Done}
use Rattle.hc_plan.specs.Finishing.{Outcome, HaveMasks, all_done, ids_of, masks_of}
use Rattle.hc_plan.specs.declared.kinds.PlanRow.{PlanRow}

-- an outcome, seen by its masks
abbrev pub outcome_of : Option (EntryId × Paths) → Outcome
outcome_of None = None
outcome_of (Some o) = Some (o.0, o.1.masks)

abbrev pub outs_of : List (Option (EntryId × Paths)) → List Outcome
outs_of [] = []
outs_of (o ∷ os) = outcome_of o ∷ outs_of os

-- the entries and the paths are those of these kids
abbrev pub AreKids : List Done → List EntryId → List Paths → Type 0
AreKids kids ids ps = (ids ≡ ids_of kids) × (paths.masks_of ps ≡ masks_of kids)

-- the kids where each is finished, or that one is not
abbrev pub AreKidsOf : {Z : Type 0} → Option (List Done) → Option (Vec EntryId Z × Vec Paths Z) → Type 0
AreKidsOf None None = Unit {0}
AreKidsOf None (Some found) = ⊥
AreKidsOf (Some kids) None = ⊥
AreKidsOf (Some kids) (Some found) = AreKids kids found.0.items found.1.items

-- the form of the row over its kids, and its masks; its tree has no loop
pub record IsReady (outs : List Outcome) (row : PlanRow) (form : FormView) (masks : List ℕ) : Type 0 where
  pub kids : List Done
  pub done : all_done outs row.kids ≡ Some kids
  pub canon : IsCanonOf row.body.circuit (ids_of kids) form
  pub right : (trees : ℕ → Tree) → HaveMasks row.body.circuit kids trees → AreMasks (tree row.body.circuit trees) masks
  pub free : (trees : ℕ → Tree) → HaveMasks row.body.circuit kids trees → ¬ HasCombLoop (tree row.body.circuit trees)

-- its tree has a loop
pub record IsLooped (outs : List Outcome) (row : PlanRow) : Type 0 where
  pub kids : List Done
  pub done : all_done outs row.kids ≡ Some kids
  pub loop : (trees : ℕ → Tree) → HaveMasks row.body.circuit kids trees → HasCombLoop (tree row.body.circuit trees)

-- what is done of rows, seen by masks
abbrev pub dones_of : List (EntryId × Paths) → List Done
dones_of done = map (λ (x : EntryId × Paths). (x.0, x.1.masks)) done
