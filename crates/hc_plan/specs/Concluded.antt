-- The end of an elaboration over the rows of its plan.
use Rattle.std.specs.Prelude.{◌≡◌, ◌<◌, ℕ, suc, List, length, map, slice_get, Option, Some, None}
use Rattle.hc_canon.specs.declared.form.EntryId.{EntryId}
use Rattle.hc_dbstate.specs.declared.hier.Hier.{Hier}
use Rattle.hc_dbstate.specs.Elaboration.{hier_view}
use Rattle.hc_lang.specs.declared.tree.Design.{Design}
use Rattle.hc_paths.specs.declared.kinds.Paths.{Paths}
use Rattle.hc_plan.specs.Finishing.{Outcome}
use Rattle.hc_plan.specs.Hierarchies.{Done, IsHierAt}
use Rattle.hc_plan.specs.Stepping.{dones_of, outs_of}
use Rattle.hc_plan.specs.declared.ending.End.{End}
use Rattle.hc_plan.specs.declared.ending.End.TheVariants.{Finished, OpenAt}
use Rattle.hc_plan.specs.declared.kinds.Plan.{Plan}

-- the rows below a place are finished
abbrev pub AreFinishedBelow : List Outcome → ℕ → Type 0
AreFinishedBelow outs n = (j : ℕ) → j < n → (y : Done) × (slice_get outs j ≡ Some (Some y))

-- what is done of rows that are all finished, or the first of them that is not
abbrev pub IsEndOf : List Outcome → End → Type 0
IsEndOf outs (Finished done) = outs ≡ map (λ (x : Done). Some x) (dones_of done)
IsEndOf outs (OpenAt k) = (slice_get outs k ≡ Some None) × AreFinishedBelow outs k

-- Each row is finished, and the hierarchy is that of the last row, with what became of the rows.
pub record IsConcluded (d : Design) (plan : Plan) (outs : List (Option (EntryId × Paths))) (h : Hier) : Type 0 where
  pub whole : plan.stop ≡ None
  pub done : List Done
  pub many : length done ≡ length plan.rows
  pub same : (j : ℕ) (x : Done) → slice_get done j ≡ Some x → slice_get (outs_of outs) j ≡ Some (Some x)
  pub all : AreFinishedBelow (outs_of outs) (length plan.rows)
  pub at : (k : ℕ) → suc k ≡ length plan.rows → IsHierAt d plan.rows done k (hier_view h)
