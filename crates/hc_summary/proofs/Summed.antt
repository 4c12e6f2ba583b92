-- The counts of a hierarchy are those of the design that it stands for.
use Rattle.std.proofs.Common.{◌≡◌, ℕ, Bool, List, length, sym, ap, subst, ◌∙◌}
use Rattle.std.specs.Prelude.{sum_by}
use Rattle.hc_bench.specs.declared.kinds.Step.{Step}
use Rattle.hc_bench.specs.Listing.{CycleRow}
use Rattle.hc_bench.specs.Steps.{cycles_of}
use Rattle.hc_bench.specs.Trace.{IsRun}
use Rattle.hc_dbstate.specs.declared.hier.Hier.{Hier}
use Rattle.hc_dbstate.specs.Elaboration.{hier_view}
use Rattle.hc_dbstate.specs.History.{History, IsLegal}
use Rattle.hc_plan.specs.declared.sums.Sums.{Sums}
use Rattle.hc_plan.specs.Elaborates.{Elaborated}
use Rattle.hc_plan.specs.Hierarchies.{AreCalled, IsHierarchyFor}
use Rattle.hc_dbstate.specs.Uses.{AreUses}
use Rattle.hc_summary.specs.Kinds.{IsNumberOfKinds}
use Rattle.hc_summary.specs.Summary.{Counts, IsCallTree, IsReachedTree, IsSummary, summary_text}
use Rattle.hc_summary.proofs.CalledEntries.{HaveCalls, StandForCalls, entries_number}
use Rattle.hc_summary.proofs.CycleRows.{run_rows}
use Rattle.hc_summary.proofs.Marked.{marked}
use Rattle.hc_summary.proofs.UsedTrees.{TopIsThere, UsedAreCalled, modules_number}

-- what the counts are taken from
pub record AreTakenFrom (h : History) (hier : Hier) (marks : List Bool) (steps : List Step) (c : Counts) : Type 0 where
  pub instances : c.instances ≡ (hier_view hier).own.instances
  pub entries : c.entries ≡ length h.entries
  pub modules : c.modules ≡ marked marks
  pub weight : c.weight ≡ (hier_view hier).own.weight
  pub words : c.words ≡ (hier_view hier).own.words
  pub cycles : c.cycles ≡ sum_by cycles_of steps

pub summed : StandForCalls → HaveCalls → TopIsThere → UsedAreCalled → (h : History) (hier : Hier) (marks : List Bool) (steps : List Step) (c : Counts) (text : List ℕ)
    → IsLegal h → AreUses h.entries (hier_view hier).own.entry marks → AreTakenFrom h hier marks steps c → text ≡ summary_text c
    → (of : Elaborated) (rows : List CycleRow) → IsHierarchyFor h.entries hier of → AreCalled h.entries hier → IsRun of.tree steps rows → IsSummary of rows text
summed stand stood_for top_there used_called h hier marks steps c text legal uses from is of rows for called run = (
  c,
  record {
    instances = from.instances ∙ ap (λ (s : Sums). s.instances) for.sums;
    entries = subst (IsNumberOfKinds (IsCallTree of.calls)) (sym from.entries) (entries_number stand stood_for h hier of legal for called);
    modules = subst (IsNumberOfKinds (IsReachedTree of.tree)) (sym from.modules) (modules_number top_there used_called h hier of legal for marks uses);
    weight = from.weight ∙ ap (λ (s : Sums). s.weight) for.sums;
    words = from.words ∙ ap (λ (s : Sums). s.words) for.sums;
    cycles = from.cycles ∙ sym (run_rows of.tree steps rows run);
  },
  is,
)
