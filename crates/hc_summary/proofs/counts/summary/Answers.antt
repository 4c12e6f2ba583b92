use Rattle.std.proofs.Common.{◌<◌, Bool, length, refl, sym, ap, subst, ◌∙◌}
use Rattle.std.specs.Prelude.{count_by, sum_by}
use Rattle.hc_bench.specs.Steps.{cycles_of}
use Rattle.hc_canon.specs.declared.form.EntryId.{EntryId}
use Rattle.hc_dbstate.specs.declared.hier.Hier.TheFolds.{fold_out-Hier}
use Rattle.hc_dbstate.specs.Elaboration.{HierView, hier_level}
use Rattle.hc_dbstate.specs.Uses.{AreUses}
use Rattle.hc_summary.proofs.Summed.{summed}
use Rattle.hc_summary.proofs.counts.summary.Goals as goal

pub used_entries-requires : goal.used_entries-requires
used_entries-requires c =
    subst (λ (e : EntryId). e.0 < length c.args.db.now.entries) (ap (λ (v : HierView). v.own.entry) (fold_out-Hier HierView hier_level c.args.hier.now))
    (c.used_entries_are_called.ensures.top c.args.db.now.entries c.args.hier.now c.requires.elaboration)

pub returns : goal.returns
returns c =
    let top = ap (λ (v : HierView). v.own.entry) (fold_out-Hier HierView hier_level c.args.hier.now) in
    summed c.calls_stand_for_calls.ensures.elaborated c.calls_stand_for_calls.ensures.walked c.used_entries_are_called.ensures.top c.used_entries_are_called.ensures.called
    c.args.db.now c.args.hier.now c.in_ok-used.used.items c.args.bench.now.steps _ _ c.legal.ensures
    (subst (λ (e : EntryId). AreUses c.args.db.now.entries e c.in_ok-used.used.items) (sym top) c.in_ok-used.ensures)
    (record {
      instances = refl;
      entries = c.len.ensures;
      modules = c.marked.ensures ∙ ap (count_by (λ (b : Bool). b)) c.deref.ensures.value;
      weight = refl;
      words = refl;
      cycles = c.cycles.ensures ∙ ap (sum_by cycles_of) c.as_slice-steps.ensures;
    })
    c.in_ok-text.ensures
