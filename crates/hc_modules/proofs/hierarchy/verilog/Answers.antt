use Rattle.std.proofs.Common.{◌<◌, length, ap, subst}
use Rattle.hc_canon.specs.declared.form.EntryId.{EntryId}
use Rattle.hc_dbstate.specs.declared.hier.Hier.TheFolds.{fold_out-Hier}
use Rattle.hc_dbstate.specs.Elaboration.{HierView, hier_level}
use Rattle.hc_modules.specs.Pieces.{AreThere}
use Rattle.hc_modules.proofs.AllThere.{all_there}
use Rattle.hc_modules.proofs.hierarchy.verilog.Goals as goal

pub used_entries-requires : goal.used_entries-requires
used_entries-requires c =
    subst (λ (e : EntryId). e.0 < length c.args.db.now.entries) (ap (λ (v : HierView). v.own.entry) (fold_out-Hier HierView hier_level c.args.hier.now))
    (c.used_entries_are_called.ensures.top c.args.db.now.entries c.args.hier.now c.requires.elaboration)

pub text_of-requires-clause-there : goal.text_of-requires-clause-there
text_of-requires-clause-there c =
    subst (λ (e : EntryId). AreThere c.args.db.now.entries e c.args.names.now) (ap (λ (v : HierView). v.own.entry) (fold_out-Hier HierView hier_level c.args.hier.now))
    (all_there c.args.db.now.entries c.args.hier.now c.requires.elaboration
    (λ id used. c.used_entries_are_called.ensures.called c.args.db.now.entries c.args.hier.now id c.requires.elaboration used) c.args.names.now c.requires.named)
