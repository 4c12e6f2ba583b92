use Rattle.std.proofs.Common.{◌<◌, length, ap, subst}
use Rattle.hc_canon.specs.declared.form.EntryId.{EntryId}
use Rattle.hc_dbstate.specs.declared.hier.Hier.TheFolds.{fold_out-Hier}
use Rattle.hc_dbstate.specs.Elaboration.{HierView, hier_level}
use Rattle.hc_flatten.proofs.Elaborated.{top_within}
use Rattle.hc_cli.proofs.elaborated.bench_of.Goals as goal

pub get-form-requires : goal.get-form-requires
get-form-requires c =
    subst (λ (e : EntryId). e.0 < length c.args.db.now.entries) (ap (λ (v : HierView). v.own.entry) (fold_out-Hier HierView hier_level c.args.hier.now))
    (top_within c.args.db.now c.legal.ensures c.args.hier.now c.requires (c.walks_are_whole.ensures.own c.args.hier.now) (c.walks_are_whole.ensures.kids c.args.hier.now))
