use Rattle.std.proofs.Common.{sym, ap}
use Rattle.hc_dbstate.specs.declared.hier.Hier.TheFolds.{fold_out-Hier}
use Rattle.hc_dbstate.specs.Elaboration.{HierView, hier_level}
use Rattle.hc_summary.proofs.SixLines.{six_lines}
use Rattle.hc_summary.proofs.lines.text_of.Goals as goal

pub returns : goal.returns
returns c =
    let level = fold_out-Hier HierView hier_level c.args.hier.now in
    six_lines _ c.new-text.result.items c.push_line.new.text.items c.push_line-2.new.text.items c.push_line-3.new.text.items c.push_line-4.new.text.items
    c.push_line-5.new.text.items c.push_line-6.new.text.items
    _ _ _ c.new-text.ensures.items (sym (ap (λ (v : HierView). v.own.instances) level)) (sym (ap (λ (v : HierView). v.own.weight) level)) (sym (ap (λ (v : HierView). v.own.words) level))
    c.in_ok-push_line.ensures c.in_ok-push_line-2.ensures c.in_ok-push_line-3.ensures c.in_ok-push_line-4.ensures c.in_ok-push_line-5.ensures c.in_ok-push_line-6.ensures
