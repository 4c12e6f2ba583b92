use Rattle.std.proofs.Common.{refl, sym, ap, ◌∙◌}
use Rattle.hc_names.specs.NameRows.{row_of}
use Rattle.hc_modules.proofs.Texts.{not_both, prints_row, passes_row}
use Rattle.hc_modules.proofs.hierarchy.push_row.Goals as goal

pub returns-in_ok-push_module : goal.returns-in_ok-push_module
returns-in_ok-push_module c =
    prints_row c.args.db.now.entries c.args.top c.args.names.now c.args.place c.args.first.now c.args.out.now.items c.push_module.new.out.items (c.in-Some.id, c.in-Some.name.now) c.get.result.now
    (sym c.row.ensures ∙ ap row_of c.in-Some.is) ((c.requires.used c.in-Some.id).0 (c.if-is_marked.ensures.0 refl)) c.get.ensures c.in_ok-push_module.ensures c.requires.printed

pub returns-else-is_marked : goal.returns-else-is_marked
returns-else-is_marked c =
    passes_row c.args.db.now.entries c.args.top c.args.names.now c.args.place c.args.first.now c.args.out.now.items (c.in-Some.id, c.in-Some.name.now)
    (sym c.row.ensures ∙ ap row_of c.in-Some.is) (λ uses. not_both c.is_marked.result (c.is_marked.ensures.1 ((c.requires.used c.in-Some.id).1 uses)) c.if-is_marked.false) c.requires.printed
