use Rattle.std.proofs.Common.{◌++◌, ◌∷◌, [], take, ap, sym, ◌∙◌}
use Rattle.hc_flatten.specs.Flattened.{kid_trees, numbers_from}
use Rattle.hc_flatten.proofs.Rows.{numbers_next, item_at}
use Rattle.hc_flatten.proofs.layout.node_numbers.Goals as goal

pub rows-preserved : goal.rows-preserved
rows-preserved c =
    c.in_ok-push.ensures.items
    ∙ ap (λ l. l ++ c.in_ok-number.field-0 ∷ []) c.rows.invariant
    ∙ ap (λ n. numbers_from c.args.place.now c.args.form.now.circuit (kid_trees c.args.db.now.entries c.args.form.now) 0 (take c.rows.n c.args.form.now.circuit.nodes) ++ n ∷ []) c.in_ok-number.ensures
    ∙ sym (numbers_next c.args.place.now c.args.form.now.circuit (kid_trees c.args.db.now.entries c.args.form.now) c.args.form.now.circuit.nodes c.rows.n c.row-item.result
    (item_at c.args.form.now.circuit.nodes c.nodes-row-items.result.now c.rows.n c.row-item.result
    (c.nodes-row-items.ensures ∙ ap (λ g. g.nodes) c.circuit.ensures) c.rows-test.true c.row-item.is))
