use Rattle.std.proofs.Common.{◌++◌, ◌∷◌, [], ap, sym, ◌∙◌}
use Rattle.hc_canon.specs.Numbering.{count_from}
use Rattle.hc_flatten.proofs.Rows.{count_next}
use Rattle.hc_flatten.proofs.layout.counted.Goals as goal

pub numbers-preserved : goal.numbers-preserved
numbers-preserved c = c.in_ok-push.ensures.items ∙ ap (λ l. l ++ c.in_ok-sum.field-0 ∷ []) c.numbers.invariant
    ∙ ap (λ n. count_from c.args.first c.numbers.k ++ n ∷ []) c.in_ok-sum.ensures ∙ sym (count_next c.numbers.k c.args.first)
