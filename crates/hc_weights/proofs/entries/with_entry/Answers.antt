use Rattle.std.proofs.Common.{◌≡◌, ℕ, ◌+◌, Bool, true, false, drop, ap, ◌∙◌}
use Rattle.std.proofs.lemmas.Result.{IfOk-weaker}
use Rattle.hc_signal.specs.Graph.{Graph}
use Rattle.hc_signal.specs.Weight.{graph_weight}
use Rattle.hc_weights.specs.Weights.{weight_where}
use Rattle.hc_weights.proofs.Marked.{with_marked, with_unmarked}
use Rattle.hc_weights.proofs.entries.with_entry.Goals as goal

pub returns-in_ok-weight : goal.returns-in_ok-weight
returns-in_ok-weight c =
    IfOk-weaker c.sum_of.result (λ (n : ℕ). n ≡ c.args.sum + c.in_ok-weight.weight)
    (λ (n : ℕ). n + weight_where (drop (c.args.place + 1) c.args.marks.now) (drop (c.args.place + 1) c.args.db.now.entries) ≡ c.args.sum + weight_where
    (drop c.args.place c.args.marks.now) (drop c.args.place c.args.db.now.entries))
    (λ n e. with_marked c.args.marks.now c.args.db.now.entries c.args.place c.args.sum c.in_ok-weight.weight n c.get.result.now (c.is_marked.ensures.0 c.if-is_marked.true) c.get.ensures
    (c.in_ok-weight.ensures ∙ ap (λ (g : Graph). graph_weight g) c.circuit.ensures) e)
    c.sum_of.ensures

not_both : {b : Bool} → b ≡ true → b ≡ false → ⊥
not_both t f = cc

pub returns-else-is_marked : goal.returns-else-is_marked
returns-else-is_marked c = with_unmarked c.args.marks.now c.args.db.now.entries c.args.place c.args.sum c.requires (λ m. not_both (c.is_marked.ensures.1 m) c.if-is_marked.false)
