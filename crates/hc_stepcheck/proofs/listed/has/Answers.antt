use Rattle.std.proofs.Common.{ℕ, ◌∙◌, ap}
use Rattle.std.specs.Prelude.{Some}
use Rattle.hc_steps.proofs.Lists.{has_at}
use Rattle.hc_stepcheck.proofs.listed.has.Goals as goal

pub returns-then-it-part : goal.returns-then-it-part
returns-then-it-part c = λ t. has_at c.args.row.now c.in-Ok.at c.args.part (c.in-Some.ensures ∙ ap (λ (x : ℕ). Some x) c.if-it-part.true)
