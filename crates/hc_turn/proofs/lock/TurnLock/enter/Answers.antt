use Rattle.std.proofs.Common.{ap, ◌∙◌, subst}
use Rattle.hc_turn.specs.declared.view.View.{View}
use Rattle.hc_turn.specs.Views.{ArePrefixesOf}
use Rattle.hc_turn.proofs.Steps.{enters}
use Rattle.hc_turn.proofs.lock.TurnLock.enter.Goals as goal

pub pop_as-requires-clause-rule : goal.pop_as-requires-clause-rule
pop_as-requires-clause-rule g c = (enters g.S.Logged.log _ _ c.loop.pass.live (ap (λ (v : View _). v.holds) c.loop.invariant.3 ∙ c.requires.free), λ states views h at. tt)

pub returns-in-Some-pop_as-clause-kept : goal.returns-in-Some-pop_as-clause-kept
returns-in-Some-pop_as-clause-kept g c = subst (λ (v : View _). ArePrefixesOf (g.S.Logged.log c.in-Some-pop_as.state) v.kept) c.loop.invariant.3 c.in-Some-pop_as.ensures.rule.kept
