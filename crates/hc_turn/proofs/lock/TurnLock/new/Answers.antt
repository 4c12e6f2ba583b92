use Rattle.std.proofs.Common.{sym, subst}
use mathlib.Core.List.{IsPrefix}
use Rattle.hc_turn.specs.declared.view.View.{View}
use Rattle.hc_turn.proofs.Prefixes.{prefix_nil}
use Rattle.hc_turn.proofs.Steps.{begins}
use Rattle.hc_turn.proofs.lock.TurnLock.new.Goals as goal

pub give-requires-clause-log : goal.give-requires-clause-log
give-requires-clause-log g c = subst (λ (v : View _). IsPrefix v.seen (g.S.Logged.log c.args.state)) (sym c.in-Ok.ensures.3) (prefix_nil (g.S.Logged.log c.args.state))

pub ruled-requires-clause-rule : goal.ruled-requires-clause-rule
ruled-requires-clause-rule g c = begins g.S.Logged.log
