use Rattle.std.proofs.Common.{sym, ◌∙◌, subst}
use Rattle.crossbeam_queue.specs.Passes.{view}
use Rattle.hc_turn.specs.Views.{KnowsOneLog}
use Rattle.hc_turn.proofs.Steps.{joins, one_log, joined_begins}
use Rattle.hc_turn.proofs.lock.Pass.join.Goals as goal

pub absorb-requires-clause-rule : goal.absorb-requires-clause-rule
absorb-requires-clause-rule g c = joins g.S.Logged.log _ _ _ _ c.args.self.live c.requires.free.0 c.requires.free.1

pub learn_as-requires-clause-rule : goal.learn_as-requires-clause-rule
learn_as-requires-clause-rule g c = one_log g.S.Logged.log _ _

pub returns-clause-seen : goal.returns-clause-seen
returns-clause-seen g c =
    let same = c.learn_as.ensures.queue.1 in
    let one : KnowsOneLog (view c.learn_as.new.pass) = subst KnowsOneLog (sym same) c.learn_as.ensures.rule.1 in
    joined_begins (view c.args.self.place) (view c.args.other.place) (view c.learn_as.new.pass) (same ∙ c.absorb.ensures.rule) one

pub returns-clause-log : goal.returns-clause-log
returns-clause-log g c = subst KnowsOneLog (sym c.learn_as.ensures.queue.1) c.learn_as.ensures.rule.1
