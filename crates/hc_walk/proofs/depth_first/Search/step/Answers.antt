use Rattle.std.proofs.Common.{sym, ◌∙◌}
use Rattle.hc_walk.proofs.Walking.{on_ok, walking_again, passing_nearer, step_walks, step_nearer}
use Rattle.hc_walk.proofs.depth_first.Search.step.Goals as goal

pub returns-then-is_marked-clause-walking : goal.returns-then-is_marked-clause-walking
returns-then-is_marked-clause-walking c = walking_again _ _ _ _ _ c.requires (sym c.is_marked.ensures ∙ c.if-is_marked.true)

pub returns-then-is_marked-clause-nearer : goal.returns-then-is_marked-clause-nearer
returns-then-is_marked-clause-nearer c = passing_nearer _ _ _ _

pub returns-clause-walking : goal.returns-clause-walking
returns-clause-walking c =
    on_ok _ _ (step_walks _ c.lawful.ensures _ _ _ _ _ _ c.requires (sym c.is_marked.ensures ∙ c.if-is_marked.false) c.mark.ensures c.in_ok-push.ensures.items _)
    c.push_fanin.result c.push_fanin.ensures

pub returns-clause-nearer : goal.returns-clause-nearer
returns-clause-nearer c =
    on_ok _ _ (step_nearer _ c.lawful.ensures _ _ _ _ _ _ c.requires (sym c.is_marked.ensures ∙ c.if-is_marked.false) c.mark.ensures c.in_ok-push.ensures.items _)
    c.push_fanin.result c.push_fanin.ensures
