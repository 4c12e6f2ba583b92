use Rattle.std.proofs.Common.{rules, ◌≡◌, []}
use Rattle.hc_signal.specs.Graph.{nodes_of}
use Rattle.hc_walk.specs.VertexId.{vertices_of}
use Rattle.hc_walk.proofs.Walks.{walk_meets}
use Rattle.hc_walk.proofs.Walking.{walking_starts, walking_ends}
use Rattle.hc_walk.proofs.depth_first.walk.Goals as goal

pub walk-init : goal.walk-init
walk-init c =
    let m : vertices_of c.new-2.result.items ≡ [] = search rules in
    let w : c.push_ids.new.self ≡ nodes_of c.args.circuit.now.outputs = search rules in
    walking_starts _ _ _ _ c.in_ok-new.ensures m w

pub returns-clause-in_order : goal.returns-clause-in_order
returns-clause-in_order c =
    let w : c.walk.search.waiting ≡ [] = search rules in
    walking_ends _ _ _ _ w c.walk.invariant

pub returns-clause-reached : goal.returns-clause-reached
returns-clause-reached c v =
    let w : c.walk.search.waiting ≡ [] = search rules in
    walk_meets _ _ v (walking_ends _ _ _ _ w c.walk.invariant)
