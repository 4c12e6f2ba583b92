-- A walk goes along a function from vertices to vertices that keeps outputs and fan-in, and keeps apart what is reached.
use Rattle.std.proofs.Common.{◌≡◌, List, [], ◌∷◌, ◌++◌, map, sym, subst}
use Rattle.std.proofs.lemmas.List.{map-append}
use Rattle.hc_signal.specs.Member.{Has, first, later}
use Rattle.hc_signal.specs.Graph.{Graph, Vertex, Reached, output, further, fanin, nodes_of}
use Rattle.hc_walk.specs.DepthFirst.{DepthFirst, over, again, new, NumbersTo}
use Rattle.hc_walk.proofs.Members.{has_map, has_from_map}
use Rattle.hc_walk.proofs.Walks.{AllReached, all_reached_append, all_reached_one, walk_reaches}

module _ (g h : Graph) (to : Vertex → Vertex)
    (apart : (v x : Vertex) → Reached g v → Reached g x → to v ≡ to x → v ≡ x)
    (fanins : (v : Vertex) → Reached g v → fanin h (to v) ≡ map to (fanin g v))
    (outputs : nodes_of h.outputs ≡ map to (nodes_of g.outputs)) where
  walk_along : {met list end : List Vertex} → DepthFirst g met list end → AllReached g met → AllReached g list → DepthFirst h (map to met) (map to list) (map to end)
  walk_along over a b = over
  walk_along (again {v = v} k w) a b = again (has_map to k) (walk_along w a (λ x m. b x (later m)))
  walk_along (new {met = ms} {inner = ns} {v = v} n u w) a b =
      let r : Reached g v = b v first in
      let met_reached : AllReached g (ms ++ v ∷ []) = all_reached_append g ms (v ∷ []) a (all_reached_one g v r) in
      let fanin_reached : AllReached g (fanin g v) = λ x m. further v x r m in
      new (λ k. (let m : _ = has_from_map to ms (to v) k in n (subst (Has ms) (apart m.0 v (a m.0 m.1) r m.2) m.1)))
      (subst (λ l. DepthFirst h l (fanin h (to v)) (map to ns)) (map-append to ms (v ∷ []))
      (subst (λ l. DepthFirst h (map to (ms ++ v ∷ [])) l (map to ns)) (sym (fanins v r)) (walk_along u met_reached fanin_reached)))
      (walk_along w (walk_reaches g u met_reached fanin_reached) (λ x m. b x (later m)))

  pub walks_along : {end : List Vertex} → NumbersTo g end → NumbersTo h (map to end)
  walks_along {end} w = subst (λ l. DepthFirst h [] l (map to end)) (sym outputs) (walk_along w (λ v k. elim k [ ]) (λ v k. output v k))
