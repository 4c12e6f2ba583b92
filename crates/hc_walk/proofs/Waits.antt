-- The stack of a walk as the list of what waits.
use Rattle.std.proofs.Common.{◌≡◌, [], ◌∷◌, ◌++◌, List, refl, ◌∙◌, ap}
use Rattle.std.specs.Prelude.{reverse, Option, Some, None, MatchOption}
use Rattle.std.proofs.lemmas.List.{map-append, reverse-append}
use Rattle.hc_signal.specs.declared.signal.WritePort.{WritePort}
use Rattle.hc_signal.specs.Graph.{Vertex, node, fanin_of_writes}
use Rattle.hc_walk.specs.declared.vertex.VertexId.{VertexId}
use Rattle.hc_walk.specs.VertexId.{vertex_of, vertices_of}
use Rattle.hc_walk.specs.Walking.{top_first}

-- the last item waits first
pub top_first_push : (items : List VertexId) (v : VertexId) → top_first (items ++ v ∷ []) ≡ vertex_of v ∷ top_first items
unfolding top_first
top_first_push items v = ap reverse (map-append vertex_of items (v ∷ [])) ∙ reverse-append (vertices_of items) (vertex_of v ∷ [])

top_first_none : top_first [] ≡ []
unfolding top_first
top_first_none = refl

pub top_first_pop : (old new : List VertexId) (o : Option VertexId) → MatchOption o ((old ≡ []) × (new ≡ [])) (λ last. old ≡ new ++ last ∷ []) → MatchOption o (top_first old ≡ []) (λ v. top_first old ≡ vertex_of v ∷ top_first new)
top_first_pop old new (Some v) e = ap top_first e ∙ top_first_push new v
top_first_pop old new None e = ap top_first e.0 ∙ top_first_none

-- the fan-in of one write port more
pub fanin_of_writes_append : (ws : List WritePort) (w : WritePort) (vs : List Vertex) → fanin_of_writes (ws ++ w ∷ []) ++ vs ≡ fanin_of_writes ws ++ (node w.enable.0 ∷ node w.addr.0 ∷ node w.value.0 ∷ vs)
fanin_of_writes_append [] w vs = refl
fanin_of_writes_append (x ∷ ws) w vs = ap (λ l. node x.enable.0 ∷ node x.addr.0 ∷ node x.value.0 ∷ l) (fanin_of_writes_append ws w vs)
