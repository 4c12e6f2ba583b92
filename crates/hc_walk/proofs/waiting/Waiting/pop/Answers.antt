use Rattle.std.proofs.Common.{subst, ◌≡◌, ◌∷◌, [], MatchOption}
use Rattle.hc_walk.specs.VertexId.{vertex_of}
use Rattle.hc_walk.specs.Walking.{top_first}
use Rattle.hc_walk.proofs.Waits.{top_first_pop}
use Rattle.hc_walk.proofs.waiting.Waiting.pop.Goals as goal

pub returns : goal.returns
returns c =
    subst (λ s. MatchOption c.pop.result (s ≡ []) (λ v. s ≡ vertex_of v ∷ top_first c.pop.new.self)) c.self.view_is
    (top_first_pop c.self.inside.items c.pop.new.self c.pop.result c.pop.ensures)
