use Rattle.std.proofs.Common.{◌∙◌, ap₂, ◌++◌}
use Rattle.hc_workload.proofs.Pieces.{draws}
use Rattle.hc_workload.proofs.draft.Draft.push_below.Goals as goal

pub returns : goal.returns
returns c =
    draws c.args.limit c.draw-drawn.result c.args.self.now _ c.draw-drawn.ensures.number
    (c.in_ok-extend_from_slice.ensures.items ∙ ap₂ (λ t d. t.items ++ d) c.draw-drawn.ensures.text (c.as_bytes.ensures.value ∙ c.format.ensures.text))
    c.draw-drawn.ensures.state
