use Rattle.std.proofs.Common.{◌∙◌, ap, ap₂, ◌++◌, map, sym, refl, Bor, List, ℕ}
use Rattle.std.proofs.lemmas.List.{length-map}
use Rattle.hc_workload.specs.Generator.{next_state, number_below}
use Rattle.hc_workload.proofs.Pieces.{chooses, chosen_text}
use Rattle.hc_workload.proofs.draft.Draft.push_one_of.Goals as goal

pub returns : goal.returns
returns c =
    chooses (map (λ t. t.now) c.args.texts.now) c.draw-place.result c.args.self.now _ (c.draw-place.ensures.number ∙ ap (λ n. number_below n (next_state c.args.self.now.state)) (sym (length-map c.args.texts.now (λ (t : Bor (List ℕ)). t.now))))
    (c.in_ok-extend_from_slice.ensures.items ∙ ap₂ (λ t u. t.items ++ u) c.draw-place.ensures.text (sym (chosen_text c.args.texts.now c.draw-place.result _ refl)))
    c.draw-place.ensures.state
