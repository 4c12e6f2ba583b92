-- One signal more is drawn.
use Rattle.std.proofs.Common.{◌≡◌, ℕ, suc, ◌+◌, ◌<◌, List, [], ◌∷◌, ◌++◌, map, drop, length, get_or, sym, ap, ◌∙◌, add-one, drop-cons}
use Rattle.std.specs.Prelude.{Result, Ok}
use Rattle.hc_fault.specs.declared.fault.FaultKind.{FaultKind}
use Rattle.hc_sigtext.specs.declared.tree.Sig.{Sig}
use Rattle.hc_num.specs.Value.{Bindings}
use Rattle.hc_signal.specs.declared.signal.NodeId.{NodeId}
use Rattle.hc_signal.specs.Graph.{Graph}
use Rattle.hc_unfold.specs.Names.{Names}
use Rattle.hc_unfold.specs.Signals.{signal, signals}
use Rattle.hc_unfold.specs.Drawing.{go_on, answer, ◌>>=◌}
use Rattle.hc_unfold.specs.Nodes.{node_of, nodes_of}
use Rattle.hc_unfold.proofs.Lists.{nodes_onto, nodes_onto_more}

abbrev Drawn : Type 0
Drawn = Result (Graph × List NodeId) FaultKind

pub drawn_more : (names : Names) (env : Bindings) (sigs : List Sig) (i : ℕ) (sig : Sig) (xs ys : List NodeId) (x : NodeId) (g h : Graph) (all : Drawn) → i < length sigs
    → sig ≡ get_or sigs i sig → node_of names (signal env sig) g ≡ Ok (h, x) → ys ≡ xs ++ x ∷ []
    → nodes_onto xs (nodes_of names (signals (map (signal env) (drop i sigs))) g) ≡ all
    → nodes_onto ys (nodes_of names (signals (map (signal env) (drop (i + 1) sigs))) h) ≡ all
drawn_more names env sigs i sig xs ys x g h all within item drawn e before =
    let rest : Graph → Drawn = nodes_of names (signals (map (signal env) (drop (i + 1) sigs))) in
    let cut : drop i sigs ≡ sig ∷ drop (i + 1) sigs = rw add-one (drop-cons sigs i sig within ∙ ap (λ (s : Sig). s ∷ drop (suc i) sigs) (sym item)) in
    let step : nodes_of names (signals (map (signal env) (drop i sigs))) g ≡ go_on (rest h) (λ zs. answer (x ∷ zs)) =
    ap (λ (l : List Sig). nodes_of names (signals (map (signal env) l)) g) cut
    ∙ ap (λ (r : Result (Graph × NodeId) FaultKind). go_on r (λ y. rest >>= (λ zs. answer (y ∷ zs)))) drawn in
    ap (λ (l : List NodeId). nodes_onto l (rest h)) e ∙ nodes_onto_more xs x (rest h) ∙ ap (nodes_onto xs) (sym step) ∙ before
