-- The tree of an elaborated design has a flat text.
use Rattle.std.proofs.Common.{◌≡◌, ◌⊎◌, inl, inr, ℕ, zero, suc, ◌≤◌, List, [], ◌∷◌, length, ap, arith}
use Rattle.std.specs.Prelude.{sum_by}
use Rattle.std.proofs.lemmas.List.Sums.{sum_by-cons}
use Rattle.hc_signal.specs.Checked.{IsChecked}
use Rattle.hc_signal.specs.FlatGraph.{IsFlat}
use Rattle.hc_signal.specs.Graph.{Graph}
use Rattle.hc_signal.specs.Lawful.{IsLawful}
use Rattle.hc_signal.specs.Occurrences.{graph_at, tree_at}
use Rattle.hc_signal.specs.Tree.{IsWhole, Tree, graph, leaf, none, tree}
use Rattle.hc_signal.specs.Weight.{graph_weight, memory_weight, node_weight}
use Rattle.hc_flatten.specs.Flattened.{flat_graph}
use Rattle.hc_flatten.specs.Sizes.{memories_in, nodes_in, sum_to, total}
use Rattle.hc_flattext.specs.FlatText.{IsFlatText}
use Rattle.hc_plan.specs.Light.{sum_below, tree_weight}
use Rattle.hc_verilog.specs.ModuleText.{IsTreeText}

-- ---- counts are below weights

fewer : {X : Type 0} (f : X → ℕ) (xs : List X) → ((x : X) → 1 ≤ f x) → length xs ≤ sum_by f xs
fewer f [] h = omega arith
fewer f (x ∷ xs) h = let e : _ = sum_by-cons f x xs in let one : _ = h x in let more : _ = fewer f xs h in omega arith

nodes_weigh : (g : Graph) → nodes_in g ≤ graph_weight g
nodes_weigh g = let a : _ = fewer node_weight g.nodes (λ row. omega arith) in omega arith

memories_weigh : (g : Graph) → memories_in g ≤ graph_weight g
memories_weigh g = let a : _ = fewer memory_weight g.memories (λ m. omega arith) in omega arith

sums_below : (f h : ℕ → ℕ) → ((i : ℕ) → f i ≤ h i) → (n : ℕ) → sum_to f n ≤ sum_below h n
sums_below f h le zero = omega arith
sums_below f h le (suc n) = let a : f n ≤ h n = le n in let b : sum_to f n ≤ sum_below h n = sums_below f h le n in omega (arith, a, b)

total_below : (count : Graph → ℕ) → ((g : Graph) → count g ≤ graph_weight g) → (t : Tree) → total count t ≤ tree_weight t
total_below count le none = omega arith
total_below count le (tree g kids) =
    let own : count g ≤ graph_weight g = le g in
    let rest : sum_to (λ i. total count (kids i)) (length g.instances) ≤ sum_below (λ i. tree_weight (kids i)) (length g.instances)
    = sums_below (λ i. total count (kids i)) (λ i. tree_weight (kids i)) (λ i. total_below count le (kids i)) (length g.instances) in
    omega (arith, own, rest)

-- without instances there is the one circuit
total_alone : (count : Graph → ℕ) (t : Tree) → count (graph t) ≤ 4294967296 → (graph t).instances ≡ [] → total count t ≤ 4294967296
total_alone count none few alone = omega arith
total_alone count (tree g kids) few alone =
    let n : length g.instances ≡ 0 = ap length alone in
    let none : sum_to (λ i. total count (kids i)) (length g.instances) ≡ 0 = ap (sum_to (λ i. total count (kids i))) n in
    omega (arith, few, none)

abbrev IsLight : Tree → Type 0
IsLight t = ((graph t).instances ≡ []) ⊎ (tree_weight t ≤ 4194304)

few_in : (count : Graph → ℕ) → ((g : Graph) → count g ≤ graph_weight g) → (t : Tree) → count (graph t) ≤ 4294967296 → IsLight t → total count t ≤ 4294967296
few_in count le t few (inl alone) = total_alone count t few alone
few_in count le t few (inr light) = let b : total count t ≤ tree_weight t = total_below count le t in omega (arith, b, light)

lawful_top : (t : Tree) → IsWhole t → IsLawful (graph t)
lawful_top none w = absurd w
lawful_top (tree g kids) w = w.0

-- ---- the text

abbrev pub AreAllChecked : Tree → Type 0
AreAllChecked t = (path : List ℕ) → IsWhole (tree_at t path) → IsChecked (graph_at t path)

abbrev pub FlatAreLawful : Type 0
FlatAreLawful = (t : Tree) → IsWhole t → AreAllChecked t → total nodes_in t ≤ 4294967296 → total memories_in t ≤ 4294967296 → IsLawful (flat_graph t)

abbrev pub TreesHaveTexts : Type 0
TreesHaveTexts = (t : Tree) (modules : ℕ → List ℕ) (title : List ℕ) → IsLawful (graph t) → length (graph t).ports.inputs ≤ 4294967296 → length (graph t).ports.outputs ≤ 4294967296
    → (text : List ℕ) × IsTreeText t modules title text

pub flat_text : ((t : Tree) → IsWhole t → AreAllChecked t → IsFlat t (flat_graph t)) → FlatAreLawful → TreesHaveTexts → (t : Tree) (title : List ℕ) → IsWhole t
    → AreAllChecked t → IsLight t → (text : List ℕ) × IsFlatText t title text
flat_text flat lawful texts t title w checked light =
    let l : IsLawful (graph t) = lawful_top t w in
    let c : IsChecked (graph t) = checked [] w in
    let nodes : total nodes_in t ≤ 4294967296 = few_in nodes_in nodes_weigh t l.few.0 light in
    let memories : total memories_in t ≤ 4294967296 = few_in memories_in memories_weigh t l.few.1 light in
    let ins : length (graph t).ports.inputs ≤ 128 = c.few_inputs in
    let outs : length (graph t).ports.outputs ≤ 128 = c.few_outputs in
    let text : (text : List ℕ) × IsTreeText (leaf (flat_graph t)) (λ i. []) title text = texts (leaf (flat_graph t)) (λ i. []) title (lawful t w checked nodes memories)
    (omega (arith, ins)) (omega (arith, outs)) in
    (text.0, (flat_graph t, flat t w checked, text.1))
