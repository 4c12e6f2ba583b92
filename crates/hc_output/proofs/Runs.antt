-- Runs of an elaborated design, and of its flattened circuit.
use Rattle.std.proofs.Common.{◌≡◌, ℕ, List, [], ◌∷◌, ◌++◌, append_assoc, append-nil, codes, map, Bool, refl, sym, ap, subst, ◌∙◌}
use Rattle.std.specs.Prelude.{Some, slice_get, Result, Ok, Err, IfOk}
use Rattle.hc_signal.specs.declared.signal.Instance.{Instance}
use Rattle.hc_signal.specs.declared.signal.Ports.{Ports}
use Rattle.hc_signal.specs.declared.signal.Port.{Port}
use Rattle.hc_signal.specs.Graph.{Graph}
use Rattle.hc_signal.specs.FlatGraph.{IsFlat}
use Rattle.hc_signal.specs.Checked.{IsChecked}
use Rattle.hc_signal.specs.Lawful.{IsLawful}
use Rattle.hc_signal.specs.Tree.{Tree, none, tree, graph, leaf, IsWhole}
use Rattle.hc_signal.specs.Occurrences.{HasCombLoop}
use Rattle.hc_canon.specs.FormView.{FormView}
use Rattle.hc_canon.specs.Same.{Same}
use Rattle.hc_dbstate.specs.declared.hier.Hier.{Hier}
use Rattle.hc_dbstate.specs.Elaboration.{hier_view}
use Rattle.hc_dbstate.specs.Unfolding.{unfolding_of}
use Rattle.hc_flatten.proofs.Good.{IsGood}
use Rattle.hc_bench.specs.declared.kinds.Step.{Step}
use Rattle.hc_bench.specs.Listing.{CycleRow, listing}
use Rattle.hc_bench.specs.Simulation.{State, IsInitialState, initial_inputs}
use Rattle.hc_bench.specs.Steps.{AreStepsFor}
use Rattle.hc_bench.specs.Trace.{IsRun, Trace}
use Rattle.hc_plan.specs.Elaborates.{Elaborated}
use Rattle.hc_plan.specs.Hierarchies.{IsHierarchyFor}
use Rattle.hc_words.specs.declared.job.Verb.TheVariants as verb
use Rattle.hc_output.specs.Digests.{digest_lines, ended_line}
use Rattle.hc_output.specs.Output.{IsOutput, listing_for}
use Rattle.hc_output.specs.Prepared.{IsDigestedVerilog, IsFlatOf, written_listing}
use Rattle.hc_output.specs.declared.kinds.ListingForm.TheVariants as form

pub same_ports : (s t : Tree) → Same s t → (graph t).ports ≡ (graph s).ports
same_ports none none e = refl
same_ports none (tree h others) e = absurd e
same_ports (tree g kids) none e = absurd e
same_ports (tree g kids) (tree h others) e = e.2.ports

pub good_whole : (t : Tree) → IsGood t → IsWhole t
good_whole none good = absurd good
good_whole (tree g kids) good = (good.0, λ i it e. (let k = good.2 i it e in (k.0, good_whole (kids i) k.1)))

no_instance : (l : List Instance) (i : ℕ) (it : Instance) → l ≡ [] → slice_get l i ≡ Some it → ⊥
no_instance [] i it e at = cc
no_instance (x ∷ l) i it e at = cc

pub leaf_whole : (g : Graph) → IsLawful g → g.instances ≡ [] → IsWhole (leaf g)
leaf_whole g lawful empty = (lawful, λ i it e. absurd (no_instance g.instances i it empty e))

-- the inputs of trees with the same ports start alike
inputs_alike : (s t : Tree) → (graph t).ports ≡ (graph s).ports → initial_inputs s ≡ initial_inputs t
inputs_alike s t e = ap (λ (p : Ports). map (λ (q : Port). 0) p.inputs) (sym e)

abbrev HaveRuns : Type 0
HaveRuns = (t : Tree) → IsWhole t → ¬ HasCombLoop t → (steps : List Step) → AreStepsFor (graph t).ports.inputs steps → (rows : List CycleRow) × IsRun t steps rows

abbrev HaveStarts : Type 0
HaveStarts = (t : Tree) → IsWhole t → (state : State) × IsInitialState t state

abbrev FlatAlike : Type 0
FlatAlike = (t : Tree) (g : Graph) → IsFlat t g → IsWhole t → ¬ HasCombLoop t → (state other : State) → IsInitialState t state → IsInitialState (leaf g) other
    → (inputs : List ℕ) (count : ℕ) (steps : List Step) (rows : List CycleRow)
    → Trace (leaf g) other inputs count steps rows → Trace t state inputs count steps rows

abbrev SameAlike : Type 0
SameAlike = (s t : Tree) → Same s t → IsWhole s → IsWhole t → ¬ HasCombLoop s → (state other : State) → IsInitialState s state → IsInitialState t other
    → (inputs : List ℕ) (count : ℕ) (steps : List Step) (rows : List CycleRow)
    → Trace s state inputs count steps rows → Trace t other inputs count steps rows

-- a run of the elaborated design
pub design_runs : HaveRuns → (entries : List FormView) (hier : Hier) (e : Elaborated) (steps : List Step) → IsHierarchyFor entries hier e → ¬ HasCombLoop e.tree
    → AreStepsFor (graph (unfolding_of entries (hier_view hier).own.entry)).ports.inputs steps → (rows : List CycleRow) × IsRun e.tree steps rows
design_runs have entries hier e steps for free are =
    have e.tree for.whole free steps (subst (λ (p : Ports). AreStepsFor p.inputs steps) (sym (same_ports _ _ for.top)) are)

-- a run of the flattened circuit is one of the elaborated design
pub flat_runs : HaveRuns → HaveStarts → FlatAlike → SameAlike → (entries : List FormView) (hier : Hier) (g : Graph) (e : Elaborated) (steps : List Step) → IsLawful g
    → IsFlatOf entries hier g → IsHierarchyFor entries hier e
    → AreStepsFor (graph (unfolding_of entries (hier_view hier).own.entry)).ports.inputs steps → (rows : List CycleRow) × IsRun (leaf g) steps rows × IsRun e.tree steps rows
flat_runs have starts flat same entries hier g e steps lawful is for are =
    let unfolded : Tree = unfolding_of entries (hier_view hier).own.entry in
    let whole : IsWhole (leaf g) = leaf_whole g lawful is.instances in
    let run : (rows : List CycleRow) × IsRun (leaf g) steps rows = have (leaf g) whole is.no_loop steps (subst (λ (p : Ports). AreStepsFor p.inputs steps) (sym is.flat.ports) are) in
    let mid : (state : State) × IsInitialState unfolded state = starts unfolded is.whole in
    let top : (state : State) × IsInitialState e.tree state = starts e.tree for.whole in
    let inputs : initial_inputs (leaf g) ≡ initial_inputs e.tree = inputs_alike (leaf g) e.tree (same_ports unfolded e.tree for.top ∙ sym is.flat.ports) in
    let there : Trace unfolded mid.0 (initial_inputs (leaf g)) 0 steps run.0 = flat unfolded g is.flat is.whole is.free mid.0 run.1.0 mid.1 run.1.1 (initial_inputs (leaf g)) 0 steps run.0 run.1.2 in
    let here : Trace e.tree top.0 (initial_inputs (leaf g)) 0 steps run.0 = same unfolded e.tree for.top is.whole for.whole is.free mid.0 top.0 mid.1 top.1
    (initial_inputs (leaf g)) 0 steps run.0 there in
    (run.0, run.1, (top.0, top.1, subst (λ (i : List ℕ). Trace e.tree top.0 i 0 steps run.0) inputs here))

-- the listing of the run of the flattened circuit is for the ports of the design
pub ports_alike : (entries : List FormView) (hier : Hier) (g : Graph) (e : Elaborated) → IsFlatOf entries hier g → IsHierarchyFor entries hier e → g.ports ≡ (graph e.tree).ports
ports_alike entries hier g e is for = is.flat.ports ∙ sym (same_ports (unfolding_of entries (hier_view hier).own.entry) e.tree for.top)

-- ---- what is written of a run

-- the listing alone
pub sim_listing : (items : List ℕ) (g : Graph) (e : Elaborated) (rows : List CycleRow) → items ≡ [] → g.ports ≡ (graph e.tree).ports → listing_for e rows ≡ items ++ listing g.ports.outputs rows
sim_listing items g e rows empty same = ap (λ (p : Ports). listing p.outputs rows) (sym same) ∙ ap (λ (l : List ℕ). l ++ listing g.ports.outputs rows) (sym empty)

-- a text, an empty line and the listing
pub both_listing : (text items : List ℕ) (g : Graph) (e : Elaborated) (rows : List CycleRow) → items ≡ text ++ 10 ∷ [] → g.ports ≡ (graph e.tree).ports
    → text ++ 10 ∷ listing_for e rows ≡ items ++ listing g.ports.outputs rows
both_listing text items g e rows is same =
    ap (λ (p : Ports). text ++ 10 ∷ listing p.outputs rows) (sym same) ∙ sym (append_assoc text (10 ∷ []) (listing g.ports.outputs rows))
    ∙ ap (λ (l : List ℕ). l ++ listing g.ports.outputs rows) (sym is)

-- the lines of `gen`
digests_joined : (summary a b : List ℕ) → summary ++ (a ++ (b ++ [])) ≡ (summary ++ a) ++ b
digests_joined summary a b = simp (append_assoc, append-nil)

-- the summary and the digest line of the Verilog, and after them the digest line of the listing
pub gen_listing : (flat : Bool) (title : List ℕ) (items : List ℕ) (g : Graph) (e : Elaborated) (rows : List CycleRow) → IsDigestedVerilog flat title e rows items → g.ports ≡ (graph e.tree).ports
    → (out : List ℕ) × IsOutput verb.Gen flat title e rows out × (out ≡ items ++ written_listing form.Digest (listing g.ports.outputs rows))
gen_listing flat title items g e rows (summary, text, is, of, shown) same =
    let listed : List ℕ = listing_for e rows in
    let alike : listing g.ports.outputs rows ≡ listed = ap (λ (p : Ports). listing p.outputs rows) same in (
      summary ++ digest_lines text listed,
      (summary, text, is, of, refl),
      digests_joined summary (ended_line (codes "verilog ") text) (ended_line (codes "rows ") listed)
          ∙ ap (λ (l : List ℕ). l ++ ended_line (codes "rows ") listed) (sym shown)
          ∙ ap (λ (l : List ℕ). items ++ ended_line (codes "rows ") l) (sym alike),
    )

-- ---- the flattened circuit

pub flat_made : {F : Type 0} (entries : List FormView) (hier : Hier) (r : Result Graph F) → IsWhole (unfolding_of entries (hier_view hier).own.entry)
    → ¬ HasCombLoop (unfolding_of entries (hier_view hier).own.entry)
    → IfOk r (λ c. IsFlat (unfolding_of entries (hier_view hier).own.entry) c) → IfOk r (λ c. c.instances ≡ []) → IfOk r (λ c. IsChecked c) → IfOk r (λ c. ¬ HasCombLoop (leaf c))
    → IfOk r (λ c. IsFlatOf entries hier c)
flat_made entries hier (Ok g) whole free flat instances checked no_loop = record { flat = flat; whole = whole; free = free; checked = checked; instances = instances; no_loop = no_loop }
flat_made entries hier (Err e) whole free flat instances checked no_loop = tt
