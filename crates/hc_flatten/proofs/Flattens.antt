-- What is laid for the top of an elaboration has all that is said of it.
use Rattle.std.proofs.Common.{◌≡◌, ◌<◌, ◌≤◌, List, [], ◌∷◌, ◌++◌, length, refl, sym, ap, subst, ◌∙◌, arith}
use Rattle.std.specs.Prelude.{slice_get, Option, Some}
use Rattle.hc_signal.specs.Member.{Has}
use Rattle.hc_signal.specs.declared.signal.Ports.{Ports}
use Rattle.hc_signal.specs.declared.signal.NodeId.{NodeId}
use Rattle.hc_signal.specs.declared.signal.NodeRow.{NodeRow}
use Rattle.hc_signal.specs.declared.signal.Memory.{Memory}
use Rattle.hc_signal.specs.declared.signal.Instance.{Instance}
use Rattle.hc_signal.specs.Graph.{Graph}
use Rattle.hc_signal.specs.Tree.{Tree, graph}
use Rattle.hc_signal.specs.Occurrences.{HasCombLoop}
use Rattle.hc_canon.specs.declared.form.EntryId.{EntryId}
use Rattle.hc_canon.specs.FormView.{FormView}
use Rattle.hc_dbstate.specs.History.{History, IsLegal}
use Rattle.hc_dbstate.specs.Unfolding.{unfolding_of}
use Rattle.hc_dbstate.specs.declared.hier.Hier.{Hier}
use Rattle.hc_dbstate.specs.Elaboration.{CallRow, CallView, IsElaboration, hier_view, walk}
use Rattle.hc_dbstate.proofs.Unfolded.{unfolds}
use Rattle.hc_flatten.specs.Flattened.{IsFlattened, flat_graph, flat_nodes, flat_memories, top}
use Rattle.hc_flatten.proofs.Good.{IsGood}
use Rattle.hc_flatten.specs.declared.size.Size.{Size}
use Rattle.hc_flatten.specs.Sizes.{AreSizes, HasSize}
use Rattle.hc_flatten.proofs.Flat.{is_flat, nodes_length, memories_length}
use Rattle.hc_flatten.proofs.Back.{checked, loop_back}
use Rattle.hc_flatten.proofs.Lawfully.{is_lawful}
use Rattle.hc_flatten.proofs.Elaborated.{top_good, top_no_loop}

flattened : (t : Tree) → IsGood t → ¬ HasCombLoop t → length (flat_nodes top t) ≤ 4294967296 → length (flat_memories top t) ≤ 4294967296 → IsFlattened t (flat_graph t)
flattened t w loops a b = record {
  lawful = is_lawful t w a b;
  flat = is_flat t w;
  instances = refl;
  checked = checked t w (flat_graph t) (is_flat t w);
  no_loop = λ x. loops (loop_back t w (flat_graph t) (is_flat t w) x);
}

abbrev of_parts : Ports → List NodeId → List NodeRow → List Memory → List Instance → Graph
of_parts ports outputs nodes memories instances = record { ports = ports; outputs = outputs; nodes = nodes; memories = memories; instances = instances }

same_parts : (t : Tree) (ports : Ports) (outputs : List NodeId) (nodes : List NodeRow) (memories : List Memory) (instances : List Instance)
    → ports ≡ (graph t).ports → outputs ≡ (graph t).outputs → nodes ≡ flat_nodes top t → memories ≡ flat_memories top t → instances ≡ []
    → of_parts ports outputs nodes memories instances ≡ flat_graph t
same_parts t ports outputs nodes memories instances a b c d e =
    ap (λ x. of_parts x outputs nodes memories instances) a
    ∙ ap (λ x. of_parts (graph t).ports x nodes memories instances) b
    ∙ ap (λ x. of_parts (graph t).ports (graph t).outputs x memories instances) c
    ∙ ap (λ x. of_parts (graph t).ports (graph t).outputs (flat_nodes top t) x instances) d
    ∙ ap (λ x. of_parts (graph t).ports (graph t).outputs (flat_nodes top t) (flat_memories top t) x) e

module _ (h : History) (legal : IsLegal h) (hier : Hier) (over : IsElaboration h.entries hier)
    (own : (calls : List CallView) × (last : CallView) × (walk hier ≡ calls ++ last ∷ []) × (last.own ≡ (hier_view hier).own))
    (kids : (call : CallView) (row : CallRow) → Has (walk hier) call → Has call.kids row → (other : CallView) × Has (walk hier) other × (other.own ≡ row)) where
  pub flattens : (entry : EntryId) (form : FormView) (ports : Ports) (outputs : List NodeId) (nodes : List NodeRow) (memories : List Memory) (instances : List Instance)
      → (hier_view hier).own.entry ≡ entry → slice_get h.entries entry.0 ≡ Some form → ports ≡ form.circuit.ports → outputs ≡ form.circuit.outputs
      → nodes ≡ flat_nodes top (unfolding_of h.entries entry) → memories ≡ flat_memories top (unfolding_of h.entries entry) → instances ≡ [] → length nodes ≤ 4294967296 → length memories ≤ 4294967296
      → IsFlattened (unfolding_of h.entries (hier_view hier).own.entry) (of_parts ports outputs nodes memories instances)
  flattens entry form ports outputs nodes memories instances q at a b c d e few_nodes few_memories =
      let g : graph (unfolding_of h.entries entry) ≡ form.circuit = ap graph (unfolds h legal entry form at) in
      let s : of_parts ports outputs nodes memories instances ≡ flat_graph (unfolding_of h.entries entry)
      = same_parts (unfolding_of h.entries entry) ports outputs nodes memories instances (a ∙ sym (ap (λ (x : Graph). x.ports) g)) (b ∙ sym (ap (λ (x : Graph). x.outputs) g)) c d e in
      subst (λ i. IsFlattened (unfolding_of h.entries i) (of_parts ports outputs nodes memories instances)) (sym q)
      (subst (IsFlattened (unfolding_of h.entries entry)) (sym s)
      (flattened (unfolding_of h.entries entry) (subst (λ i. IsGood (unfolding_of h.entries i)) q (top_good h legal hier over own kids))
      (subst (λ i. ¬ HasCombLoop (unfolding_of h.entries i)) q (top_no_loop h legal hier over own kids))
      (subst (λ l. length l ≤ 4294967296) c few_nodes) (subst (λ l. length l ≤ 4294967296) d few_memories)))

-- what has a size of 32 bits fits
pub few_laid : (entries : List FormView) (sizes : List (Option Size)) (entry : EntryId) (size : Size) (nodes : List NodeRow) (memories : List Memory)
    → AreSizes entries sizes → slice_get sizes entry.0 ≡ Some (Some size) → size.nodes < 4294967296 → size.memories < 4294967296
    → nodes ≡ flat_nodes top (unfolding_of entries entry) → memories ≡ flat_memories top (unfolding_of entries entry) → (length nodes ≤ 4294967296) × (length memories ≤ 4294967296)
few_laid entries sizes entry size nodes memories are at a b p q =
    let s : HasSize (unfolding_of entries entry) size = are entry.0 size at in
    let n : length nodes ≡ size.nodes = ap length p ∙ nodes_length (unfolding_of entries entry) ∙ sym s.nodes in
    let m : length memories ≡ size.memories = ap length q ∙ memories_length (unfolding_of entries entry) ∙ sym s.memories in
    (omega (arith, n, a), omega (arith, m, b))
