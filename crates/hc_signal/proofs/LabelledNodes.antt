-- A builder with a labelled node is kept.
use Rattle.std.proofs.Common.{◌≡◌, ℕ, ◌<◌, Bool, true, false, not, ◌&&◌, ◌||◌, ◌==◌, List, [], ◌∷◌, length, get_or, refl, sym, subst, ◌∙◌, ap, arith}
use Rattle.std.specs.Prelude.{slice_get, slice_set, Option, Some, None}
use Rattle.std.proofs.lemmas.Bool.{and_parts, or_parts, not-true, eq-eqb, true≢false}
use Rattle.hc_fault.specs.declared.fault.FaultKind.TheVariants as fault
use Rattle.hc_fault.specs.declared.name.Name.{Name}
use Rattle.hc_signal.specs.Member.{Has}
use Rattle.hc_signal.specs.declared.signal.NodeId.{NodeId}
use Rattle.hc_signal.specs.declared.signal.NodeRow.{NodeRow}
use Rattle.hc_signal.specs.declared.signal.Node.TheVariants.{Input}
use Rattle.hc_signal.specs.Graph.{Graph}
use Rattle.hc_signal.specs.Lawful.{IsLawful}
use Rattle.hc_signal.specs.Rules.{label_rule}
use Rattle.hc_signal.specs.Builds.{IsNode, is_input, is_input_row, is_output, is_port_node, has_node_label, labelled_row}
use Rattle.hc_signal.specs.Kept.{IsKept}
use Rattle.hc_signal.proofs.Places.{some_passes}
use Rattle.hc_signal.proofs.Changed.{Replaces, kept_row}
use Rattle.hc_signal.proofs.Follows.{test_holds}
use Rattle.hc_signal.proofs.Drives.{row_read}

-- a node that stands for no port may take a label
labelled_replaces : (g : Graph) (id : NodeId) (label : Name) (row : NodeRow) → IsLawful g → slice_get g.nodes id.0 ≡ Some row → is_input row.node ≡ false → is_output g id.0 ≡ false → Replaces g id.0 row (labelled_row label row)
labelled_replaces g id label row l there no_input no_output = record {
  there = there;
  width = refl;
  node = (l.nodes id.0 row there).1;
  weight = refl;
  back = λ x outer e. e;
  forth = λ x outer e. e;
  input_label = λ k e. absurd (true≢false (sym (ap is_input e) ∙ no_input));
  output_label = λ o k at. (let yes : is_output g id.0 ≡ true = some_passes (λ (p : NodeId). p.0 == id.0) g.outputs o k (eq-eqb o.0 id.0 at) in absurd (true≢false (sym yes ∙ no_output)));
}

pub row_there : (g old : Graph) (n : ℕ) (x : NodeRow) → g ≡ old → n < length old.nodes → x ≡ get_or g.nodes n x → slice_get g.nodes n ≡ Some x
row_there g old n x same b e = row_read g n x (subst (λ (h : Graph). n < length h.nodes) (sym same) b) e

pub row_labelled : (x : NodeRow) (o : Option Name) (label : Name) → o ≡ Some label → (let new : NodeRow = record { width = x.width; node = x.node; label = o } in new) ≡ labelled_row label x
row_labelled x o label e = ap (λ o'. (let new : NodeRow = record x { label = o' } in new)) e

pub kept_node_label : (g old : Graph) (id : NodeId) (label : Name) (x new : NodeRow) (rows : List NodeRow) (a b : Bool) (weight : ℕ) (marks : List Bool) (firsts : List ℕ)
    → IsKept g weight marks firsts → g ≡ old → IsNode old id → x ≡ get_or g.nodes id.0 x → b ≡ is_port_node old id → label_rule a b ≡ None → new ≡ labelled_row label x → rows ≡ slice_set g.nodes id.0 new
    → IsKept (record g { nodes = rows }) weight marks firsts
kept_node_label g old id label x new rows a b weight marks firsts kept same node read port holds is e =
    let within : id.0 < length g.nodes = subst (λ (h : Graph). IsNode h id) (sym same) node in
    let there : slice_get g.nodes id.0 ≡ Some x = row_read g id.0 x within read in
    let no_port : b ≡ false = not-true b (and_parts (not a) (not b) (test_holds fault.RepeatedName _ holds)).1 in
    let neither : _ = or_parts (is_input_row (slice_get g.nodes id.0)) (is_output g id.0) (ap (λ (h : Graph). is_port_node h id) same ∙ (sym port ∙ no_port)) in
    kept_row g id.0 (labelled_row label) x new rows weight marks firsts kept (labelled_replaces g id label x kept.lawful there (sym (ap is_input_row there) ∙ neither.0) neither.1) is e
