-- The call of a circuit is lawful over the entries, where those of its instances denote trees with their ports.
use Rattle.std.proofs.Common.{◌≡◌, ℕ, ◌+◌, ◌≤◌, List, map, refl, sym, ap, subst, ◌∙◌, arith}
use Rattle.std.proofs.lemmas.Option.{slice_get_within}
use Rattle.std.specs.Prelude.{slice_get, Option, Some, None, option_map, unwrap_or, sum_by}
use Rattle.hc_signal.specs.declared.signal.Instance.{Instance}
use Rattle.hc_signal.specs.Graph.{Graph, inst, Reached}
use Rattle.hc_signal.specs.Lawful.{IsLawful}
use Rattle.hc_signal.specs.Renumber.{instance_by}
use Rattle.hc_signal.specs.Tree.{Tree, none, tree, graph}
use Rattle.hc_signal.specs.Occurrences.{HasCombLoop, AreMasks}
use Rattle.hc_signal.specs.Weight.{graph_weight}
use Rattle.hc_canon.specs.declared.form.EntryId.{EntryId}
use Rattle.hc_canon.specs.FormView.{FormView, IsCanonOf}
use Rattle.hc_canon.specs.Same.{Same}
use Rattle.hc_canon.proofs.Decided.{kid_from}
use Rattle.hc_dbstate.specs.Elaboration.{CallRow, CallView, IsCallOver, IsMade, entries_of, times}
use Rattle.hc_dbstate.specs.History.{History, IsLegal}
use Rattle.hc_dbstate.specs.Unfolding.{Denotes, kid_tree, unfolding_of}
use Rattle.hc_dbstate.proofs.Denoted.{own_canon, own_denoted, same_from_forms}
use Rattle.hc_dbstate.proofs.Unfolded.{unfolded, unfolds}
use Rattle.hc_dbstate.proofs.Weighing.{form_weight, kid_times}

-- what an option holds before it is mapped
was_some : {X : Type 0} (f : X → X) (o : Option X) (y : X) → Some y ≡ option_map f o → (x : X) × (o ≡ Some x) × (y ≡ f x)
was_some f None y e = cc
was_some f (Some x) y e = (x, refl, ap (λ o. unwrap_or o y) e)

-- trees that are the same have the same ports
ports_of_same : (s t : Tree) → Same s t → (graph s).ports ≡ (graph t).ports
ports_of_same none none s = refl
ports_of_same none (tree h b) s = absurd s
ports_of_same (tree g a) none s = absurd s
ports_of_same (tree g a) (tree h b) s = sym s.2.ports

module _ (h : History) (legal : IsLegal h) (circuit : Graph) (lawful : IsLawful circuit) (trees : ℕ → Tree) (call : CallView) (m : IsMade h.entries circuit trees call) where
  kid_ports : (i : ℕ) (it : Instance) (id : EntryId) (kid : FormView) → slice_get m.form.circuit.instances i ≡ Some it → slice_get m.form.kids i ≡ Some id
      → slice_get h.entries id.0 ≡ Some kid → kid.circuit.ports ≡ it.ports
  kid_ports i it id kid at k there =
      let x : Reached circuit (inst (m.canon.back.inst i)) × (m.canon.to.inst (m.canon.back.inst i) ≡ i) × (slice_get m.form.kids i ≡ slice_get (entries_of call.kids) (m.canon.back.inst i)) =
      kid_from circuit (entries_of call.kids) m.form m.canon i (slice_get_within m.form.circuit.instances i it at) in
      let mapped : Some it ≡ option_map (instance_by m.canon.to) (slice_get circuit.instances (m.canon.back.inst i)) =
      sym at ∙ ap (slice_get m.form.circuit.instances) (sym x.1) ∙ m.canon.isomorphism.instances (m.canon.back.inst i) x.0 in
      let was : _ = was_some (instance_by m.canon.to) (slice_get circuit.instances (m.canon.back.inst i)) it mapped in
      let here : slice_get (entries_of call.kids) (m.canon.back.inst i) ≡ Some id = sym x.2 ∙ k in
      let same : Same (unfolding_of h.entries id) (trees (m.canon.back.inst i)) = (m.kids (m.canon.back.inst i) id here).1 in
      ap (λ (t : Tree). (graph t).ports) (sym (unfolds h legal id kid there))
      ∙ ports_of_same (unfolding_of h.entries id) (trees (m.canon.back.inst i)) same
      ∙ m.ports (m.canon.back.inst i) was.0 was.1
      ∙ sym (ap (λ (z : Instance). z.ports) was.2)

  -- the call is lawful where its unfolding has no loop and these masks
  pub call_over : ¬ HasCombLoop (unfolding_of h.entries call.own.entry) → AreMasks (unfolding_of h.entries call.own.entry) call.own.masks → IsCallOver h.entries call
  call_over free masks =
      let less : graph_weight m.form.circuit ≤ graph_weight circuit = form_weight circuit lawful (entries_of call.kids) m.form m.canon in
      let weight : graph_weight circuit + sum_by (λ (k : CallRow). k.weight) call.kids ≤ call.own.weight = m.weight in
      record {
        form = m.form;
        found = m.found;
        ports = kid_ports;
        kids = kid_times circuit lawful (entries_of call.kids) m.form m.canon;
        no_loop = free;
        masks = masks;
        instances = m.instances;
        few = m.few;
        weight = omega (arith, weight, less);
        light = m.light;
      }

-- a made call's entry denotes its tree
pub made_denotes : (h : History) (circuit : Graph) (trees : ℕ → Tree) (call : CallView) → IsLegal h → IsMade h.entries circuit trees call → Denotes h.entries call.own.entry (tree circuit trees)
made_denotes h circuit trees call legal m =
    subst (λ t. Same t (tree circuit trees)) (sym (unfolds h legal call.own.entry m.form m.found))
    (same_from_forms h legal m.form.circuit circuit m.form.kids (entries_of call.kids) (λ i. kid_tree (unfolded h legal) (slice_get m.form.kids i)) trees m.form m.form
    (own_denoted h legal call.own.entry.0 m.form m.found) m.kids (own_canon m.form m.canon.form) m.canon refl)
