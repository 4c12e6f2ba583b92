-- A builder with a labelled instance is kept.
use Rattle.std.proofs.Common.{◌≡◌, ◌≢◌, ℕ, ◌+◌, ◌<◌, ◌≤◌, ◌⊎◌, Bool, List, [], ◌∷◌, length, get_or, refl, sym, subst, ◌∙◌, ap, inl, inr, arith}
use Rattle.std.specs.Prelude.{slice_get, slice_set, Option, Some, None}
use Rattle.std.proofs.lemmas.Option.{slice_get_read, same_Some}
use Rattle.std.proofs.lemmas.Bool.{cases_eq}
use Rattle.hc_fault.specs.declared.name.Name.{Name}
use Rattle.hc_signal.specs.Member.{Has}
use Rattle.hc_signal.specs.declared.signal.Instance.{Instance}
use Rattle.hc_signal.specs.declared.signal.InstId.{InstId}
use Rattle.hc_signal.specs.Graph.{Graph}
use Rattle.hc_signal.specs.Lawful.{IsLawful, IsLawfulInstance}
use Rattle.hc_signal.specs.Weight.{graph_weight, instance_weight}
use Rattle.hc_signal.specs.Builds.{IsInstance, change_at, labelled_instance}
use Rattle.hc_signal.specs.Kept.{IsKept, HasOutputsFrom}
use Rattle.hc_signal.proofs.Places.{has_place, has_from_place, changed_there, same_elsewhere, length-change_at, sum_by-change_at, set_changes}
use Rattle.hc_signal.proofs.Grows.{Extends, lawful_node, lawful_memory, lawful_instance, have_widths}

-- the instance that was read
pub instance_read : (g : Graph) (n : ℕ) (x : Instance) → n < length g.instances → x ≡ get_or g.instances n x → slice_get g.instances n ≡ Some x
instance_read g n x b e = slice_get_read g.instances (length g.instances) n x refl b e

module _ (g : Graph) (n : ℕ) (label : Name) (old : Instance) (there : slice_get g.instances n ≡ Some old) where
  abbrev f : Instance → Instance
  f = labelled_instance label

  abbrev changed : Graph
  changed = record g { instances = change_at f n g.instances }

  instance_kept : (i : ℕ) (it : Instance) → slice_get g.instances i ≡ Some it → ((i ≡ n) × (old ≡ it) × (slice_get changed.instances i ≡ Some (f old))) ⊎ ((i ≢ n) × (slice_get changed.instances i ≡ Some it))
  instance_kept i it e = elim (cases_eq i n) [
    | inl same ↦ inl (same, same_Some old it (sym there ∙ (ap (slice_get g.instances) (sym same) ∙ e)), ap (slice_get changed.instances) same ∙ changed_there f n g.instances old there)
    | inr other ↦ inr (other, same_elsewhere f n g.instances i other ∙ e)
  ]

  grown : Extends g changed
  grown = record {
    nodes = λ m row e. (row, e, refl);
    memories = λ m mem e. (mem, e, refl);
    instances = λ i it e. elim (instance_kept i it e) [
      | inl p ↦ (f old, p.2, ap (λ (o : Instance). o.ports) p.1)
      | inr p ↦ (it, p.1, refl)
    ];
    inputs = λ k p e. e;
  }

  -- an instance of the changed graph: the labelled one, or as before
  instance_cases : (i : ℕ) (it : Instance) → slice_get changed.instances i ≡ Some it → ((i ≡ n) × (f old ≡ it)) ⊎ (slice_get g.instances i ≡ Some it)
  instance_cases i it e = elim (cases_eq i n) [
    | inl same ↦ inl (same, same_Some (f old) it (sym (changed_there f n g.instances old there) ∙ (ap (slice_get changed.instances) (sym same) ∙ e)))
    | inr other ↦ inr (sym (same_elsewhere f n g.instances i other) ∙ e)
  ]

  lawful_labelled : IsLawful g → IsLawfulInstance changed (f old)
  lawful_labelled l =
      let was : _ = lawful_instance g changed grown old (l.instances old (has_from_place g.instances n old there)) in
      record { ports = was.ports; conns = was.conns }

  lawful_changed : IsLawful g → IsLawful changed
  lawful_changed l = record {
    ports = l.ports;
    nodes = λ m row e. (let was : _ = l.nodes m row e in (was.0, lawful_node g changed grown row.width row.node was.1));
    memories = λ m k. lawful_memory g changed grown m (l.memories m k);
    instances = λ it k. (let at : _ = has_place k in elim (instance_cases at.0 it at.1) [
      | inl p ↦ subst (IsLawfulInstance changed) p.1 (lawful_labelled l)
      | inr p ↦ lawful_instance g changed grown it (l.instances it (has_from_place g.instances at.0 it p))
    ]);
    outputs = have_widths g changed grown g.outputs _ l.outputs;
    wires = l.wires;
    own_wire = l.own_wire;
    inputs = l.inputs;
    one_input = l.one_input;
    no_label = l.no_label;
    one_output = l.one_output;
    few = (l.few.0, l.few.1, (let many : _ = length-change_at f n g.instances in let few : _ = l.few.2 in omega arith));
  }

  kept_changed : (weight : ℕ) (marks : List Bool) (firsts : List ℕ) → IsKept g weight marks firsts → IsKept changed weight marks firsts
  kept_changed weight marks firsts kept = record {
    lawful = lawful_changed kept.lawful;
    total = (let e : _ = sum_by-change_at instance_weight f n g.instances old there in let t : _ = kept.total in omega arith);
    marked = kept.marked;
    wires = kept.wires;
    counted = (let many : _ = length-change_at f n g.instances in let c : _ = kept.counted in omega arith);
    first_nodes = λ i it e. elim (instance_cases i it e) [
      | inl p ↦ (let was : _ = kept.first_nodes n old there in subst (λ j. (base : ℕ) × (slice_get firsts j ≡ Some base) × HasOutputsFrom changed j it base) (sym p.0)
          (was.0, was.1, subst (λ (o : Instance). HasOutputsFrom changed n o was.0) p.1 was.2))
      | inr p ↦ kept.first_nodes i it p
    ];
    few_ports = kept.few_ports;
  }

pub changed_instances : (g old : Graph) (n : ℕ) (f : Instance → Instance) (x new : Instance) (its : List Instance) → g ≡ old → slice_get g.instances n ≡ Some x → new ≡ f x → its ≡ slice_set g.instances n new
    → (let made : Graph = record g { instances = its } in made) ≡ record old { instances = change_at f n old.instances }
changed_instances g old n f x new its same there is e =
    ap (λ its'. (let made : Graph = record g { instances = its' } in made)) (e ∙ (ap (slice_set g.instances n) is ∙ set_changes f n g.instances x there))
    ∙ ap (λ (h : Graph). (let made : Graph = record h { instances = change_at f n h.instances } in made)) same

pub instance_there : (g old : Graph) (n : ℕ) (x : Instance) → g ≡ old → n < length old.instances → x ≡ get_or g.instances n x → slice_get g.instances n ≡ Some x
instance_there g old n x same b e = instance_read g n x (subst (λ (h : Graph). n < length h.instances) (sym same) b) e

pub instance_labelled : (x : Instance) (o : Option Name) (label : Name) → o ≡ Some label → (let new : Instance = record { ports = x.ports; conns = x.conns; label = o } in new) ≡ labelled_instance label x
instance_labelled x o label e = ap (λ o'. (let new : Instance = record x { label = o' } in new)) e

pub kept_instance_label : (g old : Graph) (id : InstId) (label : Name) (x new : Instance) (its : List Instance) (weight : ℕ) (marks : List Bool) (firsts : List ℕ)
    → IsKept g weight marks firsts → g ≡ old → IsInstance old id → x ≡ get_or g.instances id.0 x → new ≡ labelled_instance label x → its ≡ slice_set g.instances id.0 new → IsKept (record g { instances = its }) weight marks firsts
kept_instance_label g old id label x new its weight marks firsts kept same b read is e =
    let within : id.0 < length g.instances = subst (λ (h : Graph). IsInstance h id) (sym same) b in
    let there : slice_get g.instances id.0 ≡ Some x = instance_read g id.0 x within read in
    subst (λ its'. IsKept (record g { instances = its' }) weight marks firsts) (sym (e ∙ (ap (slice_set g.instances id.0) is ∙ set_changes (labelled_instance label) id.0 g.instances x there)))
    (kept_changed g id.0 label x there weight marks firsts kept)
