-- The circuit laid out by a walk, with the kids of the instances that it met, is the form.
use Rattle.std.proofs.Common.{◌≡◌, ℕ, zero, suc, ◌<◌, List, [], ◌∷◌, ◌++◌, length, refl, sym, subst, ◌∙◌, ap}
use Rattle.std.specs.Prelude.{slice_get, Option, Some, None, option_map, option_to_list}
use Rattle.std.proofs.lemmas.Option.{slice_get_within}
use Rattle.hc_canon.specs.declared.form.EntryId.{EntryId}
use Rattle.hc_signal.specs.declared.signal.Ports.{Ports}
use Rattle.hc_signal.specs.declared.signal.NodeId.{NodeId}
use Rattle.hc_signal.specs.declared.signal.NodeRow.{NodeRow}
use Rattle.hc_signal.specs.declared.signal.Memory.{Memory}
use Rattle.hc_signal.specs.declared.signal.Instance.{Instance}
use Rattle.hc_signal.specs.Graph.{Graph, Vertex, inst, Reached}
use Rattle.hc_signal.specs.Lawful.{IsLawful}
use Rattle.hc_signal.specs.Member.{Has, first, later}
use Rattle.hc_signal.specs.Renumber.{Renumbering, instance_by}
use Rattle.hc_walk.specs.DepthFirst.{NumbersTo}
use Rattle.hc_canon.specs.Numbering.{instances_met}
use Rattle.hc_canon.specs.FormView.{FormView, IsForm, IsCanonOf}
use Rattle.hc_signal.specs.Checked.{IsChecked}
use Rattle.hc_canon.specs.Layout.{picked, laid_out, AreNumbers}
use Rattle.hc_canon.proofs.Canonical.{some_within}
use Rattle.hc_canon.proofs.LaidOut.{AllIn, all_instances_of, picked_length, picked_at, instance_index, back, laid_out_isomorphism, laid_out_canonical}
use Rattle.hc_canon.proofs.Transport.{laid_out_lawful, laid_out_checked}

-- a list as long as another has all that the other has
all_in_too : {X Y : Type 0} (xs : List X) (ys : List Y) (ns : List ℕ) → length ys ≡ length xs → AllIn xs ns → AllIn ys ns
all_in_too {Y = Y} xs ys ns e a n h = go (slice_get ys n) refl
  where
    go : (o : Option Y) → slice_get ys n ≡ o → (y : Y) × (slice_get ys n ≡ Some y)
    go (Some y) q = (y, q)
    go None q = (let r : _ = a n h in absurd (some_within ys n q (subst (λ m. n < m) (sym e) (slice_get_within xs n r.0 r.1))))

map_nothing : {X : Type 0} (o : Option X) → option_map (λ x. x) o ≡ o
map_nothing None = refl
map_nothing (Some x) = refl

has_got : {X : Type 0} (xs : List X) (n : ℕ) (x : X) → slice_get xs n ≡ Some x → Has xs x
has_got [] n x e = absurd cc
has_got (y ∷ xs) zero x e = let s : y ≡ x = cc in subst (Has (y ∷ xs)) s first
has_got (y ∷ xs) (suc n) x e = later (has_got xs n x e)

picked_one : {X : Type 0} (xs picks : List X) (n : ℕ) (x : X) (o : Option X) → slice_get xs n ≡ o → (Has picks x → Has xs x) → Has (option_to_list (option_map (λ y. y) o) ++ picks) x → Has xs x
picked_one xs picks n x None e rest h = rest h
picked_one xs picks n x (Some y) e rest first = has_got xs n y e
picked_one xs picks n x (Some y) e rest (later h) = rest h

-- what was picked is of the list
picked_known : {X : Type 0} (xs : List X) (ns : List ℕ) (x : X) → Has (picked (λ y. y) xs ns) x → Has xs x
picked_known xs [] x h = elim h [ ]
picked_known xs (n ∷ ns) x h = picked_one xs (picked (λ y. y) xs ns) n x (slice_get xs n) refl (picked_known xs ns x) h

module _ (g : Graph) (l : IsLawful g) (ch : IsChecked g) (end : List Vertex) (w : NumbersTo g end) (to : Renumbering) (are : AreNumbers g end to) (ids : List EntryId)
    (many : length ids ≡ length g.instances) where
  abbrev made : FormView
  made = record { circuit = laid_out g end to; kids = picked (λ id. id) ids (instances_met end) }

  kids_in : AllIn ids (instances_met end)
  kids_in = all_in_too g.instances ids (instances_met end) many (all_instances_of g l end w)

  pub makes_form : IsForm made
  makes_form = record {
    lawful = laid_out_lawful g l end w to are;
    canonical = laid_out_canonical g l end w to are;
    checked = laid_out_checked g l end w to are ch;
    kids = picked_length (λ id. id) ids (instances_met end) kids_in ∙ sym (picked_length (instance_by to) g.instances (instances_met end) (all_instances_of g l end w));
  }

  kid_carried : (i : ℕ) → Reached g (inst i) → slice_get made.kids (to.inst i) ≡ slice_get ids i
  kid_carried i r =
      let at : (k : ℕ) × (slice_get (instances_met end) k ≡ Some i) = instance_index g l end w to are i r in
      ap (slice_get made.kids) (are.instances at.0 i at.1) ∙ picked_at (λ id. id) ids (instances_met end) kids_in at.0 i at.1 ∙ map_nothing (slice_get ids i)

  pub is_canon : IsCanonOf g ids made
  is_canon = record { form = makes_form; to = to; back = back g l end w to are; isomorphism = laid_out_isomorphism g l end w to are; kids = kid_carried; known = picked_known ids (instances_met end) }

  pub form_made : (circuit : Graph) (kids : List EntryId) → circuit ≡ laid_out g end to → kids ≡ picked (λ id. id) ids (instances_met end) → IsForm (record { circuit = circuit; kids = kids })
  form_made circuit kids a b = let e : made ≡ record { circuit = circuit; kids = kids } = (λ i. record { circuit = sym a i; kids = sym b i }) in subst IsForm e makes_form

  pub form_is_canon : (circuit : Graph) (kids : List EntryId) (form : FormView) → circuit ≡ laid_out g end to → kids ≡ picked (λ id. id) ids (instances_met end)
      → form ≡ record { circuit = circuit; kids = kids } → IsCanonOf g ids form
  form_is_canon circuit kids form a b c = let e : made ≡ record { circuit = circuit; kids = kids } = (λ i. record { circuit = sym a i; kids = sym b i }) in subst (IsCanonOf g ids) (e ∙ sym c) is_canon

-- the lists of the circuit, made one by one
pub laid_out_lists : (g : Graph) (end : List Vertex) (to : Renumbering) (ports : Ports) (outputs : List NodeId) (nodes : List NodeRow) (memories : List Memory) (instances : List Instance)
    → ports ≡ g.ports → outputs ≡ (laid_out g end to).outputs → nodes ≡ (laid_out g end to).nodes → memories ≡ (laid_out g end to).memories → instances ≡ (laid_out g end to).instances
    → record { ports = ports; outputs = outputs; nodes = nodes; memories = memories; instances = instances } ≡ laid_out g end to
laid_out_lists g end to ports outputs nodes memories instances a b c d e i = record { ports = a i; outputs = b i; nodes = c i; memories = d i; instances = e i }
