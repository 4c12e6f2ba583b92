-- What is laid for an occurrence and the occurrences of its instances.
use Rattle.std.proofs.Common.{◌≡◌, ℕ, zero, suc, ◌+◌, ◌<◌, ◌≤◌, List, [], ◌++◌, map, length, refl, sym, ◌∙◌, ap, ap₂, subst, arith, append_assoc}
use Rattle.std.proofs.lemmas.Option.{slice_get_within}
use Rattle.std.specs.Prelude.{slice_get, Option, Some, None}
use Rattle.hc_signal.specs.declared.signal.NodeRow.{NodeRow}
use Rattle.hc_signal.specs.declared.signal.Memory.{Memory}
use Rattle.hc_signal.specs.Renumber.{Renumbering, id_by}
use Rattle.hc_signal.specs.Tree.{Tree}
use Rattle.hc_canon.specs.declared.form.EntryId.{EntryId}
use Rattle.hc_canon.specs.FormView.{FormView}
use Rattle.hc_dbstate.specs.History.{History, IsLegal}
use Rattle.hc_dbstate.specs.Unfolding.{unfolding_of}
use Rattle.hc_dbstate.proofs.Unfolded.{unfolds}
use Rattle.hc_dbstate.proofs.Triples.{some_at}
use Rattle.hc_flatten.specs.declared.place.Place.{Place}
use Rattle.hc_flatten.specs.declared.place.Kid.{Kid}
use Rattle.hc_flatten.specs.declared.size.Size.{Size}
use Rattle.hc_flatten.specs.Flattened.{joined, connections, kid_trees, kid_place, numbering, nodes_before, memories_before, own_nodes, own_memories, flat_nodes, flat_memories, AreStarts, IsKid, AreKidsAt, AreKids}
use Rattle.hc_flatten.proofs.Kids.{kid_is}

abbrev pub kid_nodes : List FormView → Option Kid → List NodeRow
kid_nodes entries None = []
kid_nodes entries (Some kid) = flat_nodes kid.place (unfolding_of entries kid.entry)

abbrev pub kid_memories : List FormView → Option Kid → List Memory
kid_memories entries None = []
kid_memories entries (Some kid) = flat_memories kid.place (unfolding_of entries kid.entry)

pub joined_same : {X : Type 0} (f g : ℕ → List X) (n : ℕ) → ((i : ℕ) → i < n → f i ≡ g i) → joined f n ≡ joined g n
joined_same f g zero e = refl
joined_same f g (suc n) e = ap₂ (λ a b. a ++ b) (joined_same f g n (λ i b. e i (omega (arith, b)))) (e n (omega arith))

-- one kid more
pub kid_laid : {X : Type 0} (old now new : List X) (f : ℕ → List X) (i : ℕ) (x : List X) → now ≡ old ++ joined f i → new ≡ now ++ x → f i ≡ x → new ≡ old ++ joined f (i + 1)
kid_laid old now new f i x a b c =
    b ∙ ap₂ (λ l r. l ++ r) a (sym c) ∙ append_assoc old (joined f i) (f i) ∙ (let e : suc i ≡ i + 1 = omega arith in ap (λ n. old ++ joined f n) e)

pub kids_are : (entries : List FormView) (form : FormView) (p : Place) (starts : List Size) (r : Renumbering) (kids : List Kid) → AreStarts p form.circuit (kid_trees entries form) starts
    → r ≡ numbering p form.circuit (kid_trees entries form) → AreKidsAt form starts r kids → AreKids entries form p kids
kids_are entries form p starts r kids s q a = record {
  many = a.many ∙ s.many;
  each = λ i kid e. (let b : i < length kids = slice_get_within kids i kid e in
      let t : (start : Size) × (slice_get starts i ≡ Some start) = some_at starts i (subst (λ n. i < n) a.many b) in
      let k : IsKid form t.0 r i kid = a.each i t.0 kid t.1 e in
      let w : (t.0.nodes ≡ nodes_before p form.circuit (kid_trees entries form) i) × (t.0.memories ≡ memories_before p form.circuit (kid_trees entries form) i) = s.each i t.0 t.1 in (
        k.entry,
        k.place
            ∙ ap (λ n. record { nodes = n; memories = t.0.memories; inputs = Some (map (id_by r) (connections (slice_get form.circuit.instances i))) }) w.0
            ∙ ap (λ n. record { nodes = nodes_before p form.circuit (kid_trees entries form) i; memories = n; inputs = Some (map (id_by r) (connections (slice_get form.circuit.instances i))) }) w.1
            ∙ ap (λ z. record {
              nodes = nodes_before p form.circuit (kid_trees entries form) i;
              memories = memories_before p form.circuit (kid_trees entries form) i;
              inputs = Some
                  (map (id_by z) (connections (slice_get form.circuit.instances i)));
            }) q,
      ));
}

module _ (h : History) (legal : IsLegal h) (entry : EntryId) (form : FormView) (p : Place) (kids : List Kid) (at : slice_get h.entries entry.0 ≡ Some form) (are : AreKids h.entries form p kids) where
  kid_laid_at : {Y : Type 0} (flat : Place → Tree → Y) (of : Option Kid → Y) → ((kid : Kid) → of (Some kid) ≡ flat kid.place (unfolding_of h.entries kid.entry)) → (i : ℕ)
      → i < length form.circuit.instances
      → of (slice_get kids i) ≡ flat (kid_place p form.circuit (kid_trees h.entries form) i) (kid_trees h.entries form i)
  kid_laid_at flat of is i b =
      let k : (kid : Kid) × (slice_get kids i ≡ Some kid) = some_at kids i (subst (λ n. i < n) (sym are.many) b) in
      let e : (slice_get form.kids i ≡ Some k.0.entry) × (k.0.place ≡ kid_place p form.circuit (kid_trees h.entries form) i) = are.each i k.0 k.1 in
      ap of k.1 ∙ is k.0 ∙ ap₂ flat e.1 (sym (kid_is h legal form i k.0.entry e.0))

  pub nodes_laid : (old mid end : List NodeRow) (n : ℕ) → mid ≡ old ++ own_nodes p form.circuit (kid_trees h.entries form) → n ≡ length kids
      → end ≡ mid ++ joined (λ i. kid_nodes h.entries (slice_get kids i)) n → end ≡ old ++ flat_nodes p (unfolding_of h.entries entry)
  nodes_laid old mid end n a b c =
      c ∙ ap (λ l. l ++ joined (λ i. kid_nodes h.entries (slice_get kids i)) n) a
      ∙ ap (λ k. old ++ own_nodes p form.circuit (kid_trees h.entries form) ++ joined (λ i. kid_nodes h.entries (slice_get kids i)) k) (b ∙ are.many)
      ∙ append_assoc old (own_nodes p form.circuit (kid_trees h.entries form)) _
      ∙ ap (λ l. old ++ (own_nodes p form.circuit (kid_trees h.entries form) ++ l))
      (joined_same (λ i. kid_nodes h.entries (slice_get kids i)) (λ i. flat_nodes (kid_place p form.circuit (kid_trees h.entries form) i) (kid_trees h.entries form i)) (length form.circuit.instances)
      (kid_laid_at flat_nodes (kid_nodes h.entries) (λ _. refl)))
      ∙ ap (λ t. old ++ flat_nodes p t) (sym (unfolds h legal entry form at))

  pub memories_laid : (old mid end : List Memory) (n : ℕ) → mid ≡ old ++ own_memories p form.circuit (kid_trees h.entries form) → n ≡ length kids
      → end ≡ mid ++ joined (λ i. kid_memories h.entries (slice_get kids i)) n → end ≡ old ++ flat_memories p (unfolding_of h.entries entry)
  memories_laid old mid end n a b c =
      c ∙ ap (λ l. l ++ joined (λ i. kid_memories h.entries (slice_get kids i)) n) a
      ∙ ap (λ k. old ++ own_memories p form.circuit (kid_trees h.entries form) ++ joined (λ i. kid_memories h.entries (slice_get kids i)) k) (b ∙ are.many)
      ∙ append_assoc old (own_memories p form.circuit (kid_trees h.entries form)) _
      ∙ ap (λ l. old ++ (own_memories p form.circuit (kid_trees h.entries form) ++ l))
      (joined_same (λ i. kid_memories h.entries (slice_get kids i)) (λ i. flat_memories (kid_place p form.circuit (kid_trees h.entries form) i) (kid_trees h.entries form i))
      (length form.circuit.instances)
      (kid_laid_at flat_memories (kid_memories h.entries) (λ _. refl)))
      ∙ ap (λ t. old ++ flat_memories p t) (sym (unfolds h legal entry form at))

pub no_more : {X : Type 0} (xs : List X) (i : ℕ) → i ≤ length xs → length xs ≤ i → i ≡ length xs
no_more xs i a b = omega (arith, a, b)
