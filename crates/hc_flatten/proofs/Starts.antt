-- Sums of sizes before an instance.
use Rattle.std.proofs.Common.{◌≡◌, ℕ, zero, suc, ◌+◌, inl, inr, List, [], ◌∷◌, ◌++◌, length, refl, sym, ◌∙◌, ap, subst, arith, length-append}
use Rattle.std.specs.Prelude.{slice_get, Option, Some, IfSome}
use Rattle.hc_signal.specs.Tree.{Tree}
use Rattle.hc_canon.specs.declared.form.EntryId.{EntryId}
use Rattle.hc_canon.specs.FormView.{FormView}
use Rattle.hc_canon.proofs.LaidOut.{slice_cases}
use Rattle.hc_dbstate.specs.Unfolding.{kid_tree, unfolding_of, tree_of}
use Rattle.hc_dbstate.proofs.Triples.{some_once}
use Rattle.hc_flatten.specs.declared.size.Size.{Size}
use Rattle.hc_flatten.specs.declared.place.Place.{Place}
use Rattle.hc_flatten.specs.Sizes.{sum_to, total, nodes_in, memories_in, HasSize, AreSizes, IsAfter, Reaches}
use Rattle.hc_flatten.specs.Flattened.{kid_trees, nodes_before, memories_before}

-- the sizes of one instance more
pub reaches_more : (entries : List FormView) (sizes : List (Option Size)) (form : FormView) (a b i : ℕ) (id : EntryId) (start end : Size)
    → AreSizes entries sizes → slice_get form.kids i ≡ Some id → Reaches a b (kid_trees entries form) i start → IsAfter sizes start id end → Reaches a b (kid_trees entries form) (suc i) end
reaches_more entries sizes form a b i id start end are q r f =
    let s : HasSize (unfolding_of entries id) f.size = are id.0 f.size f.found in
    let t : kid_trees entries form i ≡ unfolding_of entries id = ap (kid_tree (λ k. unfolding_of entries (record { 0 = k }))) q in
    let n : f.size.nodes ≡ total nodes_in (kid_trees entries form i) = s.nodes ∙ ap (total nodes_in) (sym t) in
    let m : f.size.memories ≡ total memories_in (kid_trees entries form i) = s.memories ∙ ap (total memories_in) (sym t) in
    record {
      nodes = (let x : end.nodes ≡ start.nodes + f.size.nodes = f.nodes in let y : start.nodes ≡ a + sum_to (λ j. total nodes_in (kid_trees entries form j)) i = r.nodes in omega (arith, x, y, n));
      memories = (let x : end.memories ≡ start.memories + f.size.memories = f.memories in let y : start.memories ≡ b + sum_to
          (λ j. total memories_in (kid_trees entries form j)) i = r.memories in omega (arith, x, y, m));
    }

pub reaches_none : (a b : ℕ) (kids : ℕ → Tree) (s : Size) → s.nodes ≡ a → s.memories ≡ b → Reaches a b kids 0 s
reaches_none a b kids s n m = record { nodes = omega (arith, n); memories = omega (arith, m) }

-- the size of a form from the sum over all its instances
pub size_of_form : (entries : List FormView) (form : FormView) (s : Size)
    → Reaches (length form.circuit.nodes) (length form.circuit.memories) (kid_trees entries form) (length form.circuit.instances) s → HasSize (tree_of entries form) s
size_of_form entries form s r = record { nodes = r.nodes; memories = r.memories }

-- the starts of the first instances
pub record AreFirstStarts (p : Place) (form : FormView) (entries : List FormView) (starts : List Size) (n : ℕ) : Type 0 where
  pub many : length starts ≡ n
  pub each : (i : ℕ) (start : Size) → slice_get starts i ≡ Some start
      → (start.nodes ≡ nodes_before p form.circuit (kid_trees entries form) i) × (start.memories ≡ memories_before p form.circuit (kid_trees entries form) i)

only_zero : (j : ℕ) (x y : Size) → slice_get (x ∷ []) j ≡ Some y → (j ≡ 0) × (x ≡ y)
only_zero zero x y e = (refl, some_once e)
only_zero (suc j) x y e = cc

pub starts_more : (p : Place) (form : FormView) (entries : List FormView) (starts : List Size) (n : ℕ) (s : Size) → AreFirstStarts p form entries starts n
    → Reaches (p.nodes + length form.circuit.nodes) (p.memories + length form.circuit.memories) (kid_trees entries form) n s → AreFirstStarts p form entries (starts ++ s ∷ []) (suc n)
starts_more p form entries starts n s a r = record {
  many = (let m : length starts ≡ n = a.many in let l : length (starts ++ s ∷ []) ≡ length starts + 1 = length-append starts (s ∷ []) in omega (arith, m, l));
  each = λ i start e. (elim (slice_cases starts (s ∷ []) i start e) [
    | inl l ↦ a.each i start l
    | inr q ↦ (let z : (q.0 ≡ 0) × (s ≡ start) = only_zero q.0 s start q.2 in
        let x : q.0 ≡ 0 = z.0 in let y : i ≡ length starts + q.0 = q.1 in let m : length starts ≡ n = a.many in
        let t : i ≡ n = omega (arith, x, y, m) in (
          ap (λ (w : Size). w.nodes) (sym z.1) ∙ r.nodes ∙ ap (nodes_before p form.circuit (kid_trees entries form)) (sym t),
          ap (λ (w : Size). w.memories) (sym z.1) ∙ r.memories
              ∙ ap (memories_before p form.circuit (kid_trees entries form)) (sym t),
        ))
  ]);
}

pub reaches_next : (entries : List FormView) (sizes : List (Option Size)) (form : FormView) (a b i : ℕ) (id : EntryId) (start end : Size)
    → AreSizes entries sizes → slice_get form.kids i ≡ Some id → Reaches a b (kid_trees entries form) i start → IsAfter sizes start id end → Reaches a b (kid_trees entries form) (i + 1) end
reaches_next entries sizes form a b i id start end are q r f =
    (let e : suc i ≡ i + 1 = omega arith in subst (λ n. Reaches a b (kid_trees entries form) n end) e (reaches_more entries sizes form a b i id start end are q r f))

pub starts_next : (p : Place) (form : FormView) (entries : List FormView) (starts new : List Size) (n : ℕ) (s : Size) → AreFirstStarts p form entries starts n
    → Reaches (p.nodes + length form.circuit.nodes) (p.memories + length form.circuit.memories) (kid_trees entries form) n s → new ≡ starts ++ s ∷ [] → AreFirstStarts p form entries new (n + 1)
starts_next p form entries starts new n s a r q =
    (let e : suc n ≡ n + 1 = omega arith in subst (λ l. AreFirstStarts p form entries l (n + 1)) (sym q)
    (subst (λ k. AreFirstStarts p form entries (starts ++ s ∷ []) k) e (starts_more p form entries starts n s a r)))

-- the sizes of one entry more
only_first : {X : Type 0} (j : ℕ) (x y : X) → slice_get (x ∷ []) j ≡ Some y → (j ≡ 0) × (x ≡ y)
only_first zero x y e = (refl, some_once e)
only_first (suc j) x y e = cc

pub sizes_more : (entries : List FormView) (sizes new : List (Option Size)) (k : ℕ) (form : FormView) (o : Option Size) → length sizes ≡ k → AreSizes entries sizes
    → unfolding_of entries (record { 0 = k }) ≡ tree_of entries form
    → IfSome o (HasSize (tree_of entries form)) → new ≡ sizes ++ o ∷ [] → AreSizes entries new
sizes_more entries sizes new k form o m are u h q i size e =
    elim (slice_cases sizes (o ∷ []) i (Some size) (subst (λ l. slice_get l i ≡ Some (Some size)) q e)) [
      | inl l ↦ are i size l
      | inr r ↦ (let z : (r.0 ≡ 0) × (o ≡ Some size) = only_first r.0 o (Some size) r.2 in
          let x : r.0 ≡ 0 = z.0 in let y : i ≡ length sizes + r.0 = r.1 in let t : k ≡ i = omega (arith, x, y, m) in
          subst (λ n. HasSize (unfolding_of entries (record { 0 = n })) size) t (subst (λ v. HasSize v size) (sym u) (subst (λ w. IfSome w (HasSize (tree_of entries form))) z.1 h)))
    ]
