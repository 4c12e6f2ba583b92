-- The unfolding of an elaborated entry is a tree of lawful and checked circuits.
use Rattle.std.proofs.Common.{◌≡◌, ℕ, zero, suc, ◌+◌, ◌<◌, ◌≤◌, ◌==◌, Bool, true, false, cond, List, [], ◌∷◌, ◌++◌, map, length, refl, sym, ap, subst, ◌∙◌, arith}
use Rattle.std.specs.Prelude.{Some, slice_get, count_by}
use Rattle.std.proofs.lemmas.Bool.Decides.{Decides-eqb}
use Rattle.std.proofs.lemmas.List.Sums.{sum_by-cons}
use Rattle.std.proofs.lemmas.Option.{slice_get_within}
use Rattle.hc_signal.specs.Member.{Has, first, later}
use Rattle.hc_signal.specs.Graph.{Graph}
use Rattle.hc_signal.specs.Occurrences.{HasCombLoop}
use Rattle.hc_canon.specs.declared.form.EntryId.{EntryId}
use Rattle.hc_canon.specs.FormView.{FormView, IsForm}
use Rattle.hc_walk.proofs.Members.{has_slice}
use Rattle.hc_dbstate.specs.History.{History, IsLegal}
use Rattle.hc_dbstate.specs.Unfolding.{unfolding_of}
use Rattle.hc_dbstate.specs.declared.hier.Hier.{Hier}
use Rattle.hc_dbstate.specs.Elaboration.{CallRow, CallView, IsCallOver, IsElaboration, hier_view, times, walk}
use Rattle.hc_dbstate.proofs.Triples.{some_at}
use Rattle.hc_dbstate.proofs.Unfolded.{kid_below, unfolds}
use Rattle.hc_flatten.proofs.Good.{IsGood}
use Rattle.hc_flatten.proofs.Kids.{kid_is, kid_graph, kid_known}

count_cons : {X : Type 0} (p : X → Bool) (x : X) (xs : List X) → count_by p (x ∷ xs) ≡ cond (p x) 1 0 + count_by p xs
count_cons p x xs = sum_by-cons (λ y. cond (p y) 1 0) x xs

has_times : (id : EntryId) (ids : List EntryId) → Has ids id → 1 ≤ times id ids
has_times id [] h = elim h [ ]
has_times id (x ∷ ids) first =
    let same : (id.0 == id.0) ≡ true = (Decides-eqb id.0 id.0).1 refl in
    let e : times id (id ∷ ids) ≡ 1 + times id ids = count_cons (λ (y : EntryId). y.0 == id.0) id ids ∙ ap (λ (b : Bool). cond b 1 0 + times id ids) same in
    omega (arith, e)
has_times id (x ∷ ids) (later h) = by (x.0 == id.0) refl (has_times id ids h)
  where
    by : (b : Bool) → (x.0 == id.0) ≡ b → 1 ≤ times id ids → 1 ≤ times id (x ∷ ids)
    by true e le = let n : times id (x ∷ ids) ≡ 1 + times id ids = count_cons (λ (y : EntryId). y.0 == id.0) x ids ∙ ap (λ (b : Bool). cond b 1 0 + times id ids) e in omega (arith, n)
    by false e le = let n : times id (x ∷ ids) ≡ 0 + times id ids = count_cons (λ (y : EntryId). y.0 == id.0) x ids ∙ ap (λ (b : Bool). cond b 1 0 + times id ids) e in omega (arith, n, le)

abbrev entry_of : CallRow → EntryId
entry_of k = k.entry

times_has : (id : EntryId) (kids : List CallRow) → 1 ≤ times id (map entry_of kids) → (k : CallRow) × Has kids k × (k.entry ≡ id)
times_has id [] le = absurd (omega (arith, le))
times_has id (k ∷ kids) le = by (λ more. times_has id kids more) (k.entry.0 == id.0) refl
  where
    by : (1 ≤ times id (map entry_of kids) → (j : CallRow) × Has kids j × (j.entry ≡ id)) → (b : Bool) → (k.entry.0 == id.0) ≡ b → (j : CallRow) × Has (k ∷ kids) j × (j.entry ≡ id)
    by more true e = (k, first, ap (λ (n : ℕ). let i : EntryId = record { 0 = n } in i) ((Decides-eqb k.entry.0 id.0).0 e))
    by more false e =
        let n : times id (entry_of k ∷ map entry_of kids) ≡ 0 + times id (map entry_of kids) = count_cons (λ (y : EntryId). y.0 == id.0) (entry_of k) (map entry_of kids)
        ∙ ap (λ (b : Bool). cond b 1 0 + times id (map entry_of kids)) e in
        let j = more (omega (arith, n, le)) in (j.0, later j.1, j.2)

last_has : {X : Type 0} (xs : List X) (x : X) → Has (xs ++ x ∷ []) x
last_has [] x = first
last_has (y ∷ xs) x = later (last_has xs x)

module _ (h : History) (legal : IsLegal h) (hier : Hier) (over : IsElaboration h.entries hier)
    (own : (calls : List CallView) × (last : CallView) × (walk hier ≡ calls ++ last ∷ []) × (last.own ≡ (hier_view hier).own))
    (kids : (call : CallView) (row : CallRow) → Has (walk hier) call → Has call.kids row → (other : CallView) × Has (walk hier) other × (other.own ≡ row)) where
  good_below : (n : ℕ) (call : CallView) → Has (walk hier) call → call.own.entry.0 < n → IsGood (unfolding_of h.entries call.own.entry)
  good_below zero call has b = absurd (omega (arith, b))
  good_below (suc n) call has b =
      let o : IsCallOver h.entries call = over.calls call has in
      let form : IsForm o.form = legal.forms call.own.entry.0 o.form o.found in
      subst IsGood (sym (unfolds h legal call.own.entry o.form o.found)) (
        form.lawful,
        form.checked,
        λ i it e. (
            let i_in : i < length o.form.circuit.instances = slice_get_within o.form.circuit.instances i it e in
            let k : (id : EntryId) × (slice_get o.form.kids i ≡ Some id) = some_at o.form.kids i (subst (λ m. i < m) (sym form.kids) i_in) in
            let lower : k.0.0 < call.own.entry.0 = kid_below h legal call.own.entry.0 o.form i k.0 o.found k.1 in
            let there : k.0.0 < length h.entries = kid_known h legal o.form (call.own.entry.0, o.found) i k.0 k.1 in
            let x : (x : FormView) × (slice_get h.entries k.0.0 ≡ Some x) = some_at h.entries k.0.0 there in
            let one : 1 ≤ times k.0 o.form.kids = has_times k.0 o.form.kids (has_slice o.form.kids i k.0 k.1) in
            let le : times k.0 o.form.kids ≤ times k.0 (map entry_of call.kids) = o.kids k.0 in
            let row : (row : CallRow) × Has call.kids row × (row.entry ≡ k.0) = times_has k.0 call.kids (omega (arith, one, le)) in
            let other : (other : CallView) × Has (walk hier) other × (other.own ≡ row.0) = kids call row.0 has row.1 in
            let same : other.0.own.entry ≡ k.0 = ap (λ (r : CallRow). r.entry) other.2 ∙ row.2 in
            let less : other.0.own.entry.0 < n = (let s : other.0.own.entry.0 ≡ k.0.0 = ap (λ (id : EntryId). id.0) same in omega (arith, s, lower, b)) in
            let good : IsGood (unfolding_of h.entries k.0) = subst (λ id. IsGood (unfolding_of h.entries id)) same (good_below n other.0 other.1 less) in
            (ap (λ (g : Graph). g.ports) (kid_graph h legal o.form i k.0 x.0 k.1 x.1) ∙ o.ports i it k.0 x.0 e k.1 x.1, subst IsGood (sym (kid_is h legal o.form i k.0 k.1)) good)),
      )

  top_call : (call : CallView) × Has (walk hier) call × (call.own.entry ≡ (hier_view hier).own.entry)
  top_call = (own.1, subst (λ (calls : List CallView). Has calls own.1) (sym own.2) (last_has own.0 own.1), ap (λ (r : CallRow). r.entry) own.3)

  pub top_good : IsGood (unfolding_of h.entries (hier_view hier).own.entry)
  top_good = subst (λ id. IsGood (unfolding_of h.entries id)) top_call.2
      (let b : top_call.0.own.entry.0 < suc top_call.0.own.entry.0 = omega arith in good_below (suc top_call.0.own.entry.0) top_call.0 top_call.1 b)

  pub top_no_loop : ¬ HasCombLoop (unfolding_of h.entries (hier_view hier).own.entry)
  top_no_loop = subst (λ id. ¬ HasCombLoop (unfolding_of h.entries id)) top_call.2 (over.calls top_call.0 top_call.1).no_loop

  pub top_within : (hier_view hier).own.entry.0 < length h.entries
  top_within = (let o : _ = over.calls top_call.0 top_call.1 in subst (λ (id : EntryId). id.0 < length h.entries) top_call.2 (slice_get_within h.entries top_call.0.own.entry.0 o.form o.found))
