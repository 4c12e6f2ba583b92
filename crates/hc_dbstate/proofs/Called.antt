-- The entries that the top of an elaboration uses are entries of its calls.
use Rattle.std.proofs.Common.{◌≡◌, ℕ, ◌+◌, ◌<◌, ◌≤◌, ◌==◌, Bool, true, false, cond, List, [], ◌∷◌, ◌++◌, map, length, refl, sym, ap, subst, ◌∙◌, arith}
use Rattle.std.specs.Prelude.{Option, Some, slice_get, count_by}
use Rattle.std.proofs.lemmas.Bool.Decides.{Decides-eqb}
use Rattle.std.proofs.lemmas.List.Sums.{sum_by-cons}
use Rattle.std.proofs.lemmas.Option.{slice_get_within}
use Rattle.hc_signal.specs.Member.{Has, first, later}
use Rattle.hc_canon.specs.declared.form.EntryId.{EntryId}
use Rattle.hc_canon.specs.FormView.{FormView}
use Rattle.hc_dbstate.specs.declared.hier.Hier.{Hier}
use Rattle.hc_dbstate.specs.Elaboration.{CallRow, CallView, IsElaboration, hier_view, times, walk}
use Rattle.hc_dbstate.proofs.Walks.{ends_itself, has_kids}
use Rattle.hc_dbstate.specs.Uses.{Uses, itself, kid}

count_cons : {X : Type 0} (p : X → Bool) (x : X) (xs : List X) → count_by p (x ∷ xs) ≡ cond (p x) 1 0 + count_by p xs
count_cons p x xs = sum_by-cons (λ y. cond (p y) 1 0) x xs

pub has_times : (id : EntryId) (ids : List EntryId) → Has ids id → 1 ≤ times id ids
has_times id [] h = elim h [ ]
has_times id (x ∷ ids) first =
    let same : (id.0 == id.0) ≡ true = (Decides-eqb id.0 id.0).1 refl in
    let e : times id (id ∷ ids) ≡ 1 + times id ids = count_cons (λ (y : EntryId). y.0 == id.0) id ids ∙ ap (λ (b : Bool). cond b 1 0 + times id ids) same in
    omega (arith, e)
has_times id (x ∷ ids) (later h) = by (x.0 == id.0) refl (has_times id ids h)
  where
    by : (b : Bool) → (x.0 == id.0) ≡ b → 1 ≤ times id ids → 1 ≤ times id (x ∷ ids)
    by true e le = let n : times id (x ∷ ids) ≡ 1 + times id ids = count_cons (λ (y : EntryId). y.0 == id.0) x ids ∙ ap (λ (b : Bool). cond b 1 0 + times id ids) e in omega (arith, n)
    by false e le = let n : times id (x ∷ ids) ≡ 0 + times id ids = count_cons (λ (y : EntryId). y.0 == id.0) x ids ∙ ap (λ (b : Bool). cond b 1 0 + times id ids) e in omega (arith, n, le)

abbrev pub entry_of : CallRow → EntryId
entry_of k = k.entry

-- a call whose entry stands among others
pub times_has : (id : EntryId) (kids : List CallRow) → 1 ≤ times id (map entry_of kids) → (k : CallRow) × Has kids k × (k.entry ≡ id)
times_has id [] le = absurd (omega (arith, le))
times_has id (k ∷ kids) le = by (λ more. times_has id kids more) (k.entry.0 == id.0) refl
  where
    by : (1 ≤ times id (map entry_of kids) → (j : CallRow) × Has kids j × (j.entry ≡ id)) → (b : Bool) → (k.entry.0 == id.0) ≡ b → (j : CallRow) × Has (k ∷ kids) j × (j.entry ≡ id)
    by more true e = (k, first, ap (λ (n : ℕ). let i : EntryId = record { 0 = n } in i) ((Decides-eqb k.entry.0 id.0).0 e))
    by more false e =
        let n : times id (entry_of k ∷ map entry_of kids) ≡ 0 + times id (map entry_of kids) = count_cons (λ (y : EntryId). y.0 == id.0) (entry_of k) (map entry_of kids)
        ∙ ap (λ (b : Bool). cond b 1 0 + times id (map entry_of kids)) e in
        let j = more (omega (arith, n, le)) in (j.0, later j.1, j.2)

module _ (entries : List FormView) (h : Hier) (over : IsElaboration entries h) where
  abbrev pub IsCalled : EntryId → Type 0
  IsCalled id = (call : CallView) × Has (walk h) call × (call.own.entry ≡ id)

  last_has : {X : Type 0} (xs : List X) (x : X) → Has (xs ++ x ∷ []) x
  last_has [] x = first
  last_has (y ∷ xs) x = later (last_has xs x)

  pub top_called : IsCalled (hier_view h).own.entry
  top_called = let own : _ = ends_itself h in (own.1, subst (λ (calls : List CallView). Has calls own.1) (sym own.2) (last_has own.0 own.1), ap (λ (r : CallRow). r.entry) own.3)

  same_form : (a b : FormView) → ◌≡◌ {A = Option FormView} (Some a) (Some b) → a ≡ b
  same_form a b e = cc

  pub called : (id : EntryId) → Uses entries (hier_view h).own.entry id → IsCalled id
  called id itself = top_called
  called id (kid {id = from} form used at has) =
      let c = called from used in
      let o = over.calls c.0 c.1 in
      let same : form ≡ o.form = same_form form o.form (sym at ∙ ap (λ (e : EntryId). slice_get entries e.0) (sym c.2) ∙ o.found) in
      let one = has_times id o.form.kids (subst (λ (f : FormView). Has f.kids id) same has) in
      let le = o.kids id in
      let k = times_has id c.0.kids (omega (arith, one, le)) in
      let other = has_kids h c.0 k.0 c.1 k.1 in
      (other.0, other.1, ap (λ (r : CallRow). r.entry) other.2 ∙ k.2)

  pub top_within : (hier_view h).own.entry.0 < length entries
  top_within =
      let o = over.calls top_called.0 top_called.1 in
      subst (λ (e : EntryId). e.0 < length entries) top_called.2 (slice_get_within entries top_called.0.own.entry.0 o.form o.found)
