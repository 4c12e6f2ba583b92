-- The unfolding of an elaborated call is a whole tree of checked circuits.
use Rattle.std.proofs.Common.{◌≡◌, ℕ, zero, suc, ◌+◌, ◌<◌, ◌≤◌, map, length, sym, ap, subst, ◌∙◌, arith}
use Rattle.std.specs.Prelude.{Some, slice_get}
use Rattle.std.proofs.lemmas.Option.{slice_get_within}
use Rattle.hc_signal.specs.declared.signal.Instance.{Instance}
use Rattle.hc_signal.specs.Member.{Has}
use Rattle.hc_signal.specs.Graph.{Graph}
use Rattle.hc_signal.specs.Tree.{Tree, IsWhole, graph}
use Rattle.hc_canon.specs.declared.form.EntryId.{EntryId}
use Rattle.hc_canon.specs.FormView.{FormView, IsForm}
use Rattle.hc_walk.proofs.Members.{has_slice}
use Rattle.hc_dbstate.specs.History.{History, IsLegal}
use Rattle.hc_dbstate.specs.Unfolding.{AreChecked, kid_tree, unfolding_of}
use Rattle.hc_dbstate.specs.declared.hier.Hier.{Hier}
use Rattle.hc_dbstate.specs.Elaboration.{CallRow, CallView, IsCallOver, IsElaboration, hier_view, times, walk}
use Rattle.hc_dbstate.proofs.Called.{has_times, times_has, entry_of, top_called}
use Rattle.hc_dbstate.proofs.Triples.{some_at}
use Rattle.hc_dbstate.proofs.Unfolded.{kid_below, unfolded, unfolds}
use Rattle.hc_dbstate.proofs.Walks.{has_kids}

abbrev pub IsGood : Tree → Type 0
IsGood t = IsWhole t × AreChecked t

module _ (h : History) (legal : IsLegal h) (x : Hier) (over : IsElaboration h.entries x) where
  module _ (n : ℕ) (below : (call : CallView) → Has (walk x) call → call.own.entry.0 < n → IsGood (unfolding_of h.entries call.own.entry)) (call : CallView)
      (has : Has (walk x) call) (b : call.own.entry.0 < suc n) where
    over_call : IsCallOver h.entries call
    over_call = over.calls call has

    -- an instance of the call has the ports of its kid, whose tree is good
    good_kid : (o : IsCallOver h.entries call) (i : ℕ) (it : Instance) → slice_get o.form.circuit.instances i ≡ Some it
        → ((graph (kid_tree (unfolded h legal) (slice_get o.form.kids i))).ports ≡ it.ports) × IsGood (kid_tree (unfolded h legal) (slice_get o.form.kids i))
    good_kid o i it e =
        let form : IsForm o.form = legal.forms call.own.entry.0 o.form o.found in
        let i_in : i < length o.form.circuit.instances = slice_get_within o.form.circuit.instances i it e in
        let k : (id : EntryId) × (slice_get o.form.kids i ≡ Some id) = some_at o.form.kids i (subst (λ m. i < m) (sym form.kids) i_in) in
        let lower : k.0.0 < call.own.entry.0 = kid_below h legal call.own.entry.0 o.form i k.0 o.found k.1 in
        let inside : call.own.entry.0 < length h.entries = slice_get_within h.entries call.own.entry.0 o.form o.found in
        let f : (f : FormView) × (slice_get h.entries k.0.0 ≡ Some f) = some_at h.entries k.0.0 (omega (arith, lower, inside)) in
        let one : 1 ≤ times k.0 o.form.kids = has_times k.0 o.form.kids (has_slice o.form.kids i k.0 k.1) in
        let le : times k.0 o.form.kids ≤ times k.0 (map entry_of call.kids) = o.kids k.0 in
        let row : (row : CallRow) × Has call.kids row × (row.entry ≡ k.0) = times_has k.0 call.kids (omega (arith, one, le)) in
        let other : (other : CallView) × Has (walk x) other × (other.own ≡ row.0) = has_kids x call row.0 has row.1 in
        let same : other.0.own.entry ≡ k.0 = ap (λ (r : CallRow). r.entry) other.2 ∙ row.2 in
        let less : other.0.own.entry.0 < n = (let s : other.0.own.entry.0 ≡ k.0.0 = ap (λ (id : EntryId). id.0) same in omega (arith, s, lower, b)) in
        let good : IsGood (unfolding_of h.entries k.0) = subst (λ id. IsGood (unfolding_of h.entries id)) same (below other.0 other.1 less) in
        let is : kid_tree (unfolded h legal) (slice_get o.form.kids i) ≡ unfolding_of h.entries k.0 = ap (kid_tree (unfolded h legal)) k.1 in (
          ap (λ (t : Tree). (graph t).ports) (is ∙ unfolds h legal k.0 f.0 f.1) ∙ o.ports i it k.0 f.0 e k.1 f.1,
          subst IsGood (sym is) good,
        )

    good_call : (o : IsCallOver h.entries call) → IsGood (unfolding_of h.entries call.own.entry)
    good_call o =
        let form : IsForm o.form = legal.forms call.own.entry.0 o.form o.found in
        subst IsGood (sym (unfolds h legal call.own.entry o.form o.found)) (
          (form.lawful, λ i it e. (let k : _ = good_kid o i it e in (k.0, k.1.0))),
          (form.checked, λ i it e. (good_kid o i it e).1.1),
        )

  good_below : (n : ℕ) (call : CallView) → Has (walk x) call → call.own.entry.0 < n → IsGood (unfolding_of h.entries call.own.entry)
  good_below zero call has b = absurd (omega (arith, b))
  good_below (suc n) call has b = good_call n (λ other m l. good_below n other m l) call has b (over.calls call has)

  pub call_good : (call : CallView) → Has (walk x) call → IsGood (unfolding_of h.entries call.own.entry)
  call_good call has = let b : call.own.entry.0 < suc call.own.entry.0 = omega arith in good_below (suc call.own.entry.0) call has b

  pub top_good : IsGood (unfolding_of h.entries (hier_view x).own.entry)
  top_good = let c : _ = top_called h.entries x over in subst (λ id. IsGood (unfolding_of h.entries id)) c.2 (call_good c.0 c.1)
