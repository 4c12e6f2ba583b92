-- Each instance with a number is of an entry that the top uses, whose unfolding is whole.
use Rattle.std.proofs.Common.{◌≡◌, ℕ, ◌<◌, List, [], ◌∷◌, length, refl, sym, ap, subst, ◌∙◌, arith}
use Rattle.std.specs.Prelude.{Option, Some, slice_get}
use Rattle.std.proofs.lemmas.Option.{slice_get_within}
use Rattle.hc_signal.specs.Tree.{IsWhole}
use Rattle.hc_walk.proofs.Members.{has_slice}
use Rattle.hc_canon.specs.declared.form.EntryId.{EntryId}
use Rattle.hc_canon.specs.FormView.{FormView}
use Rattle.hc_dbstate.specs.History.{History, IsLegal}
use Rattle.hc_dbstate.specs.Unfolding.{unfolding_of}
use Rattle.hc_dbstate.specs.Uses.{Uses, itself, kid as uses_kid}
use Rattle.hc_dbstate.proofs.Triples.{some_once, some_at}
use Rattle.hc_layout.specs.Layout.{IsLayout, Layout, place}
use Rattle.hc_layout.proofs.Laid.{kids_are}
use Rattle.hc_layout.proofs.Placed.{below}
use Rattle.hc_settling.specs.Compiled.{entry_at, kid_entry, kid_of}
use Rattle.hc_hiersite.proofs.Connected.{IsKidOf, kid_of_whole}

pub record IsStanding (h : History) (top : EntryId) (path : List ℕ) (id : EntryId) : Type 0 where
  pub entry : entry_at h.entries top path ≡ Some id
  pub used : Uses h.entries top id
  pub whole : IsWhole (unfolding_of h.entries id)

module _ (h : History) (legal : IsLegal h) (top : EntryId) (l : Layout) (lay : IsLayout h.entries top l) (whole : IsWhole (unfolding_of h.entries top)) where
  kid_whole : (id kid : EntryId) (form : FormView) (i : ℕ) → slice_get h.entries id.0 ≡ Some form → IsWhole (unfolding_of h.entries id) → slice_get form.kids i ≡ Some kid
      → IsWhole (unfolding_of h.entries kid)
  kid_whole id kid form i found w e =
      let many : length form.kids ≡ length form.circuit.instances = (legal.forms id.0 form found).kids in
      let has : i < length form.kids = slice_get_within form.kids i kid e in
      let inside : i < length form.circuit.instances = omega (arith, has, many) in
      let it = some_at form.circuit.instances i inside in
      let k : IsKidOf h form i it.0 = kid_of_whole h legal id form found w i it.0 it.1 in
      subst (λ (x : EntryId). IsWhole (unfolding_of h.entries x)) (some_once (sym k.is.entry ∙ e)) k.whole

  pub standing : (path : List ℕ) (p : ℕ) (id : EntryId) → place h.entries l path ≡ Some p → slice_get l.entries p ≡ Some id → IsStanding h top path id
  standing [] p id e f =
      let same : top ≡ id = some_once (sym lay.laid.root ∙ ap (slice_get l.entries) (some_once e) ∙ f) in
      subst (λ (x : EntryId). IsStanding h top [] x) same (record { entry = refl; used = itself; whole = whole })
  standing (i ∷ path) p id e f =
      let b = below h.entries l path i p e in
      let up : IsStanding h top path b.own.id = standing path b.p b.own.id b.above b.own.entry_is in
      let form = some_at h.entries b.own.id.0 (lay.laid.known b.p b.own.id b.own.entry_is) in
      let kid : slice_get form.0.kids i ≡ Some b.own.kid = ap (λ ks. slice_get ks i) (sym (kids_are h.entries b.own.id form.0 form.1)) ∙ b.own.kid_is in
      let at_own = lay.laid.own b.p i b.own.begin b.own.id b.own.kid b.own.entry_is b.own.start_is b.own.kid_is in
      let same : b.own.kid ≡ id = some_once (sym at_own ∙ ap (slice_get l.entries) (sym b.own.number_is) ∙ f) in
      subst (λ (x : EntryId). IsStanding h top (i ∷ path) x) same (record {
        entry = ap (λ (o : Option EntryId). kid_entry h.entries o i) up.entry ∙ ap (λ (o : Option FormView). kid_of o i) form.1 ∙ kid;
        used = uses_kid form.0 up.used form.1 (has_slice form.0.kids i b.own.kid kid);
        whole = kid_whole b.own.id b.own.kid form.0 i form.1 up.whole kid;
      })
