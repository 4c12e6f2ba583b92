-- What is made for an entry fits.
use Rattle.std.proofs.Common.{◌≡◌, ℕ, ◌+◌, ◌<◌, List, [], length, sym, ap, subst, ◌∙◌, arith}
use Rattle.std.specs.Prelude.{Option, Some, slice_get}
use Rattle.hc_signal.specs.Member.{Has}
use Rattle.hc_walk.proofs.Members.{has_slice}
use Rattle.hc_canon.specs.declared.form.EntryId.{EntryId}
use Rattle.hc_canon.specs.FormView.{FormView}
use Rattle.hc_dbstate.specs.History.{History}
use Rattle.hc_dbstate.proofs.Triples.{some_once, some_at}
use Rattle.hc_layout.specs.Layout.{Layout, kids_of, place}
use Rattle.hc_layout.proofs.Laid.{kids_are}
use Rattle.hc_layout.proofs.Placed.{numbered, within}
use Rattle.hc_rows.specs.Rows.{row_at}
use Rattle.hc_steps.specs.Plan.{Step, steps_at, Begins}
use Rattle.hc_steps.specs.Compiled.{PlanView, IsCompiled, IsPlanned, parts_in, parts_of_kid}
use Rattle.hc_store.specs.Given.{Given, IsInstance, IsFitAt, IsFit, FitsStep}
use Rattle.hc_hiersite.specs.Made.{IsMade}
use Rattle.hc_hiersite.proofs.Standing.{IsStanding, standing}
use Rattle.hc_hiersite.proofs.Steps.{fits_steps}

module _ (h : History) (top : EntryId) (g : Given) (l : Layout) (made : IsMade h top g l) where
  pub entry_of : (p : ℕ) (id : EntryId) → slice_get g.entries p ≡ Some id → slice_get l.entries p ≡ Some id
  entry_of p id e = ap (λ (xs : List EntryId). slice_get xs p) (sym made.entries) ∙ e

  pub form_of : (id : EntryId) (form : FormView) → slice_get g.forms id.0 ≡ Some form → slice_get h.entries id.0 ≡ Some form
  form_of id form e = ap (λ (xs : List FormView). slice_get xs id.0) (sym made.forms) ∙ e

  pub first_of : (p begin : ℕ) → slice_get g.first p ≡ Some begin → slice_get l.first p ≡ Some begin
  first_of p begin e = ap (λ (xs : List ℕ). slice_get xs p) (sym made.first) ∙ e

  pub kid_in : (id kid : EntryId) (form : FormView) (i : ℕ) → slice_get g.forms id.0 ≡ Some form → slice_get form.kids i ≡ Some kid → slice_get (kids_of h.entries id) i ≡ Some kid
  kid_in id kid form i found e = ap (λ ks. slice_get ks i) (kids_are h.entries id form (form_of id form found)) ∙ e

  pub stands : (path : List ℕ) (p : ℕ) (id : EntryId) → place h.entries l path ≡ Some p → slice_get g.entries p ≡ Some id → IsStanding h top path id
  stands path p id e f = standing h made.legal top l made.layout made.whole path p id e (entry_of p id f)

  pub compiled_at : (path : List ℕ) (p : ℕ) (id : EntryId) (form : FormView) (plan : PlanView) → place h.entries l path ≡ Some p → IsInstance g p id form plan
      → IsCompiled h.entries g.plans form plan
  compiled_at path p id form plan e is =
      let own : IsPlanned h.entries g.plans id form = made.compiled id form (stands path p id e is.entry).used (form_of id form is.found) in
      subst (λ (x : PlanView). IsCompiled h.entries g.plans form x) (some_once (sym own.1 ∙ is.planned)) own.2

  -- each part has the number of the part that runs it
  pub parts_up : (p : ℕ) (id : EntryId) (form : FormView) (plan : PlanView) → p < length l.entries → IsInstance g p id form plan → length (row_at g.up p) ≡ length plan.parts
  parts_up p id form plan w is =
      let many : length g.up ≡ length l.entries = made.up.whole in
      let inside : p < length g.up = omega (arith, w, many) in
      made.up.runners.parts p id inside (entry_of p id is.entry) ∙ ap (λ (o : Option PlanView). length (parts_in o)) is.planned

  first_there : (p : ℕ) → p < length l.entries → p < length g.first
  first_there p w =
      let same : length g.first ≡ length l.first = ap length made.first in
      let many : length l.first ≡ length l.entries = made.layout.whole in
      omega (arith, w, same, many)

  kids_there : (p : ℕ) (id : EntryId) (form : FormView) (plan : PlanView) → IsInstance g p id form plan → (i begin : ℕ) (kid : EntryId) → slice_get form.kids i ≡ Some kid
      → slice_get g.first p ≡ Some begin → (kid.0 < id.0) × (slice_get g.entries (begin + i) ≡ Some kid)
  kids_there p id form plan is i begin kid k f = (
    made.legal.kids id.0 form kid (form_of id form is.found) (has_slice form.kids i kid k),
    ap (λ (xs : List EntryId). slice_get xs (begin + i)) made.entries
        ∙ made.layout.laid.own p i begin id kid (entry_of p id is.entry) (first_of p begin f) (kid_in id kid form i is.found k),
  )

  steps_there : (path : List ℕ) (p : ℕ) (id : EntryId) (form : FormView) (plan : PlanView) → place h.entries l path ≡ Some p → IsInstance g p id form plan
      → (part : ℕ) (step : Step) → Has (steps_at plan.parts part) step → FitsStep g.forms form step
  steps_there path p id form plan e is part step c =
      let own : IsCompiled h.entries g.plans form plan = compiled_at path p id form plan e is in
      let fits : FitsStep h.entries form step = fits_steps h made.legal id form (form_of id form is.found) (stands path p id e is.entry).whole (parts_of_kid g.plans form)
      (Begins form.circuit plan.parts part) [] (steps_at plan.parts part) step (own.is_plan.parts part) c in
      subst (λ (fs : List FormView). FitsStep fs form step) (sym made.forms) fits

  fit_at : (path : List ℕ) (p : ℕ) (id : EntryId) (form : FormView) (plan : PlanView) → place h.entries l path ≡ Some p → IsInstance g p id form plan → IsFitAt g p id form plan
  fit_at path p id form plan e is =
      let w : p < length l.entries = within h.entries top l made.layout path p e in
      record {
        parts = parts_up p id form plan w is;
        few = made.short id.0 plan is.planned;
        registers = made.rows.registers p form (id, is.entry, is.found);
        words = made.rows.words p form (id, is.entry, is.found);
        first = first_there p w;
        kids = kids_there p id form plan is;
        steps = steps_there path p id form plan e is;
      }

  abbrev AnInstance : ℕ → Type 0
  AnInstance p = (id : EntryId) × (form : FormView) × (plan : PlanView) × IsInstance g p id form plan × IsFitAt g p id form plan

  instance_at : (p : ℕ) → p < length g.entries → AnInstance p
  instance_at p w =
      let same : length g.entries ≡ length l.entries = ap length made.entries in
      let v : p < length l.entries = omega (arith, w, same) in
      let next : p < p + 1 = omega arith in
      let at = numbered h.entries top l made.layout (p + 1) p next v in
      let id : (id : EntryId) × (slice_get g.entries p ≡ Some id) = some_at g.entries p w in
      let form = some_at h.entries id.0.0 (made.layout.laid.known p id.0 (entry_of p id.0 id.1)) in
      let plan : IsPlanned h.entries g.plans id.0 form.0 = made.compiled id.0 form.0 (stands at.0 p id.0 at.1 id.1).used form.1 in
      let found : slice_get g.forms id.0.0 ≡ Some form.0 = ap (λ (xs : List FormView). slice_get xs id.0.0) made.forms ∙ form.1 in
      let is : IsInstance g p id.0 form.0 plan.0 = record { entry = id.1; found = found; planned = plan.1 } in
      (id.0, form.0, plan.0, is, fit_at at.0 p id.0 form.0 plan.0 at.1 is)

  pub made_fit : IsFit g
  made_fit = record { instances = instance_at; up = made.up.runners.lower }
