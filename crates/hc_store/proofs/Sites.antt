-- The one entry, form and plan of an instance, and what they have.
use Rattle.std.proofs.Common.{◌≡◌, ℕ, ◌+◌, ◌<◌, List, length, sym, ap, subst, ◌∙◌}
use Rattle.std.specs.Prelude.{Option, Some, None, slice_get}
use Rattle.std.proofs.lemmas.Option.{slice_get_within}
use Rattle.hc_canon.specs.declared.form.EntryId.{EntryId}
use Rattle.hc_canon.specs.FormView.{FormView}
use Rattle.hc_steps.specs.Plan.{Step}
use Rattle.hc_steps.specs.Compiled.{PlanView}
use Rattle.hc_store.proofs.Wakes.{get_at}
use Rattle.hc_store.specs.Given.{Given, IsInstance, IsFit, IsFitAt, IsStepAt, FitsStep}

pub one_of : {X : Type 0} (a b : X) → ◌≡◌ {A = Option X} (Some a) (Some b) → a ≡ b
one_of a b e = cc

module _ (g : Given) (p : ℕ) where
  pub one_entry : (id e : EntryId) → slice_get g.entries p ≡ Some id → slice_get g.entries p ≡ Some e → id ≡ e
  one_entry id e a b = one_of id e (sym a ∙ b)

  pub one_form : (id : EntryId) (form : FormView) (plan : PlanView) (e : EntryId) (f : FormView) → IsInstance g p id form plan → slice_get g.entries p ≡ Some e
      → slice_get g.forms e.0 ≡ Some f → form ≡ f
  one_form id form plan e f is a b = one_of form f (sym is.found ∙ ap (λ (i : EntryId). slice_get g.forms i.0) (one_entry id e is.entry a) ∙ b)

  pub one_plan : (id : EntryId) (form : FormView) (plan : PlanView) (e : EntryId) (other : PlanView) → IsInstance g p id form plan → slice_get g.entries p ≡ Some e
      → slice_get g.plans e.0 ≡ Some other → plan ≡ other
  one_plan id form plan e other is a b = one_of plan other (sym is.planned ∙ ap (λ (i : EntryId). slice_get g.plans i.0) (one_entry id e is.entry a) ∙ b)

  pub within_entries : (id : EntryId) (form : FormView) (plan : PlanView) → IsInstance g p id form plan → p < length g.entries
  within_entries id form plan is = slice_get_within g.entries p id is.entry

  pub form_there : (fit : IsFit g) (e : EntryId) → p < length g.entries → slice_get g.entries p ≡ Some e → e.0 < length g.forms
  form_there fit e l a = let i = fit.instances p l in slice_get_within g.forms e.0 i.1 (ap (λ (j : EntryId). slice_get g.forms j.0) (one_entry e i.0 a i.3.entry) ∙ i.3.found)

  pub plan_there : (fit : IsFit g) (e : EntryId) → p < length g.entries → slice_get g.entries p ≡ Some e → e.0 < length g.plans
  plan_there fit e l a = let i = fit.instances p l in slice_get_within g.plans e.0 i.2 (ap (λ (j : EntryId). slice_get g.plans j.0) (one_entry e i.0 a i.3.entry) ∙ i.3.planned)

  pub fits_here : (fit : IsFit g) (id : EntryId) (form : FormView) (plan : PlanView) → IsInstance g p id form plan → IsFitAt g p id form plan
  fits_here fit id form plan is =
      let i = fit.instances p (within_entries id form plan is) in
      let ids : i.0 ≡ id = one_entry i.0 id i.3.entry is.entry in
      let forms : i.1 ≡ form = one_form i.0 i.1 i.2 id form i.3 is.entry is.found in
      let plans : i.2 ≡ plan = one_plan i.0 i.1 i.2 id plan i.3 is.entry is.planned in
      let a : IsFitAt g p id i.1 i.2 = subst (λ (e : EntryId). IsFitAt g p e i.1 i.2) ids i.4 in
      let b : IsFitAt g p id form i.2 = subst (λ (f : FormView). IsFitAt g p id f i.2) forms a in
      subst (λ (q : PlanView). IsFitAt g p id form q) plans b

  pub step_fits : (fit : IsFit g) (part : ℕ) (step : Step) (at : IsStepAt g p part step) → FitsStep g.forms at.1 step
  step_fits fit part step at = (fits_here fit at.0 at.1 at.2 at.3).steps part step at.4

-- The instance of an instance that is of this entry, at the place that the code computes.
module _ (g : Given) (fit : IsFit g) (p i q : ℕ) (id : EntryId) (form : FormView) (plan : PlanView) (is : IsInstance g p id form plan) (kid : EntryId) (entry : slice_get form.kids i ≡ Some kid)
    (place : (first : ℕ) → slice_get g.first p ≡ Some first → q ≡ first + i) where
  pub first_of : (first : ℕ) × (slice_get g.first p ≡ Some first)
  first_of = let f = fits_here g p fit id form plan is in (_, get_at g.first p 0 f.first)

  pub kid_entry : slice_get g.entries q ≡ Some kid
  kid_entry =
      let f = fits_here g p fit id form plan is in let n = first_of in
      ap (slice_get g.entries) (place n.0 n.1) ∙ (f.kids i n.0 kid entry n.1).1

  pub kid_lower : kid.0 < id.0
  kid_lower = let f = fits_here g p fit id form plan is in let n = first_of in (f.kids i n.0 kid entry n.1).0

  pub kid_within : q < length g.entries
  kid_within = slice_get_within g.entries q kid kid_entry

  -- it is of that entry
  pub kid_is : (inner : FormView) → slice_get g.forms kid.0 ≡ Some inner → (below : PlanView) × IsInstance g q kid inner below
  kid_is inner found =
      let k = fit.instances q kid_within in
      let same : k.0 ≡ kid = one_entry g q k.0 kid k.3.entry kid_entry in
      (k.2, record { entry = kid_entry; found = found; planned = ap (λ (e : EntryId). slice_get g.plans e.0) (sym same) ∙ k.3.planned })

-- the number of an instance's entry
abbrev pub number_in : Option EntryId → ℕ
number_in None = 0
number_in (Some id) = id.0

abbrev pub entry_number : List EntryId → ℕ → ℕ
entry_number entries p = number_in (slice_get entries p)
