-- One instance among all: its form, its plan and its rows.
use Rattle.std.proofs.Common.{◌≡◌, ◌≢◌, ℕ, ◌<◌, ◌⊎◌, inl, inr, List, map, length, refl, sym, ap, subst, ◌∙◌}
use Rattle.std.specs.Prelude.{Some, slice_get}
use Rattle.hc_bits.specs.BitVector.{BitVector}
use Rattle.hc_signal.specs.Graph.{Graph}
use Rattle.hc_canon.specs.declared.form.EntryId.{EntryId}
use Rattle.hc_canon.specs.FormView.{FormView}
use Rattle.hc_rows.specs.Rows.{row_at}
use Rattle.hc_steps.specs.Compiled.{PlanView}
use Rattle.hc_values.specs.Rows.{widths, node_widths, memory_widths}
use Rattle.hc_store.specs.declared.store.Store.{Store}
use Rattle.hc_store.specs.Given.{IsInstance, IsFit, IsFitAt}
use Rattle.hc_store.specs.Stored.{IsStoreOf}
use Rattle.hc_store.proofs.Sites.{one_entry, one_form, form_there, plan_there, fits_here}
use Rattle.hc_store.proofs.Wakes.{equal_or_not}
use Rattle.hc_edges.specs.declared.contents.Contents.{Contents}
use Rattle.hc_edges.specs.Clocked.{ClockedView, given}
use Rattle.hc_edges.specs.Edges.{IsSameAt}

module _ (c : ClockedView) where
  -- what stands where hangs on no contents
  pub instance_of : (old new : Contents) (p : ℕ) (id : EntryId) (form : FormView) (plan : PlanView) → IsInstance (given c old) p id form plan → IsInstance (given c new) p id form plan
  instance_of old new p id form plan is = record { entry = is.entry; found = is.found; planned = is.planned }

  pub store_of : (old new : Contents) (store : Store) → IsStoreOf (given c old) store → IsStoreOf (given c new) store
  store_of old new store s = record { values = λ p id form plan is. s.values p id form plan (instance_of new old p id form plan is); marks = s.marks; moved = s.moved; closed = s.closed }

  -- ---- what the code finds

  module _ (contents : Contents) (fit : IsFit (given c contents)) (p : ℕ) (within : p < length c.entries) (id : EntryId) (at : slice_get c.entries p ≡ Some id) where
    pub form_within : id.0 < length c.forms
    form_within = form_there (given c contents) p fit id within at

    pub plan_within : id.0 < length c.plans
    plan_within = plan_there (given c contents) p fit id within at

    module _ (form : FormView) (found : slice_get c.forms id.0 ≡ Some form) where
      pub found_here : (plan : PlanView) × IsInstance (given c contents) p id form plan
      found_here =
          let i = fit.instances p within in
          let same : i.0 ≡ id = one_entry (given c contents) p i.0 id i.3.entry at in
          (i.2, record { entry = at; found = found; planned = ap (λ (e : EntryId). slice_get c.plans e.0) (sym same) ∙ i.3.planned })

      module _ (circuit : Graph) (circuit_is : circuit ≡ form.circuit) where
        pub wide_registers : widths (row_at contents.registers p) ≡ node_widths circuit.nodes
        wide_registers =
            let h = found_here in
            let f = fits_here (given c contents) p fit id form h.0 h.1 in
            f.registers ∙ ap (λ (g : Graph). node_widths g.nodes) (sym circuit_is)

        pub wide_words : map widths (row_at contents.words p) ≡ map memory_widths circuit.memories
        wide_words =
            let h = found_here in
            let f = fits_here (given c contents) p fit id form h.0 h.1 in
            f.words ∙ ap (λ (g : Graph). map memory_widths g.memories) (sym circuit_is)

        pub wide_values : (store : Store) → IsStoreOf (given c contents) store → (values : List BitVector) → values ≡ row_at store.values p → widths values ≡ node_widths circuit.nodes
        wide_values store s values is =
            let h = found_here in
            ap widths is ∙ s.values p id form h.0 h.1 ∙ ap (λ (g : Graph). node_widths g.nodes) (sym circuit_is)

  -- ---- other rows that are as wide

  pub refit : (old new : Contents) → IsFit (given c old)
      → ((p : ℕ) (id : EntryId) (form : FormView) (plan : PlanView) → IsInstance (given c old) p id form plan → widths (row_at new.registers p) ≡ node_widths form.circuit.nodes)
      → ((p : ℕ) (id : EntryId) (form : FormView) (plan : PlanView) → IsInstance (given c old) p id form plan → map widths (row_at new.words p) ≡ map memory_widths form.circuit.memories)
      → IsFit (given c new)
  refit old new fit registers words = record { instances = instances; up = fit.up }
    where
      instances : (p : ℕ) → p < length c.entries → (id : EntryId) × (form : FormView) × (plan : PlanView) × IsInstance (given c new) p id form plan × IsFitAt (given c new) p id form plan
      instances p within =
          let i = fit.instances p within in (
            i.0,
            i.1,
            i.2,
            instance_of old new p i.0 i.1 i.2 i.3,
            record {
              parts = i.4.parts;
              few = i.4.few;
              registers = registers p i.0 i.1 i.2 i.3;
              words = words p i.0 i.1 i.2 i.3;
              first = i.4.first;
              kids = i.4.kids;
              steps = i.4.steps;
            },
          )

  -- one instance has changed
  pub refit_at : (old new : Contents) (p : ℕ) (id : EntryId) (form : FormView) → IsFit (given c old) → slice_get c.entries p ≡ Some id → slice_get c.forms id.0 ≡ Some form
      → widths (row_at new.registers p) ≡ node_widths form.circuit.nodes → map widths (row_at new.words p) ≡ map memory_widths form.circuit.memories
      → ((q : ℕ) → ¬ (p ≡ q) → IsSameAt q old new) → IsFit (given c new)
  refit_at old new p id form fit at found registers words others = refit old new fit (λ q e f plan is. wide q e f plan is (equal_or_not p q)) (λ q e f plan is. wide_memories q e f plan is (equal_or_not p q))
    where
      own : (e : EntryId) (f : FormView) (plan : PlanView) → IsInstance (given c old) p e f plan → form ≡ f
      own e f plan is = sym (one_form (given c old) p e f plan id form is at found)

      wide : (q : ℕ) (e : EntryId) (f : FormView) (plan : PlanView) → IsInstance (given c old) q e f plan → (p ≡ q) ⊎ (p ≢ q) → widths (row_at new.registers q) ≡ node_widths f.circuit.nodes
      wide q e f plan is (inl same) =
          let here : IsInstance (given c old) p e f plan = subst (λ (k : ℕ). IsInstance (given c old) k e f plan) (sym same) is in
          ap (λ (k : ℕ). widths (row_at new.registers k)) (sym same) ∙ registers ∙ ap (λ (h : FormView). node_widths h.circuit.nodes) (own e f plan here)
      wide q e f plan is (inr other) =
          let fits = fits_here (given c old) q fit e f plan is in
          let o = others q other in
          ap widths o.registers ∙ fits.registers

      wide_memories : (q : ℕ) (e : EntryId) (f : FormView) (plan : PlanView) → IsInstance (given c old) q e f plan → (p ≡ q) ⊎ (p ≢ q) → map widths (row_at new.words q) ≡ map memory_widths f.circuit.memories
      wide_memories q e f plan is (inl same) =
          let here : IsInstance (given c old) p e f plan = subst (λ (k : ℕ). IsInstance (given c old) k e f plan) (sym same) is in
          ap (λ (k : ℕ). map widths (row_at new.words k)) (sym same) ∙ words ∙ ap (λ (h : FormView). map memory_widths h.circuit.memories) (own e f plan here)
      wide_memories q e f plan is (inr other) =
          let fits = fits_here (given c old) q fit e f plan is in
          let o = others q other in
          ap (map widths) o.words ∙ fits.words

  -- what is so of the entry and form that the code finds is so of those of the instance
  pub of_found : (contents : Contents) (p : ℕ) (id : EntryId) (form : FormView) → slice_get c.entries p ≡ Some id → slice_get c.forms id.0 ≡ Some form → (P : EntryId → FormView → Type 0) → P id form
      → (e : EntryId) (f : FormView) (plan : PlanView) → IsInstance (given c contents) p e f plan → P e f
  of_found contents p id form at found P h e f plan is =
      let ids : id ≡ e = sym (one_entry (given c contents) p e id is.entry at) in
      let forms : form ≡ f = sym (one_form (given c contents) p e f plan id form is at found) in
      subst (λ (x : FormView). P e x) forms (subst (λ (x : EntryId). P x form) ids h)

-- ---- rows that stay

pub same_none : (p : ℕ) (contents : Contents) → IsSameAt p contents contents
same_none p contents = record { registers = refl; words = refl }

pub same_then : (p : ℕ) (old mid new : Contents) → IsSameAt p old mid → IsSameAt p mid new → IsSameAt p old new
same_then p old mid new a b = record { registers = b.registers ∙ a.registers; words = b.words ∙ a.words }

pub same_back : (p : ℕ) (old new : Contents) → IsSameAt p old new → IsSameAt p new old
same_back p old new s = record { registers = sym s.registers; words = sym s.words }
